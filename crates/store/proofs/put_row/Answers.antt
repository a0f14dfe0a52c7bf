-- `store::put_row` meets its contract: the lent part comes back with r in its place.
-- Assumes nothing.
use Rattle.rows.specs.Rows.{put_row}
use Rattle.store.proofs.Parts.{read-region, one_more, lent-words, wrote-rows}
use Rattle.store.proofs.put_row.Goals as goal

pub put-requires : goal.put-requires
put-requires c =
    let words = lent-words _ _ c.end.ensures in
    record {
      region = read-region c.requires.kept c.count-count.ensures words;
      w_in_bounds = one_more c.requires.kept c.count-count.ensures words (rw c.count-count.ensures c.requires.store_bound);
      r_len = c.requires.r_len;
    }

pub returns : goal.returns
returns c = wrote-rows c.requires.kept c.count-count.ensures c.end.ensures (put_row _) c.put.auto.s _ c.put.ensures
