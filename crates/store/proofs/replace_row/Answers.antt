-- `store::replace_row` meets its contract: the lent part comes back with r over a row.
-- Assumes nothing.
use Rattle.std.proofs.Common.{set}
use Rattle.store.proofs.Parts.{read-region, read-rows, lent-words, wrote-over}
use Rattle.store.proofs.replace_row.Goals as goal

pub replace-requires : goal.replace-requires
replace-requires c =
    let words = lent-words _ _ c.end.ensures in
    record {
      region = read-region c.requires.kept c.count-count.ensures words;
      at_lt_count = rw c.count-count.ensures c.requires.at_bound;
      r_len = c.requires.r_len;
      t = rw (read-rows c.requires.kept c.count-count.ensures words) c.requires.t;
    }

pub returns : goal.returns
returns c = wrote-over c.requires.kept c.count-count.ensures c.end.ensures (λ rows. set rows c.args.at c.args.r.now) c.replace.auto.s c.replace.ensures
