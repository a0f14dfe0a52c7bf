-- `store::take_row` meets its contract: the lent part comes back without r.
-- Assumes nothing.
use Rattle.rows.specs.Rows.{take_row}
use Rattle.store.proofs.Parts.{read-region, lent-words, wrote-rows}
use Rattle.store.proofs.take_row.Goals as goal

pub take-left-requires : goal.take-left-requires
take-left-requires c =
    record {
      region = read-region c.requires.kept c.count-count.ensures (lent-words _ _ c.end.ensures);
      r_len = c.requires.r_len;
    }

pub returns : goal.returns
returns c = wrote-rows c.requires.kept c.count-count.ensures c.end.ensures (take_row _) c.take-left.auto.s _ c.take-left.ensures
