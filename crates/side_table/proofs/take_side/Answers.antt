-- `side_table::take_side` meets its contract: the part is written without the row, or the table is unkept.
-- Assumes nothing.
use Rattle.std.proofs.Common.{ap, ◌∙◌, length}
use Rattle.side_table.proofs.Parts.{entry-side, side-narrow, side-long, side-kept}
use Rattle.side_table.proofs.Writes.{take-unkept, take-kept}
use Rattle.side_table.proofs.take_side.Goals as goal

pub row-requires : goal.row-requires
row-requires c = side-narrow (entry-side _ _ c.requires.good_plan _ c.requires.t_bound c.in-Some.ensures)

pub take_row-requires : goal.take_row-requires
take_row-requires c =
    let side = entry-side _ _ c.requires.good_plan _ c.requires.t_bound c.in-Some.ensures in
    record {
      kept = side-kept side c.requires.modelled;
      r_len = ap length c.row.ensures ∙ side-long side (c.in-Some.ensures).begins;
    }

pub returns-in-Some : goal.returns-in-Some
returns-in-Some c =
    let side = entry-side _ _ c.requires.good_plan _ c.requires.t_bound c.in-Some.ensures in
    take-kept side c.requires.modelled (c.in-Some.ensures).begins _ (rw c.row.ensures at c.take_row.ensures)

pub returns-in_default : goal.returns-in_default
returns-in_default c = take-unkept _ _ c.requires.t_bound c.in_default.ensures _ _
