-- `side_table::put_side` meets its contract: the part is written with the row in it, or the table is unkept.
-- Assumes nothing.
use Rattle.std.proofs.Common.{ap, ◌∙◌, length}
use Rattle.side_table.proofs.Parts.{entry-side, side-narrow, side-long, side-kept}
use Rattle.side_table.proofs.Writes.{room-left, put-unkept, put-kept}
use Rattle.side_table.proofs.put_side.Goals as goal

pub row-requires : goal.row-requires
row-requires c = side-narrow (entry-side _ _ c.requires.good_plan _ c.requires.t_bound c.in-Some.ensures)

pub put_row-requires : goal.put_row-requires
put_row-requires c =
    let side = entry-side _ _ c.requires.good_plan _ c.requires.t_bound c.in-Some.ensures in
    record {
      kept = side-kept side c.requires.modelled;
      store_bound = room-left side c.requires.modelled c.requires.t;
      r_len = ap length c.row.ensures ∙ side-long side (c.in-Some.ensures).begins;
    }

pub returns-in-Some : goal.returns-in-Some
returns-in-Some c =
    let side = entry-side _ _ c.requires.good_plan _ c.requires.t_bound c.in-Some.ensures in
    put-kept side c.requires.modelled (c.in-Some.ensures).begins _ (rw c.row.ensures at c.put_row.ensures)

pub returns-in_default : goal.returns-in_default
returns-in_default c = put-unkept _ _ c.requires.t_bound c.in_default.ensures _ _
