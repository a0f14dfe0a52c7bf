-- `side_table::replace_side` meets its contract: the new row stands over the old one, which is found, or the table is unkept.
-- Assumes nothing.
use Rattle.std.proofs.Common.{ap, ◌∙◌, length}
use Rattle.side_table.proofs.Parts.{entry-side, side-narrow, side-long, side-kept}
use Rattle.side_table.proofs.Writes.{replace-unkept, replace-there, replace-below, replace-up, replace-kept}
use Rattle.side_table.proofs.replace_side.Goals as goal

pub row-requires : goal.row-requires
row-requires c = side-narrow (entry-side _ _ c.requires.good_plan _ c.requires.t_bound c.in-Some.ensures)

pub replace_row-requires : goal.replace_row-requires
replace_row-requires c =
    let side = entry-side _ _ c.requires.good_plan _ c.requires.t_bound c.in-Some.ensures in
    let begins = (c.in-Some.ensures).begins in
    record {
      kept = side-kept side c.requires.modelled;
      at_bound = replace-below side c.requires.modelled c.requires.replaceable _ c.find_side.ensures _ c.in-Some-find_side.is;
      r_len = ap length c.row.ensures ∙ side-long side begins;
      t = rw c.row.ensures (replace-up side c.requires.modelled c.requires.replaceable _ c.find_side.ensures _ c.in-Some-find_side.is begins);
    }

pub returns-in-Some-find_side : goal.returns-in-Some-find_side
returns-in-Some-find_side c =
    let side = entry-side _ _ c.requires.good_plan _ c.requires.t_bound c.in-Some.ensures in
    replace-kept side c.requires.modelled c.requires.replaceable _ c.find_side.ensures _ c.in-Some-find_side.is
    (c.in-Some.ensures).begins _ (rw c.row.ensures at c.replace_row.ensures)

pub returns-in_default-find_side : goal.returns-in_default-find_side
returns-in_default-find_side c =
    absurd (replace-there _ _ _ _ _ c.requires.replaceable (c.in-Some.ensures).is-kept _ c.find_side.ensures c.in_default-find_side.is)

pub returns-in_default : goal.returns-in_default
returns-in_default c = replace-unkept _ _ c.requires.t_bound c.in_default.ensures _ _ _
