-- `side_table::find_side` meets its contract: the part's rows are the table's.
-- Assumes nothing.
use Rattle.std.proofs.Common.{ap, ap₂, ◌∙◌, length}
use Rattle.rows.specs.Ranks.{found_row}
use Rattle.side_table.proofs.Parts.{entry-side, side-narrow, side-long, side-head, side-kept, side-rows}
use Rattle.side_table.proofs.find_side.Goals as goal

pub row-requires : goal.row-requires
row-requires c = side-narrow (entry-side _ _ c.requires.good_plan _ c.requires.t_bound c.in_ok-entry.ensures)

pub find_row-requires : goal.find_row-requires
find_row-requires c =
    let side = entry-side _ _ c.requires.good_plan _ c.requires.t_bound c.in_ok-entry.ensures in
    record {
      kept = side-kept side c.requires.modelled;
      r_len = ap length c.row.ensures ∙ side-long side (c.in_ok-entry.ensures).begins;
    }

pub returns : goal.returns
returns c =
    let side = entry-side _ _ c.requires.good_plan _ c.requires.t_bound c.in_ok-entry.ensures in
    c.find_row.ensures ∙ ap₂ found_row (c.row.ensures ∙ side-head side (c.in_ok-entry.ensures).begins) (side-rows side _)
