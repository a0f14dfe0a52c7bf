-- `side_table::entry_of` meets its contract: the head of the words comes back with the shown columns.
-- Assumes nothing.
use Rattle.std.proofs.Common.{sym, ◌∙◌, replicate}
use lib.Seq.{length-take-le}
use Rattle.side_table.proofs.Parts.{side-marked, side-columns, side-narrow}
use Rattle.side_table.proofs.Shown.{shown-back}
use Rattle.side_table.proofs.entry_of.Goals as goal

pub slice_bounds-words-end : goal.slice_bounds-words-end
slice_bounds-words-end c =
    side-narrow (side-marked _ _ c.requires.good_plan _ c.requires.t_bound c.if-plan-t-eq0.false _ c.part_of-part.ensures)

pub slice_bounds-side_row-end : goal.slice_bounds-side_row-end
slice_bounds-side_row-end c =
    let side = side-marked _ _ c.requires.good_plan _ c.requires.t_bound c.if-plan-t-eq0.false _ c.part_of-part.ensures in
    sym (length-take-le _ (replicate 8 0) (side-narrow side))

pub side_row-requires-clause-row_len : goal.side_row-requires-clause-row_len
side_row-requires-clause-row_len c =
    let side = side-marked _ _ c.requires.good_plan _ c.requires.t_bound c.if-plan-t-eq0.false _ c.part_of-part.ensures in
    length-take-le _ (replicate 8 0) (side-narrow side) ∙ side-columns side

pub returns : goal.returns
returns c =
    let side = side-marked _ _ c.requires.good_plan _ c.requires.t_bound c.if-plan-t-eq0.false _ c.part_of-part.ensures in
    let long = c.side_row.auto.row ∙ length-take-le _ (replicate 8 0) (side-narrow side) ∙ side-columns side in
    record { is-kept = side.is-kept; lies = side.lies; begins = record { head = shown-back _ _ _ _ long c.side_row.ensures } }
