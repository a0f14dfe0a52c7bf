-- The loop's invariant: the rows before t are laid.
-- Assumes nothing.
use Rattle.std.proofs.Common.{◌≡◌, ◌*◌}
use Rattle.sheet_plan.specs.Marks.{lists_to, places_to}
use Rattle.sheet_plan.proofs.marks.lay_rows.Given as goal

abbrev pub invariant-loop-t : goal.invariant-loop-t
invariant-loop-t l = record { lists-are : l.lists ≡ lists_to l.marks (8 * l.t); places-are : l.places ≡ places_to l.marks (8 * l.t) }
