-- `write_part` meets its contract. The loop's invariant: the side rows of the first j rows in key order stand at the part's front.
-- Assumes nothing.
use Prim.Native.Nat.{◌≤◌}
use lib.ListN.{length}
use Rattle.fill_sides.specs.Sides.{rows_to, Front}
use Rattle.fill_sides.proofs.write_part.Given as goal

abbrev pub invariant-loop-r : goal.invariant-loop-r
invariant-loop-r l =
    let ordered = l.base.ordered in
    (l.many ≤ l.r-index)
    × Front (rows_to ordered.tables.sheet.now ordered.tables.run.now ordered.numbers.now l.t l.r-index) (length l.initial.part) l.many l.part
