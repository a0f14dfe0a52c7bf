-- The loop's invariant: `many` numbers before c are marked, and the numbers before c are laid.
-- Assumes nothing.
use Rattle.std.proofs.Common.{◌≡◌, ◌+◌, ◌*◌, ◌≤◌}
use Rattle.sheet.specs.Counted.{counted}
use Rattle.sheet_plan.specs.Marks.{has_mark, lists_to, places_to}
use Rattle.sheet_plan.proofs.marks.lay_row.Given as goal

abbrev pub invariant-loop-c : goal.invariant-loop-c
invariant-loop-c l =
    record {
      few : l.many ≤ l.c;
      many-is : l.many ≡ counted (has_mark l.marks l.t) l.c;
      lists-are : l.lists ≡ lists_to l.marks (8 * l.t + l.c);
      places-are : l.places ≡ places_to l.marks (8 * l.t + l.c);
    }
