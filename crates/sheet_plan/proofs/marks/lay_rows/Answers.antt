-- `lay_rows` meets its contract.
-- Assumes nothing.
use Rattle.std.proofs.Common.{arith}
use Rattle.lists.specs.Loops.{filled}
use Rattle.sheet_plan.specs.Marks.{lists_to, places_to}
use Rattle.sheet_plan.proofs.Laying.{lists-end, places-end}
use Rattle.sheet_plan.proofs.marks.lay_rows.Goals as goal

pub loop-t-init : goal.loop-t-init
unfolding lists_to places_to filled
loop-t-init c = record { lists-are = c.requires.lists_value; places-are = c.requires.places_value }

pub returns : goal.returns
returns c =
    record {
      lists_after = lists-end _ _ c.requires.n_le_most_tables c.requires.unmarked_from _ _ (omega arith) c.loop-t-test.false c.loop-t.invariant.lists-are;
      places_after = places-end _ _ c.requires.n_le_most_tables c.requires.unmarked_from _ _ (omega arith) c.loop-t-test.false c.loop-t.invariant.places-are;
    }
