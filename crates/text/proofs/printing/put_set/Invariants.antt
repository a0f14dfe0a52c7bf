-- The loop's invariant: the numbers before x stand in the buffer, two bytes each at most.
-- Assumes nothing.
use Rattle.sheet_plan.specs.Marks.{has_mark}
use Rattle.text.proofs.Sets.{PassingPut}
use Rattle.text.proofs.printing.put_set.Given as goal

abbrev pub invariant-loop-x : goal.invariant-loop-x
invariant-loop-x l = PassingPut (has_mark l.marks l.t) l.fn.out l.at l.x l.out l.end
