-- `put_set` meets its contract.
-- Assumes nothing.
use Rattle.std.proofs.Common.{arith}
use borrow.Author.Tests.{eq-eqb, ne_eqb}
use Rattle.sheet_plan.specs.Marks.{has_mark, marked_in}
use Rattle.text.proofs.Sets.{passing-none, passing-over, passing-in, set-none, set-some}
use Rattle.text.proofs.printing.put_set.Goals as goal
use Rattle.text.proofs.printing.put_set.Goals.{then-marks-t-eq1, else-marks-t-eq1}

pub loop-x-init : goal.loop-x-init
loop-x-init c = passing-none _ _ _

pub loop-x-preserved : goal.loop-x-preserved
unfolding has_mark
loop-x-preserved c =
    elim c.if-marks-t-eq1.branch [
      | then-marks-t-eq1 w ↦
          rw (w.out-is, w.end-is)
          (passing-in _ _ _ _ _ _ c.loop-x.invariant (eq-eqb _ _ w.if-marks-t-eq1.true) (omega arith) _ _ w.put_member-end.ensures)
      | else-marks-t-eq1 w ↦ rw (w.out-is, w.end-is) (passing-over _ _ _ _ _ _ c.loop-x.invariant (ne_eqb _ _ w.if-marks-t-eq1.false))
    ]

pub returns-then-end-at-clause-put_at : goal.returns-then-end-at-clause-put_at
unfolding marked_in
returns-then-end-at-clause-put_at c = set-none _ _ _ _ _ _ c.loop-x.invariant _ (omega arith) c.loop-x-test.false c.if-end-at.true

pub returns-clause-put_at : goal.returns-clause-put_at
unfolding marked_in
returns-clause-put_at c = set-some _ _ _ _ _ _ c.loop-x.invariant _ (omega arith) c.loop-x-test.false c.if-end-at.false
