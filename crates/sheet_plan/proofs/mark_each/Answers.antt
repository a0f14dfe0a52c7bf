-- `mark_each` meets its contract.
-- Assumes nothing.
use Rattle.std.proofs.Common.{refl, arith}
use Rattle.sheet_plan.specs.Marked.{marked_by}
use Rattle.sheet_plan.proofs.Marking.{marked_more, marked-end}
use Rattle.sheet_plan.proofs.mark_each.Goals as goal

pub loop-k-init : goal.loop-k-init
unfolding marked_by
loop-k-init g c = λ f h. refl

pub loop-k-preserved : goal.loop-k-preserved
loop-k-preserved g c = λ f h. marked_more f _ _ _ _ _ (c.loop-k.invariant f h) (h _ _ c.loop-k-test.true c.place-t.ensures) refl

pub returns : goal.returns
returns g c = λ f h. marked-end f _ _ _ _ (omega arith) (omega arith) (c.loop-k.invariant f h)
