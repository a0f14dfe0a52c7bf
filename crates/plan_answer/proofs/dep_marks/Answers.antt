-- `dep_marks` meets its contract. The number of one call is named c too: what 64 calls gave, in the other c, is more than a search reads.
-- Assumes nothing.
use Rattle.std.proofs.Common.{rules}
use Rattle.sheet_plan.proofs.FromFn.{all-filled-from_from_fn}
use Rattle.plan_answer.specs.Answers.{dep_at, dep_of}
use Rattle.plan_answer.proofs.Marks.{dep-mark}
use Rattle.plan_answer.proofs.dep_marks.Goals as goal

pub returns : goal.returns
unfolding dep_of
returns c =
    all-filled-from_from_fn _ _ (dep_at _) _ 64 c.from_fn.ensures.items (λ c r q s. search (rules, dep-mark))
