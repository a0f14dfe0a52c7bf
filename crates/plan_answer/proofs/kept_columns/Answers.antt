-- `kept_columns` meets its contract. The number of one call is named c too: what 64 calls gave, in the other c, is more than a search reads.
-- Assumes nothing.
use Rattle.std.proofs.Common.{rules, tests}
use Rattle.sheet_plan.proofs.FromFn.{all-filled-from_from_fn}
use Rattle.plan_answer.specs.Answers.{kept_column, kept_columns}
use Rattle.plan_answer.proofs.kept_columns.Goals as goal

pub returns : goal.returns
unfolding kept_columns kept_column
returns c =
    all-filled-from_from_fn _ _ (kept_column _ _) _ 64 c.from_fn.ensures.items (λ c r q s. search (rules, tests))
