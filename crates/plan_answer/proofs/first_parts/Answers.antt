-- `first_parts` meets its contract.
-- Assumes nothing.
use Rattle.std.proofs.Common.{get_or, rules}
use Rattle.sheet_plan.proofs.FromFn.{filled-from_from_fn}
use Rattle.plan_answer.specs.Answers.{first_parts}
use Rattle.plan_answer.proofs.first_parts.Goals as goal

pub returns : goal.returns
unfolding first_parts
returns c =
    filled-from_from_fn _ _ (λ t. get_or c.args.parts.now t 0) _ _ 8 c.from_fn.ensures.items c.requires.n_le_most_tables (λ k r q s. search rules)
