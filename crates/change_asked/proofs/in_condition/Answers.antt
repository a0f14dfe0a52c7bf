-- `in_condition` meets its contract.
-- Assumes nothing.
use Rattle.std.proofs.Common.{rules, tests}
use Rattle.lists.proofs.Chains.{some-from_any}
use Rattle.change_asked.specs.Asked.{condition_on}
use Rattle.change_asked.proofs.in_condition.Goals as goal

pub returns : goal.returns
unfolding condition_on
returns c = some-from_any _ _ _ _ c.conditions.ensures c.any.ensures.ran (λ x b q k. search (rules, tests))
