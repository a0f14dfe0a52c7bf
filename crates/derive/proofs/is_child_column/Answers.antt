-- `is_child_column` meets its contract.
-- Assumes nothing.
use Rattle.std.proofs.Common.{rules, tests}
use Rattle.lists.proofs.Chains.{some-from_any}
use Rattle.derive.specs.Derived.{leaves_by}
use Rattle.derive.proofs.is_child_column.Goals as goal

pub returns : goal.returns
unfolding leaves_by
returns c = some-from_any _ _ _ _ c.edges.ensures c.any.ensures.ran (λ x b q k. search (rules, tests))
