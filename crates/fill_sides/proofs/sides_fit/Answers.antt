-- `sides_fit` meets its contract.
-- Assumes nothing.
use Rattle.std.proofs.Common.{rules, tests}
use Rattle.lists.proofs.Chains.{every-from_all}
use Rattle.fill_sides.proofs.sides_fit.Goals as goal

pub returns : goal.returns
returns c = every-from_all _ _ _ _ c.tables.ensures c.all.ensures.ran (λ x b q k. search (rules, tests))
