-- `edges_into` meets its contract.
-- Assumes nothing.
use Rattle.std.proofs.Common.{rules, tests}
use Rattle.sheet.proofs.Chains.{counted-from_count}
use Rattle.sheet.specs.Tree.{goes_no}
use Rattle.sheet.proofs.tree.edges_into.Goals as goal

pub returns : goal.returns
unfolding goes_no
returns c = counted-from_count _ _ c.edges.ensures c.filter.ensures.source c.filter.ensures.closure c.count.ensures.ran (λ x b q k. search (rules, tests))
