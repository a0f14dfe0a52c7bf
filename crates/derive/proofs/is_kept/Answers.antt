-- `is_kept` meets its contract.
-- Assumes nothing.
use Rattle.std.proofs.Common.{arith, rules, tests, ◌∙◌}
use borrow.Author.Tests.{lt-ltb}
use Rattle.lists.proofs.Chains.{some-from_any}
use Rattle.derive.proofs.Roots.{kept-child, kept-root}
use Rattle.derive.proofs.is_kept.Goals as goal

pub returns-then-edge_into-e : goal.returns-then-edge_into-e
returns-then-edge_into-e c =
    lt-ltb _ _ c.if-edge_into-e.true ∙ kept-child _ c.requires.good_sheet _ _ c.requires.t_bound c.edge_into.ensures (omega arith)

pub returns-else-edge_into-e : goal.returns-else-edge_into-e
returns-else-edge_into-e c =
    some-from_any _ _ _ _ c.edges-e.ensures c.any.ensures.ran (λ x b q k. search (rules, tests))
    ∙ kept-root _ c.requires.good_sheet _ _ c.requires.t_bound c.edge_into.ensures (omega arith)
