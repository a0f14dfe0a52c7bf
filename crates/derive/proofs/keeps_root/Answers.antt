-- `keeps_root` meets its contract.
-- Assumes nothing.
use Rattle.std.proofs.Common.{rules, tests}
use Rattle.derive.proofs.Roots.{keeps-test}
use Rattle.derive.proofs.keeps_root.Goals as goal

pub returns-then-edge-ne1 : goal.returns-then-edge-ne1
returns-then-edge-ne1 c = rw (keeps-test _ _ _ c.edge_no-edge.ensures) (search (rules, tests))

pub returns-then-edge-t : goal.returns-then-edge-t
returns-then-edge-t c = rw (keeps-test _ _ _ c.edge_no-edge.ensures, ← c.is_listed.ensures) (search (rules, tests))

pub returns-else-edge-t : goal.returns-else-edge-t
returns-else-edge-t c = rw (keeps-test _ _ _ c.edge_no-edge.ensures) (search (rules, tests))
