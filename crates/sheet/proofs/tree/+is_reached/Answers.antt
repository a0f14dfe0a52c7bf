-- `is_reached` meets its contract.
-- Assumes nothing.
use mathlib.Core.Path.{ap, ◌∙◌}
use Rattle.sheet.specs.Tree.{reached_no}
use Rattle.sheet.proofs.Into.{reached-root, reached-stop, reached-on}
use native.Mathlib.Omega.{arith}
use Rattle.sheet.proofs.tree.+is_reached.Goals as goal

pub returns-then-edges-k : goal.returns-then-edges-k
returns-then-edges-k t c = reached-root _ _ _ c.edge_into-k.ensures _ (omega arith)

pub returns-then-left-eq0 : goal.returns-then-left-eq0
returns-then-left-eq0 t c = reached-stop _ _ _ c.edge_into-k.ensures _ c.if-left-eq0.true (omega arith)

pub returns : goal.returns
returns t c = reached-on _ _ _ c.edge_into-k.ensures _ _ c.if-left-eq0.false (c.requires.0.one-into _ c.requires.1) (omega arith)
    (c.is_reached.ensures ∙ ap (reached_no _ _) c.edge_no-edge.ensures.child-is)
