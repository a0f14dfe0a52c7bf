-- `depends` meets its contract, by the ways through a walk of Dep+ from its far end. The number of edges left falls with each call.
-- Assumes nothing.
use Rattle.derive.proofs.Steps.{dep-end, dep-none, dep-loose, dep-here, dep-on}
use native.Mathlib.Omega.{arith}
use Rattle.derive.proofs.+depends.Goals as goal

pub returns-then-left-eq0 : goal.returns-then-left-eq0
returns-then-left-eq0 t c = dep-end _ _ _ _ c.if-left-eq0.true

pub returns-then-edges-k : goal.returns-then-edges-k
returns-then-edges-k t c = dep-none _ _ _ c.edge_into-k.ensures _ _ (omega arith)

pub returns-then-edge-ne1 : goal.returns-then-edge-ne1
returns-then-edge-ne1 t c =
    dep-loose _ _ _ c.edge_into-k.ensures _ c.requires (omega arith) c.edge_no-edge.ensures _ c.if-edge-ne1.true

pub returns-then-edge-t : goal.returns-then-edge-t
returns-then-edge-t t c =
    dep-here _ _ _ c.edge_into-k.ensures _ c.requires (omega arith) c.edge_no-edge.ensures _ c.if-left-eq0.false c.if-edge-ne1.false
    c.if-edge-t.true

pub returns : goal.returns
returns t c =
    dep-on _ _ _ c.edge_into-k.ensures _ c.requires (omega arith) c.edge_no-edge.ensures _ _ c.if-left-eq0.false c.if-edge-ne1.false
    c.if-edge-t.false c.depends.ensures
