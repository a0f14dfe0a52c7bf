-- `needs` meets its contract, by the ways through the definition of Need. The number of tables left falls with each call.
-- Assumes nothing.
use mathlib.Core.Path.{sym, ◌∙◌}
use Rattle.derive.proofs.Steps.{need-end, need-listed, need-root, need-child, need-on}
use native.Mathlib.Omega.{arith}
use Rattle.derive.proofs.+needs.Goals as goal

pub returns-then-left-eq0 : goal.returns-then-left-eq0
returns-then-left-eq0 t c = need-end _ _ _ _ c.if-left-eq0.true

pub returns-then-is_listed : goal.returns-then-is_listed
returns-then-is_listed t c = need-listed _ _ _ _ c.if-left-eq0.false (sym c.is_listed.ensures ∙ c.if-is_listed.true)

pub returns-then-edges-k : goal.returns-then-edges-k
returns-then-edges-k t c =
    c.is_other.ensures ∙ need-root _ _ _ c.requires.0 c.requires.1 (sym c.is_listed.ensures ∙ c.if-is_listed.false) _
    c.edge_into-k.ensures _ _ c.if-left-eq0.false (omega arith) c.tables.ensures

pub returns-then-edge-u : goal.returns-then-edge-u
returns-then-edge-u t c =
    need-child _ _ _ c.requires.0 c.requires.1 (sym c.is_listed.ensures ∙ c.if-is_listed.false) _ c.edge_into-k.ensures
    (omega arith) c.edge_no-edge.ensures _ c.if-left-eq0.false c.if-edge-u.true

pub returns : goal.returns
returns t c =
    need-on _ _ _ c.requires.0 c.requires.1 (sym c.is_listed.ensures ∙ c.if-is_listed.false) _ c.edge_into-k.ensures
    (omega arith) c.edge_no-edge.ensures _ _ c.if-left-eq0.false c.if-edge-u.false c.needs.ensures
