-- `edge_into` meets its contract.
-- Assumes nothing.
use Rattle.std.proofs.Common.{refl, sym, ◌∙◌, arith}
use borrow.Author.Tests.{eq-eqb, ne_eqb}
use Rattle.lists.proofs.Loops.{some_more, first-at, first-end}
use Rattle.sheet.specs.Tree.{goes_no}
use Rattle.lists.specs.Loops.{some}
use Rattle.sheet.proofs.tree.edge_into.Goals as goal

pub loop-k-init : goal.loop-k-init
unfolding some
loop-k-init c = refl

pub returns-then-edge_no-t : goal.returns-then-edge_no-t
unfolding goes_no
returns-then-edge_no-t c =
    sym
    (first-at _ _ _ (omega arith) c.loop-k.invariant
    (eq-eqb _ _ (sym c.edge_no.ensures.parent_is ∙ c.if-edge_no-t.true))).1

pub loop-k-preserved : goal.loop-k-preserved
unfolding goes_no
loop-k-preserved c = some_more _ _ c.loop-k.invariant (ne_eqb _ _ (λ q. c.if-edge_no-t.false (c.edge_no.ensures.parent_is ∙ q)))

pub returns : goal.returns
returns c = sym (first-end _ _ _ (omega arith) (omega arith) c.loop-k.invariant ∙ sym c.edges-e.ensures)
