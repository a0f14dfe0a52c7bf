-- `passes` and `lets` meet their contracts.
-- Assumes nothing.
use mathlib.Core.Path.{refl, sym, ap, ◌∙◌}
use mathlib.Core.Bool.{not}
use Rattle.lists.specs.Loops.{every}
use Rattle.lists.proofs.Loops.{every_more}
use Rattle.base_run.proofs.Tests.{parent_in}
use Rattle.base_qualified.proofs.Bases.{based}
use Rattle.base_qualified.proofs.Steps.{child-row, lets-other, lets-lost, lets-through, parent_row, passes_none, passes-unmet, passes-fails, passes-holds}
use native.Mathlib.Omega.{arith}
use Rattle.base_qualified.proofs.+rows.Goals.{passes-then-k-eq0-via-then-k-eq0, passes-then-k-eq0-via-else-k-eq0+then-not-row_meets}
use Rattle.base_qualified.proofs.+rows.Goals as goal

pub lets-returns-then-not-asked_from : goal.lets-returns-then-not-asked_from
lets-returns-then-not-asked_from t c = sym (lets-other _ _ _ _ _ _ _ (sym c.asked_from.ensures ∙ c.if-not-asked_from.true))

pub lets-parent_of-requires-clause-i_bound : goal.lets-parent_of-requires-clause-i_bound
lets-parent_of-requires-clause-i_bound t c =
    child-row (based c.args.base.now) _ _ _ _ (sym c.asked_from.ensures ∙ c.if-not-asked_from.false) c.requires.i_bound

pub lets-returns-in_default : goal.lets-returns-in_default
lets-returns-in_default t c =
    sym (lets-lost _ _ _ _ _ _ _ (sym c.asked_from.ensures ∙ c.if-not-asked_from.false) c.parent_of.ensures c.in_default.is)

pub lets-passes-requires : goal.lets-passes-requires
lets-passes-requires t c =
    let here = parent_row (based c.args.base.now) _ _ _ _ c.requires.e_bound c.edge_no.ensures c.parent_of.ensures c.in-Some.is in
    (omega arith, (parent_in c.args.base.now.ordered.tables.laid c.requires.e_bound c.edge_no.ensures, here))

pub lets-returns : goal.lets-returns
lets-returns t c =
    sym (lets-through _ _ _ _ _ _ _ (sym c.asked_from.ensures ∙ c.if-not-asked_from.false) c.parent_of.ensures (based c.args.base.now)
    c.requires.e_bound c.edge_no.ensures _ c.in-Some.is _ c.passes.ensures)

pub passes-returns-then-k-eq0 : goal.passes-returns-then-k-eq0
passes-returns-then-k-eq0 t c =
    elim c.then-k-eq0.branch [
      | passes-then-k-eq0-via-then-k-eq0 w ↦ passes_none _ _ _ _ _ _ w.if-k-eq0.true
      | passes-then-k-eq0-via-else-k-eq0+then-not-row_meets w ↦
          passes-unmet _ _ _ _ _ _ w.if-k-eq0.false _ w.row_meets.ensures (ap not w.if-not-row_meets.true)
    ]

pub passes-loop-e-init : goal.passes-loop-e-init
unfolding every
passes-loop-e-init t c = refl

pub passes-returns-then-not-lets : goal.passes-returns-then-not-lets
passes-returns-then-not-lets t c =
    passes-fails _ _ _ _ _ _ c.if-k-eq0.false _ c.row_meets.ensures (ap not c.if-not-row_meets.false) _ (omega arith)
    (sym c.lets.ensures ∙ c.if-not-lets.true)

pub passes-loop-e-preserved : goal.passes-loop-e-preserved
passes-loop-e-preserved t c = every_more _ _ c.loop-e.invariant (sym c.lets.ensures ∙ c.if-not-lets.false)

pub passes-returns : goal.passes-returns
passes-returns t c =
    passes-holds _ _ _ _ _ _ c.if-k-eq0.false _ c.row_meets.ensures (ap not c.if-not-row_meets.false) _ (omega arith) (omega arith) c.loop-e.invariant
