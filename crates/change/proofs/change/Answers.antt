-- `change` meets its contract: one law for each way through it.
-- Assumes nothing.
use mathlib.Core.Path.{sym}
use Rattle.std.proofs.lemmas.Result.{err_from_is_err_and}
use Rattle.sheet.proofs.Good.{good-sheet}
use Rattle.sheet_plan.proofs.Planning.{checked-zero}
use Rattle.change_asked.proofs.ByKind.{kind-is, kind-refused}
use Rattle.store.proofs.Checks.{check-of}
use Rattle.change.proofs.Changing.{says-sheet, says-length, says-asked, says-unsound, is-ready, says-applied}
use Rattle.change.proofs.change.Goals as goal

pub returns-in_err-plan : goal.returns-in_err-plan
returns-in_err-plan c =
    let p = err_from_is_err_and c.from_residual.result c.from_residual.ensures.1 in
    rw (p.1, p.2) (says-sheet _ _ _ _ c.in_err-plan.ensures)

pub returns-then-store-plan : goal.returns-then-store-plan
returns-then-store-plan c = says-length _ _ _ _ c.in_ok-plan.ensures c.if-store-plan.true

pub returns-in_err-kind : goal.returns-in_err-kind
returns-in_err-kind c =
    let p = err_from_is_err_and c.from_residual-in_err-kind.result c.from_residual-in_err-kind.ensures.1 in
    rw (p.1, p.2) (says-asked _ _ _ _ c.in_ok-plan.ensures c.if-store-plan.false _ (kind-refused _ _ _ _ _ _ c.in_err-kind.ensures))

pub asked-requires : goal.asked-requires
asked-requires c = good-sheet _ (checked-zero _ _ c.in_ok-plan.ensures)

pub returns-in_err-asked : goal.returns-in_err-asked
returns-in_err-asked c =
    let p = err_from_is_err_and c.from_residual-in_err-asked.result c.from_residual-in_err-asked.ensures.1 in
    rw (p.1, p.2, kind-is _ _ c.in_ok-kind.ensures) (says-asked _ _ _ _ c.in_ok-plan.ensures c.if-store-plan.false _ c.in_err-asked.ensures)

pub is_sound-requires : goal.is_sound-requires
is_sound-requires c = check-of _ _ c.in_ok-plan.ensures

pub returns-then-not-is_sound : goal.returns-then-not-is_sound
returns-then-not-is_sound c =
    rw (kind-is _ _ c.in_ok-kind.ensures) (says-unsound _ _ _ _ c.in_ok-plan.ensures c.if-store-plan.false c.in_ok-asked.ensures _ c.is_sound.ensures
    c.if-not-is_sound.true)

pub apply-requires : goal.apply-requires
apply-requires c =
    record {
      ready = is-ready _ _ _ _ c.in_ok-plan.ensures c.if-store-plan.false c.in_ok-asked.ensures _ c.is_sound.ensures
          c.if-not-is_sound.false;
      value = sym c.in_ok-asked.ensures;
    }

pub returns : goal.returns
returns c =
    rw (kind-is _ _ c.in_ok-kind.ensures) (says-applied _ _ _ _ c.in_ok-plan.ensures c.if-store-plan.false c.in_ok-asked.ensures _ c.is_sound.ensures
    c.if-not-is_sound.false _ _ c.apply.ensures)
