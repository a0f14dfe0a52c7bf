-- `check` meets its contract: the plan of a sheet that passes, and the refusal of one that does not.
-- Assumes nothing.
use mathlib.Core.Path.{sym}
use Rattle.std.proofs.lemmas.Result.{err_from_is_err_and}
use Rattle.sheet.proofs.Good.{good-zero, good-sheet, refused-is}
use Rattle.sheet_plan.proofs.Planning.{checked-good, checked-refused}
use Rattle.sheet_plan.proofs.check.Goals as goal

pub returns-in_err-verdict_of : goal.returns-in_err-verdict_of
returns-in_err-verdict_of c =
    let p = err_from_is_err_and c.from_residual.result c.from_residual.ensures.1 in
    rw (p.1, p.2) (checked-refused _ _ (refused-is _ _ (sym c.in_err-verdict_of.ensures)))

pub plan_for-requires : goal.plan_for-requires
plan_for-requires c = good-sheet _ (good-zero _ _ (sym c.in_ok-verdict_of.ensures))

pub returns : goal.returns
returns c = rw c.plan_for.ensures (checked-good _ (good-zero _ _ (sym c.in_ok-verdict_of.ensures)))
