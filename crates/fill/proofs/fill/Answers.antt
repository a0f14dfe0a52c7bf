-- `fill` meets its contract.
-- Assumes nothing.
use mathlib.Core.Path.{sym, ◌∙◌}
use Rattle.std.proofs.lemmas.Result.{err_from_is_err_and}
use Rattle.sheet.proofs.Good.{good-sheet}
use Rattle.sheet_plan.proofs.Planning.{checked-zero}
use Rattle.fill.proofs.Outcomes.{sheet-refused, stored, short-refused, run-refused}
use Rattle.fill.proofs.fill.Goals as goal

pub returns-in_err-plan : goal.returns-in_err-plan
returns-in_err-plan c =
    let p = err_from_is_err_and c.from_residual.result c.from_residual.ensures.1 in
    rw (p.1, p.2) (sheet-refused _ _ _ _ c.in_err-plan.ensures)

pub returns-then-store-plan : goal.returns-then-store-plan
returns-then-store-plan c = short-refused _ _ _ _ c.in_ok-plan.ensures c.if-store-plan.true

pub run_ok-requires : goal.run_ok-requires
run_ok-requires c = good-sheet _ (checked-zero _ _ c.in_ok-plan.ensures)

pub returns-then-not-run_ok : goal.returns-then-not-run_ok
returns-then-not-run_ok c =
    run-refused (stored _ _ c.args.base.now _ c.in_ok-plan.ensures c.if-store-plan.false) _
    (sym c.run_ok.ensures ∙ c.if-not-run_ok.true)

pub fill_run-requires : goal.fill_run-requires
fill_run-requires c =
    record {
      stored = stored _ _ c.args.base.now _ c.in_ok-plan.ensures c.if-store-plan.false;
      run_value = sym c.run_ok.ensures ∙ c.if-not-run_ok.false;
    }

pub returns : goal.returns
returns c = c.fill_run.ensures
