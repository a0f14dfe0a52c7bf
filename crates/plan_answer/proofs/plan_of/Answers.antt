-- `plan_of` meets its contract: the plan laid out for a good sheet, and the refusal alone for any other.
-- Assumes nothing.
use Rattle.std.proofs.lemmas.Result.{err_from_is_err_and}
use Rattle.sheet.proofs.Good.{good-sheet}
use Rattle.sheet_plan.proofs.Planning.{checked-zero}
use Rattle.plan_answer.proofs.Laid.{plan-good, plan-refused, answerable}
use Rattle.plan_answer.proofs.plan_of.Goals as goal

pub returns-in_err-p : goal.returns-in_err-p
returns-in_err-p c =
    let p = err_from_is_err_and c.from_residual.result c.from_residual.ensures.1 in
    rw (p.1, p.2) (plan-refused _ _ c.in_err-p.ensures)

pub dep_marks-dep-requires : goal.dep_marks-dep-requires
dep_marks-dep-requires c = good-sheet _ (checked-zero _ _ c.in_ok-p.ensures)

pub need_marks-need-requires : goal.need_marks-need-requires
need_marks-need-requires c = good-sheet _ (checked-zero _ _ c.in_ok-p.ensures)

pub answer_for-requires : goal.answer_for-requires
answer_for-requires c =
    let both = answerable _ _ c.in_ok-p.ensures in
    record {
      tables_le_most_tables = both.0;
      lengths = both.1;
    }

pub returns : goal.returns
returns c = plan-good _ _ c.in_ok-p.ensures _ _ _ c.dep_marks-dep.ensures c.need_marks-need.ensures c.answer_for.ensures
