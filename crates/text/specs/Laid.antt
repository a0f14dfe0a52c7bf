-- The text of the plan call's answer, in which a set is a row of marks.
-- Assumes nothing.
use Rattle.std.specs.Prelude.{ℕ, ◌++◌, get_or}
use Rattle.sheet_plan.specs.Marks.{marked_in}
use Rattle.plan_answer.specs.declared.PlanAnswer.{PlanAnswer}
use Rattle.text.specs.Reading.{Text}
use Rattle.text.specs.Printing.{sets_text, line_text, head_text, lines_up_to}

-- table t's sets, which are three runs of marks, its line, and all lines
abbrev pub sets_in : PlanAnswer → ℕ → Text
sets_in a t = sets_text (marked_in a.columns t) (marked_in a.dep t) (marked_in a.need t)

unfoldable pub line_of : PlanAnswer → ℕ → Text
line_of a t = line_text t (get_or a.kept t 0) (marked_in a.columns t) (marked_in a.dep t) (marked_in a.need t)

abbrev pub lines_in : PlanAnswer → Text
lines_in a = lines_up_to (line_of a) a.tables

unfoldable pub answer_text : PlanAnswer → Text
answer_text a = head_text a.root a.store ++ lines_in a
