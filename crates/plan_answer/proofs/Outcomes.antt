-- The plan call has one outcome: two answers that meet its contract are the same.
-- Assumes nothing.
use mathlib.Core.Path.{◌≡◌, sym, ◌∙◌}
use Rattle.std.specs.Prelude.{Result}
use Rattle.lists.specs.Lists.{Words}
use Rattle.sheet.specs.declared.refusal.Refusal.{Refusal}
use Rattle.meaning.specs.Plan.{plan}
use Rattle.plan_answer.specs.Answers.{answer_of}
use Rattle.plan_answer.specs.declared.PlanAnswer.{PlanAnswer}

pub one-outcome : (sheet : Words) (a b : Result PlanAnswer Refusal) → a ≡ answer_of (plan sheet) → b ≡ answer_of (plan sheet) → a ≡ b
one-outcome sheet a b p q = p ∙ sym q
