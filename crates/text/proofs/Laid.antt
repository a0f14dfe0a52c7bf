-- The text of the plan call's answer is the text of document 01's plan: the marks lose nothing of a rising set.
-- Assumes nothing.
use Prim.Native.Nat.{ℕ, ◌≤◌, ◌<◌}
use mathlib.Core.Path.{◌≡◌, sym, ap, ◌∙◌}
use mathlib.Core.List.{◌++◌}
use native.Mathlib.Omega.{arith}
use lib.ListN.{length}
use borrow.Author.Tests.{ne_eqb}
use Rattle.std.specs.Prelude.{Ok, Err}
use Rattle.lists.specs.Lists.{Words}
use Rattle.meaning.specs.Sheet.{Sheet, sheet_of}
use Rattle.meaning.specs.Plan.{Plan, table_plan, good_plan, no_plan, plan}
use Rattle.laws.specs.Sheets.{Good}
use Rattle.laws.proofs.Sheets.{good-sheet}
use Rattle.sheet.specs.declared.refusal.Refusal.{Refusal}
use Rattle.sheet.specs.Refusals.{refusal_number}
use Rattle.sheet.proofs.Refusals.{never-zero}
use Rattle.plan_answer.specs.Answers.{laid_out, answer_of}
use Rattle.plan_answer.specs.declared.PlanAnswer.{PlanAnswer}
use Rattle.plan_answer.proofs.Laid.{table-in, tables-many, answered-zero, answered-plan, answered-refused}
use Rattle.plan_answer.proofs.Sets.{good-read-back, plan-few}
use Rattle.text.specs.Printing.{table_text, head_text, refused_text, tables_text, lines_up_to, plan_text}
use Rattle.text.specs.Laid.{line_of, lines_in, answer_text}
use Rattle.text.proofs.Lines.{tables-lines, lines_same}

good-tables : (s : Sheet) → lines_up_to (λ t. table_text t (table_plan s t)) s.n ≡ tables_text 0 (good_plan s).tables
unfolding good_plan
good-tables s = sym (tables-lines (table_plan s) s.n)

-- table t's line in the answer is its line in the plan, and so are all of them
line-back : (s : Sheet) → Good s → (t : ℕ) → t < s.n
    → line_of (laid_out (good_plan s)) t ≡ table_text t (table_plan s t)
unfolding line_of table_text
line-back s good t h =
    let b = good-read-back s good.counts.eight t h (good.narrow t h) in
    rw (b.kept-is, b.columns-are, b.dep-is, b.need-is, table-in s t h)

good-lines : (s : Sheet) → Good s → lines_in (laid_out (good_plan s)) ≡ tables_text 0 (good_plan s).tables
unfolding laid_out
good-lines s good =
    ap (lines_up_to _) (tables-many s) ∙ lines_same _ (λ t. table_text t (table_plan s t)) s.n (line-back s good) ∙ good-tables s

good-text : (s : Sheet) → Good s → answer_text (laid_out (good_plan s)) ≡ plan_text (good_plan s)
unfolding answer_text plan_text laid_out good_plan
good-text s good = ap (λ l. head_text (good_plan s).root (good_plan s).store ++ l) (good-lines s good)

-- The answer's text is the plan's
module _ (ws : Words) where
  module _ (a : PlanAnswer) (e : Ok a ≡ answer_of (plan ws)) where
    is-good : plan ws ≡ good_plan (sheet_of ws)
    is-good = unfold plan in rw (answered-zero ws a e)

    pub good-printed : answer_text a ≡ plan_text (plan ws)
    good-printed =
        ap answer_text (answered-plan ws a e) ∙ good-text (sheet_of ws) (good-sheet ws (answered-zero ws a e)) ∙ ap plan_text (sym is-good)

    -- A plan has eight tables at most
    pub few-tables : a.tables ≤ 8
    few-tables =
        let same : a.tables ≡ length (good_plan (sheet_of ws)).tables = unfold laid_out in ap (λ (b : PlanAnswer). b.tables) (answered-plan ws a e) in
        omega (arith, ap (λ (p : Plan). length p.tables) is-good, plan-few ws)

  pub refused-printed : (r : Refusal) → Err r ≡ answer_of (plan ws) → refused_text (refusal_number r) ≡ plan_text (plan ws)
  unfolding plan_text
  refused-printed r e =
      let number = ne_eqb (refusal_number r) 0 (never-zero r) in
      let is : plan ws ≡ no_plan (refusal_number r) = unfold plan in rw (answered-refused ws r e, number) in
      rw (is, number)
