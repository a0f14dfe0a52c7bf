-- The three demands of the code that runs.
-- Assumes nothing.
use Rattle.std.specs.Prelude.{ℕ, ◌<◌, ◌≡◌, cond, List, [], ◌∷◌, Result, Ok, T, eqb, length, get_or}
use Rattle.lists.specs.Lists.{Words}
use Rattle.lists.specs.Totals.{one}
use Rattle.meaning.specs.Answers.{Outcome}
use Rattle.meaning.specs.Sheet.{Sheet, sheet_of, sheet_refusal}
use Rattle.meaning.specs.Plan.{kept, shown, dep, need, in_order, store_length, no_plan}
use Rattle.meaning.specs.Base.{Tables, Change, base_of, good_base, lawful_change, changed}
use Rattle.meaning.specs.Meaning.{meaning}
use Rattle.meaning.specs.Store.{Stretch, store_of, rows_at, fits}
use Rattle.meaning.specs.Demands.{Refused, First, sheet_tests, change_tests, fill_tests, show_tests, Answered, Shown, Derived, Filled, ways_of, outgrows}
use Rattle.sheet.specs.declared.refusal.Refusal.{Refusal}
use Rattle.sheet.specs.Refusals.{number_of}
use Rattle.sheet_plan.specs.Marks.{marked_in}
use Rattle.plan_answer.specs.declared.PlanAnswer.{PlanAnswer}
use Rattle.plan_answer.specs.Answers.{answer_of}
use Rattle.running.specs.Calls.{PlanCall, ShowCall, FillCall, ChangeCall, AllTakeAny, Ran, change_ran, fill_ran, show_ran, planned_sheet, Answers}
use Rattle.running.specs.Texts.{NewCall, ChunkCall, ReplyCall, TextsTakeAny, Read, text_of, Printed}

-- Demand 1: what each call owes on any input
abbrev pub AnsweredChange : Ran Change Outcome → Type 0
AnsweredChange r = Answered (change_tests r.sheet r.store r.asked) r.store r.outcome

abbrev pub AnsweredFill : Ran Words Outcome → Type 0
AnsweredFill r = Answered (fill_tests r.sheet r.store r.asked) r.store r.outcome

abbrev pub AnsweredShow : Ran ℕ Stretch → Type 0
AnsweredShow r = Shown (show_tests r.sheet r.store r.asked) r.outcome

pub record AnsweredPlan (sheet : Words) (a : Result PlanAnswer Refusal) : Type 0 where
  pub number : First (sheet_tests sheet) (number_of a)
  pub fields : Refused (number_of a) → a ≡ answer_of (no_plan (number_of a))

pub record Running1 : Type 0 where
  pub take-any : AllTakeAny
  pub texts-take-any : TextsTakeAny
  pub changes : (k : ChangeCall) → AnsweredChange (change_ran k)
  pub fills : (k : FillCall) → AnsweredFill (fill_ran k)
  pub shows : (k : ShowCall) → AnsweredShow (show_ran k)
  pub plans : (k : PlanCall) → (a : Result PlanAnswer Refusal) × Answers k a × AnsweredPlan (planned_sheet k) a

-- Demand 2: the plan's answer has the side tables and the sets that Algorithm 3.1 derives
pub record DerivedTable (s : Sheet) (a : PlanAnswer) (t : ℕ) : Type 0 where
  pub kept-is : get_or a.kept t 0 ≡ one (kept s t)
  pub columns-are : marked_in a.columns t ≡ cond (kept s t) (shown s t) []
  pub dep-is : marked_in a.dep t ≡ in_order s (dep s t)
  pub need-is : marked_in a.need t ≡ in_order s (need s t)

pub record DerivedPlan (s : Sheet) (a : PlanAnswer) : Type 0 where
  pub derived : Derived s
  pub tables : a.tables ≡ s.n
  pub each-table : (t : ℕ) → t < s.n → DerivedTable s a t

pub record Running2 : Type 0 where
  pub plans : (k : PlanCall)
      → (a : Result PlanAnswer Refusal) × Answers k a × (number_of a ≡ 0 → (p : PlanAnswer) × (a ≡ Ok p) × DerivedPlan (sheet_of (planned_sheet k)) p)
  -- the plan that the program prints, however its text came in
  pub prints : (k : NewCall) (chunks : List ChunkCall) (end : ReplyCall) → Read k.result chunks end → Printed (text_of chunks) end
  pub fills : (k : FillCall)
      → let r = fill_ran k in
      let s = sheet_of r.sheet in
      sheet_refusal r.sheet ≡ 0 → length r.store ≡ store_length s → T (good_base s r.asked)
      → T (fits s (meaning s (base_of s r.asked))) → Filled r.sheet r.asked r.outcome

-- Demand 3. Each call was made on this sheet, and on the words that the one before it left
abbrev pub Follow : Words → Words → List ChangeCall → Type 0
Follow sheet store [] = Unit {0}
Follow sheet store (k ∷ ks) =
    let r = change_ran k in
    (r.sheet ≡ sheet) × (r.store ≡ store) × Follow sheet r.outcome.words ks

-- the base tables after a call: the change is made if the call accepted it
unfoldable pub tables_after : Tables → Change → ℕ → Tables
tables_after base c number = cond (eqb number 0) (changed base c) base

-- what the call owes, where the store was right for these base tables
pub record RightChange (sheet : Words) (base : Tables) (c : Change) (o : Outcome) : Type 0 where
  pub words : o.words ≡ store_of (sheet_of sheet) (meaning (sheet_of sheet) (tables_after base c o.number))
  pub taken : o.number ≡ 0 → o.taken ≡ length (ways_of (sheet_of sheet) base c.table c.old)
  pub added : o.number ≡ 0 → o.added ≡ length (ways_of (sheet_of sheet) (changed base c) c.table c.new)
  pub only-room : T (lawful_change (sheet_of sheet) base c) → Refused o.number
      → (o.number ≡ 9) × T (outgrows (sheet_of sheet) (changed base c) c.table)

-- "after any sequence of change calls where each accepted change is lawful"
abbrev pub AllRightChanges : Words → Tables → List ChangeCall → Type 0
AllRightChanges sheet base [] = Unit {0}
AllRightChanges sheet base (k ∷ ks) =
    let r = change_ran k in
    (r.outcome.number ≡ 0 → T (lawful_change (sheet_of sheet) base r.asked))
    → RightChange sheet base r.asked r.outcome × AllRightChanges sheet (tables_after base r.asked r.outcome.number) ks

pub record Running3 : Type 0 where
  pub right : (f : FillCall)
      → let r = fill_ran f in
      r.outcome.number ≡ 0 → (calls : List ChangeCall) → Follow r.sheet r.outcome.words calls
      → AllRightChanges r.sheet (base_of (sheet_of r.sheet) r.asked) calls
  pub others-stay : (k : ChangeCall)
      → let r = change_ran k in
      (t : ℕ) → t < (sheet_of r.sheet).n → (t ≡ r.asked.table → ⊥)
      → rows_at (sheet_of r.sheet) r.outcome.words t ≡ rows_at (sheet_of r.sheet) r.store t
