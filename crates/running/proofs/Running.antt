-- The demands of the running code: a call's contract says that it ran as document 01's definition, of which the demands are proved.
-- Assumes nothing.
use Prim.Native.Nat.{ℕ, ◌<◌}
use mathlib.Core.Path.{◌≡◌, sym, ap, ap₂, ◌∙◌, subst}
use mathlib.Core.Bool.{cond}
use mathlib.Core.Logic.{inl, inr}
use mathlib.Core.List.{List, [], ◌∷◌, map}
use native.Mathlib.Omega.{arith}
use lib.Dec.{eqb}
use lib.ListN.{length}
use Rattle.lists.specs.Lists.{Words}
use Rattle.meaning.specs.Answers.{Outcome}
use Rattle.meaning.specs.Sheet.{sheet_of, sheet_refusal}
use Rattle.meaning.specs.Plan.{TablePlan, Plan, table_plan, good_plan, no_plan, plan}
use Rattle.meaning.specs.Base.{Tables, Change, base_of}
use Rattle.meaning.specs.Store.{Stretch, rows_at, show}
use Rattle.meaning.specs.Change.{change}
use Rattle.meaning.specs.Fill.{fill}
use Rattle.meaning.specs.Demands.{Refused, First, sheet_tests, change_tests, fill_tests, show_tests, Answered, Shown, Filled, base_after, Right, AllRight}
use Rattle.std.specs.Prelude.{Result, Ok}
use Rattle.sheet.specs.declared.refusal.Refusal.{Refusal}
use Rattle.sheet.specs.Refusals.{number_of}
use Rattle.store.proofs.Shows.{back-gives}
use Rattle.store.specs.declared.Done.{Done}
use Rattle.store.specs.Answers.{Says}
use Rattle.oratjolet.specs.Exports.{Left}
use Rattle.laws.proofs.Numbers.{plan-number}
use Rattle.plan_answer.specs.Answers.{table_no, laid_out, answer_of}
use Rattle.plan_answer.specs.declared.PlanAnswer.{PlanAnswer}
use Rattle.plan_answer.proofs.Laid.{table-in, tables-many, answer-good, planned-number}
use Rattle.plan_answer.proofs.Sets.{plan-read-back}
use Rattle.upkeep.proofs.First.{demand1}
use Rattle.upkeep.proofs.Second.{demand2}
use Rattle.upkeep.proofs.Third.{demand3}
use Rattle.running.proofs.Texts.{prints}
use Rattle.running.specs.Calls.{outcome_of, PlanCall, ShowCall, FillCall, ChangeCall, Ran, change_ran, fill_ran, show_ran, planned_sheet, Answers}
use Rattle.running.specs.Running.{AnsweredPlan, DerivedTable, DerivedPlan, tables_after, RightChange, AllRightChanges, Follow}
use Rattle.running.specs.Running.{Running1, Running2, Running3}

-- a call ran as the definition says
abbrev As : {A O : Type 0} → (Words → Words → A → O) → Ran A O → Type 0
As f r = f r.sheet r.store r.asked ≡ r.outcome

said : (o : Outcome) (a : Result Done Refusal) (exit : Words) → Says o a exit → o ≡ outcome_of a exit
said o a exit h = λ i. record { number = sym h.number i; taken = sym h.taken i; added = sym h.added i; words = sym h.words i }

left : (o : Outcome) (number taken added : ℕ) (exit : Words) → Left o number taken added exit
    → o ≡ record { number = number; taken = taken; added = added; words = exit }
left o number taken added exit h =
    λ i. record { number = sym h.number_is i; taken = sym h.taken_is i; added = sym h.added_is i; words = sym h.words_are i }

pub as-change : (k : ChangeCall) → As change (change_ran k)
as-change (inl k) = said _ _ _ k.promise
as-change (inr k) = left _ _ _ _ _ k.promise

pub as-fill : (k : FillCall) → As fill (fill_ran k)
as-fill (inl k) = said _ _ _ k.promise
as-fill (inr k) = left _ _ _ _ _ k.promise

pub as-show : (k : ShowCall) → As show (show_ran k)
as-show (inl k) = let h = back-gives _ _ _ k.result k.promise in λ i. record { number = sym h.number_is i; words = sym h.words_are i }
as-show (inr k) = let h = k.promise in λ i. record { number = sym h.number_is i; words = sym h.words_are i }

pub as-plan : (k : PlanCall) → Answers k (answer_of (plan (planned_sheet k)))
as-plan (inl k) = k.promise
as-plan (inr k) = (k.promise.number_is ∙ plan-number (planned_sheet (inr k)) ∙ sym (planned-number (planned_sheet (inr k))), k.promise.words_are)

-- the number of the plan call's answer is its plan's
answer-number : (sheet : Words) → number_of (answer_of (plan sheet)) ≡ (plan sheet).number
answer-number sheet = planned-number sheet ∙ sym (plan-number sheet)

answered-plan : (sheet : Words) → AnsweredPlan sheet (answer_of (plan sheet))
answered-plan sheet =
    let is = answer-number sheet in
    record {
      number = subst (First (sheet_tests sheet)) (sym is) (demand1.plans sheet).number;
      fields = λ d. ap answer_of ((demand1.plans sheet).fields (subst Refused is d)) ∙ ap (λ (k : ℕ). answer_of (no_plan k)) (sym is);
    }

pub running1 : Running1
running1 =
    record {
      take-any =
          record {
            plans = (λ κs a. tt, λ κs a. tt);
            shows = (λ κs a. tt, λ κs a. tt);
            fills = (λ κs a. tt, λ κs a. tt);
            changes = (λ κs a. tt, λ κs a. tt);
          };
      texts-take-any = (λ κs a. tt, λ κs a. tt, λ κs a. tt);
      changes = λ k.
          let r = change_ran k in
          subst (λ (o : Outcome). Answered (change_tests r.sheet r.store r.asked) r.store o) (as-change k)
          (demand1.changes r.sheet r.store r.asked);
      fills = λ k.
          let r = fill_ran k in
          subst (λ (o : Outcome). Answered (fill_tests r.sheet r.store r.asked) r.store o) (as-fill k)
          (demand1.fills r.sheet r.store r.asked);
      shows = λ k.
          let r = show_ran k in
          subst (λ (o : Stretch). Shown (show_tests r.sheet r.store r.asked) o) (as-show k) (demand1.shows r.sheet r.store r.asked);
      plans = λ k. (answer_of (plan (planned_sheet k)), as-plan k, answered-plan (planned_sheet k));
    }

-- the plan of a good sheet
module _ (sheet : Words) (good : sheet_refusal sheet ≡ 0) where
  is-good : plan sheet ≡ good_plan (sheet_of sheet)
  unfolding plan
  is-good = ap (λ (k : ℕ). cond (eqb k 0) (good_plan (sheet_of sheet)) (no_plan k)) good

  many : length (plan sheet).tables ≡ (sheet_of sheet).n
  many = ap (λ (p : Plan). length p.tables) is-good ∙ tables-many (sheet_of sheet)

  table-derived : (t : ℕ) → t < (sheet_of sheet).n → DerivedTable (sheet_of sheet) (laid_out (plan sheet)) t
  unfolding table_plan
  table-derived t h =
      let told = plan-read-back sheet t (omega (arith, many)) in
      let is : table_no (plan sheet) t ≡ table_plan (sheet_of sheet) t = ap (λ (p : Plan). table_no p t) is-good ∙ table-in (sheet_of sheet) t h in
      record {
        kept-is = told.kept-is ∙ ap (λ (p : TablePlan). p.kept) is;
        columns-are = told.columns-are ∙ ap (λ (p : TablePlan). p.columns) is;
        dep-is = told.dep-is ∙ ap (λ (p : TablePlan). p.dep) is;
        need-is = told.need-is ∙ ap (λ (p : TablePlan). p.need) is;
      }

  derived-plan : DerivedPlan (sheet_of sheet) (laid_out (plan sheet))
  unfolding laid_out
  derived-plan = record { derived = demand2.derived sheet good; tables = many; each-table = table-derived }

  answer-is : answer_of (plan sheet) ≡ Ok (laid_out (plan sheet))
  answer-is = sym (answer-good sheet good) ∙ ap {B = Result PlanAnswer Refusal} (λ (p : Plan). Ok (laid_out p)) (sym is-good)

pub running2 : Running2
running2 =
    record {
      plans = λ k. let sheet = planned_sheet k in (
        answer_of (plan sheet),
        as-plan k,
        λ e.
            let good = sym (planned-number sheet) ∙ e in (laid_out (plan sheet), answer-is sheet good, derived-plan sheet good),
      );
      prints = prints;
      fills = λ k good long lawful room.
          let r = fill_ran k in
          subst (λ (o : Outcome). Filled r.sheet r.asked o) (as-fill k) (demand2.fills r.sheet r.store r.asked good long lawful room);
    }

-- one call
kept : (sheet : Words) (base : Tables) (store : Words) (c : Change) → Right sheet base store c → RightChange sheet base c (change sheet store c)
unfolding tables_after base_after
kept sheet base store c h = record { words = h.words; taken = h.taken; added = h.added; only-room = h.only-room }

after_same : (sheet : Words) (base : Tables) (store : Words) (c : Change) (o : Outcome) → change sheet store c ≡ o
    → base_after sheet base store c ≡ tables_after base c o.number
unfolding tables_after base_after
after_same sheet base store c o e = ap (λ (o : Outcome). tables_after base c o.number) e

asks : List ChangeCall → List Change
asks calls = map (λ (k : ChangeCall). (change_ran k).asked) calls

-- a sequence of them
all-kept : (sheet : Words) (calls : List ChangeCall) (base : Tables) (store : Words) → Follow sheet store calls → AllRight sheet base store (asks calls)
    → AllRightChanges sheet base calls
unfolding asks
all-kept sheet [] base store follow right = tt
all-kept sheet (k ∷ ks) base store (on-sheet, on_store, follow) right =
    λ lawful-if.
    let r = change_ran k in
    let c = r.asked in
    let is : change sheet store c ≡ r.outcome = ap₂ (λ (x y : Words). change x y c) (sym on-sheet) (sym on_store) ∙ as-change k in
    let both = right (λ e. lawful-if (sym (ap (λ (o : Outcome). o.number) is) ∙ e)) in
    let after = tables_after base c r.outcome.number in
    let later : AllRight sheet after r.outcome.words (asks ks) =
    subst (λ (o : Outcome). AllRight sheet after o.words (asks ks)) is
    (subst (λ (b : Tables). AllRight sheet b (change sheet store c).words (asks ks)) (after_same sheet base store c r.outcome is) both.1) in (
      subst (λ (o : Outcome). RightChange sheet base c o) is (kept sheet base store c both.0),
      all-kept sheet ks after r.outcome.words follow later,
    )

pub running3 : Running3
running3 =
    record {
      right = λ f done calls follow.
          let r = fill_ran f in
          let is = as-fill f in
          all-kept r.sheet calls (base_of (sheet_of r.sheet) r.asked) r.outcome.words follow
          (subst (λ (o : Outcome). AllRight r.sheet (base_of (sheet_of r.sheet) r.asked) o.words (asks calls)) is
          (demand3.right r.sheet r.store r.asked (ap (λ (o : Outcome). o.number) is ∙ done) (asks calls)));
      others-stay = λ k t l d.
          let r = change_ran k in
          ap (λ (o : Outcome). rows_at (sheet_of r.sheet) o.words t) (sym (as-change k)) ∙ demand3.others-stay r.sheet r.store r.asked t l d;
    }
