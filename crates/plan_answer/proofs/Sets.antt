-- The answer read back: what stands at a table's places is what document 01's plan says of the table, each set as its rising list.
-- Assumes nothing.
use Prim.Native.Nat.{ℕ, ◌+◌, ◌*◌, ◌/◌, ◌%◌, ◌<◌, ◌≤◌}
use mathlib.Core.Path.{◌≡◌, refl, sym, ap, ap₂, subst, ◌∙◌}
use mathlib.Core.Bool.{Bool, true, false, cond, ◌&&◌}
use mathlib.Core.List.{List, []}
use native.Mathlib.Omega.{arith}
use lib.Dec.{eqb, ltb}
use borrow.Author.Tests.{eqb-true}
use lib.ListN.{length, get_or, replicate}
use Rattle.lists.specs.Lists.{Words, select, member, up_to}
use Rattle.lists.specs.Totals.{one}
use Rattle.lists.specs.Loops.{filled}
use Rattle.lists.proofs.Truth.{up_to-mem, select-same}
use Rattle.lists.proofs.Loops.{get_or-filled}
use Rattle.meaning.specs.Sheet.{Sheet, sheet_of, sheet_refusal, width}
use Rattle.meaning.specs.Plan.{TablePlan, dep, need, kept, is_shown, shown, table_plan, good_plan, no_plan, in_order, plan}
use Rattle.meaning.specs.Plan as Meant
use Rattle.sheet.proofs.Words.{n-is}
use Rattle.sheet.proofs.Numbers.{member-chosen}
use Rattle.sheet.proofs.Good.{good-rules}
use Rattle.sheet_plan.specs.Marks.{has_mark, marked_in}
use Rattle.sheet_plan.proofs.Chosen.{select-narrow}
use Rattle.sheet_plan.proofs.Shown.{one-is, width_small}
use Rattle.plan_answer.specs.Answers.{table_no, sets_of, per_table, laid_out}
use Rattle.plan_answer.proofs.Laid.{table-in, tables-many}

-- a list of numbers below 8, rising, each once
pub record Rising (xs : List ℕ) : Type 0 where
  pub test : ℕ → Bool
  pub below : ℕ
  pub small : below ≤ 8
  pub chosen : xs ≡ select test (up_to below)

pub marked-sets : (f : ℕ → List ℕ) (t : ℕ) → t < 8 → Rising (f t) → marked_in (sets_of f) t ≡ f t
unfolding marked_in has_mark sets_of
marked-sets f t h r =
    select-same (has_mark (sets_of f) t) (λ c. ltb c r.below && r.test c) (up_to 8) (λ c m. mark c (up_to-mem 8 c m))
    ∙ select-narrow r.test r.below 8 r.small ∙ sym r.chosen
  where
    mark : (c : ℕ) → c < 8 → eqb (get_or (filled (λ i. one (member (i % 8) (f (i / 8)))) 64 (replicate 64 0)) (8 * t + c) 0) 1 ≡ (ltb c r.below && r.test c)
    mark c l =
        let a : (8 * t + c) / 8 ≡ t = omega arith in
        let b : (8 * t + c) % 8 ≡ c = omega arith in
        ap (λ (v : ℕ). eqb v 1) (get_or-filled (λ i. one (member (i % 8) (f (i / 8)))) 64 (8 * t + c) 0 (replicate 64 0) (omega arith) (omega arith))
        ∙ one-is (member ((8 * t + c) % 8) (f ((8 * t + c) / 8))) ∙ ap₂ (λ (x y : ℕ). member x (f y)) b a
        ∙ ap (member c) r.chosen ∙ member-chosen r.test r.below c

none-rising : Rising []
none-rising = record { test = λ c. false; below = 0; small = omega arith; chosen = refl }

-- table t's line of the plan, read from the answer
pub record ReadBack (p : Meant.Plan) (t : ℕ) : Type 0 where
  pub kept-is : get_or (laid_out p).kept t 0 ≡ (table_no p t).kept
  pub columns-are : marked_in (laid_out p).columns t ≡ (table_no p t).columns
  pub dep-is : marked_in (laid_out p).dep t ≡ (table_no p t).dep
  pub need-is : marked_in (laid_out p).need t ≡ (table_no p t).need
  pub start_is : get_or (laid_out p).starts t 0 ≡ (table_no p t).start
  pub room-is : get_or (laid_out p).rooms t 0 ≡ (table_no p t).room

-- a plan of at most eight tables whose sets rise
read_back : (p : Meant.Plan) (t : ℕ) → t < length p.tables → length p.tables ≤ 8
    → Rising (table_no p t).columns → Rising (table_no p t).dep → Rising (table_no p t).need → ReadBack p t
unfolding laid_out per_table
read_back p t h l a b c =
    record {
      kept-is = number (λ q. q.kept);
      columns-are = marked-sets (λ u. (table_no p u).columns) t (omega arith) a;
      dep-is = marked-sets (λ u. (table_no p u).dep) t (omega arith) b;
      need-is = marked-sets (λ u. (table_no p u).need) t (omega arith) c;
      start_is = number (λ q. q.start);
      room-is = number (λ q. q.room);
    }
  where
    number : (field : TablePlan → ℕ) → get_or (filled (λ u. field (table_no p u)) (length p.tables) (replicate 8 0)) t 0 ≡ field (table_no p t)
    number field = get_or-filled (λ u. field (table_no p u)) (length p.tables) t 0 (replicate 8 0) h l

-- the plan of a good sheet
module _ (s : Sheet) (few : s.n ≤ 8) (t : ℕ) (h : t < s.n) (narrow : width s t ≤ 8) where
  columns-rising : Rising (table_plan s t).columns
  unfolding table_plan shown
  columns-rising = go (kept s t)
    where
      go : (b : Bool) → Rising (cond b (select (is_shown s t) (up_to (width s t))) [])
      go true = record { test = is_shown s t; below = width s t; small = narrow; chosen = refl }
      go false = none-rising

  order-rising : (set : List ℕ) → Rising (in_order s set)
  unfolding in_order
  order-rising set = record { test = λ u. member u set; below = s.n; small = few; chosen = refl }

  pub good-read-back : ReadBack (good_plan s) t
  unfolding table_plan
  good-read-back =
      read_back (good_plan s) t (omega (arith, tables-many s)) (omega (arith, tables-many s)) (line columns-rising (λ p. p.columns) refl)
      (line (order-rising (dep s t)) (λ p. p.dep) refl) (line (order-rising (need s t)) (λ p. p.need) refl)
    where
      line : {xs : List ℕ} → Rising xs → (field : TablePlan → List ℕ) → field (table_plan s t) ≡ xs → Rising (field (table_no (good_plan s) t))
      line r field e = subst Rising (sym (ap field (table-in s t h) ∙ e)) r

-- the plan of any words: a refused one has no tables
pub plan-read-back : (ws : Words) (t : ℕ) → t < length (plan ws).tables → ReadBack (plan ws) t
unfolding plan
plan-read-back ws t = go (eqb (sheet_refusal ws) 0) refl
  where
    go : (b : Bool) → eqb (sheet_refusal ws) 0 ≡ b → t < length (cond b (good_plan (sheet_of ws)) (no_plan (sheet_refusal ws))).tables
        → ReadBack (cond b (good_plan (sheet_of ws)) (no_plan (sheet_refusal ws))) t
    go true e h =
        let r = good-rules ws (eqb-true _ _ e) in
        good-read-back (sheet_of ws) (omega (arith, n-is ws, r.counts.tables-few)) t (omega (arith, tables-many (sheet_of ws))) (width_small ws r t)
    go false e h = absurd (omega arith)

pub plan-few : (ws : Words) → length (plan ws).tables ≤ 8
unfolding plan
plan-few ws = go (eqb (sheet_refusal ws) 0) refl
  where
    go : (b : Bool) → eqb (sheet_refusal ws) 0 ≡ b → length (cond b (good_plan (sheet_of ws)) (no_plan (sheet_refusal ws))).tables ≤ 8
    go true e = let r = good-rules ws (eqb-true _ _ e) in omega (arith, n-is ws, r.counts.tables-few, tables-many (sheet_of ws))
    go false e = omega arith
