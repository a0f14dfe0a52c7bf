-- The arrays that the check hands out, laid out as an answer, are document 01's plan laid out.
-- Assumes nothing.
use Prim.Native.Nat.{ℕ, zero, suc, ◌/◌, ◌%◌, ◌<◌, ◌≤◌}
use mathlib.Core.Path.{◌≡◌, refl, sym, ap, ap₂, ◌∙◌}
use mathlib.Core.Bool.{Bool, true, false, cond, not, ◌&&◌}
use mathlib.Core.List.{List, [], ◌∷◌}
use mathlib.Core.Logic.{inl, inr}
use native.Mathlib.Nat.{zero-add}
use native.Mathlib.Omega.{arith}
use lib.Dec.{eqb, ltb}
use lib.ListN.{length, get_or, replicate, length-map, get_or-replicate, get_or-eq_default}
use lib.Seq.{get_or-set_other}
use borrow.Author.Tests.{lt-ltb, le-ltb, ltb-true, ltb-false, eqb-false, ne_eqb}
use Rattle.lists.specs.Lists.{Words, Mem, member, up_to}
use Rattle.lists.specs.Totals.{one}
use Rattle.lists.specs.Loops.{filled}
use Rattle.lists.proofs.Truth.{is_t, F→≡, same_test, mem-select, up_to-mem, member→Mem, and-snd, and_both}
use Rattle.lists.proofs.Loops.{get_or-filled}
use Rattle.lists.proofs.Places.{length_from, get_or-map-from}
use Rattle.meaning.specs.Sheet.{Sheet, sheet_of, sheet_refusal, width, has_column}
use Rattle.meaning.specs.Plan.{TablePlan, root, edge_into, others, dep, need, need_in, key_listed}
use Rattle.meaning.specs.Plan.{kept, is_shown, shown, table_plan, good_plan, no_plan, in_order, plan}
use Rattle.laws.specs.Sheets as Sheets
use Rattle.laws.proofs.Sheets as SheetLaws
use Rattle.laws.proofs.Trees.{child-of}
use Rattle.derive.proofs.Paths.{dep-edge}
use Rattle.sheet.proofs.Numbers.{member-chosen}
use Rattle.sheet_plan.specs.Plans.{kept_of, kept_at, shows_at, shows_of, starts_of, rooms_of, plan_for, checked_of}
use Rattle.sheet_plan.specs.Planned.{Lengths, IsPlan}
use Rattle.sheet_plan.proofs.Chosen.{filled-same}
use Rattle.sheet_plan.proofs.Shown.{has-column}
use Rattle.sheet_plan.proofs.Planning.{plan-facts, checked-zero, checked-is, checked-plan, planned}
use Rattle.std.specs.Prelude.{Result, Ok, Err}
use Rattle.sheet.proofs.Good.{good-sheet, good-rules}
use Rattle.sheet.specs.declared.refusal.Refusal.{Refusal}
use Rattle.sheet.specs.Refusals.{refusal_number, number_of}
use Rattle.sheet.proofs.Refusals.{never-zero, of-number}
use Rattle.sheet_plan.specs.declared.Plan.{Plan}
use Rattle.plan_answer.specs.Answers.{no_table, table_no, sets_of, per_table, laid_out, answer_of, dep_at, dep_of, need_at, need_of}
use Rattle.plan_answer.specs.Answers.{kept_column, kept_columns, first_parts, answer_for}
use Rattle.plan_answer.specs.declared.PlanAnswer.{PlanAnswer}

pub filled-past : (f : ℕ → ℕ) (n i z : ℕ) (d : List ℕ) → n ≤ i → get_or (filled f n d) i z ≡ get_or d i z
unfolding filled
filled-past f zero i z d h = refl
filled-past f (suc n) i z d h = get_or-set_other (filled f n d) n i (f n) z (λ q. omega arith) ∙ filled-past f n i z d (omega arith)

-- a set whose members are tables is the same in order
same-in-order : (s : Sheet) (x : ℕ) (xs : List ℕ) → (Mem x xs → x < s.n) → member x xs ≡ member x (in_order s xs)
unfolding in_order
same-in-order s x xs h =
    same_test (member x xs) (ltb x s.n && member x xs)
    (λ m. and_both (ltb x s.n) (member x xs) (is_t (lt-ltb x s.n (h (member→Mem x xs m)))) m)
    (λ m. and-snd (ltb x s.n) (member x xs) m)
    ∙ sym (member-chosen (λ t. member t xs) s.n x)

module _ (s : Sheet) (g : Sheets.Good s) where
  dep-in : (t u : ℕ) → Mem u (dep s t) → (t < s.n) × (u < s.n)
  dep-in t u m =
      let x = dep-edge s t u m in
      (omega (arith, x.leaves, g.child-in x.edge x.there), omega (arith, x.goes, g.parent_in x.edge x.there))

  need-in : (k t u : ℕ) → t < s.n → Mem u (need_in s k t) → u < s.n
  unfolding others
  need-in zero t u h m = absurd m
  need-in (suc k) t u h m = go (key_listed s t) (eqb t (root s)) refl m (λ l n. need-in k (edge_into s t).child u l n)
    where
      go : (a b : Bool) → eqb t (root s) ≡ b → Mem u (cond a [] (cond b (others s t) ((edge_into s t).child ∷ need_in s k (edge_into s t).child)))
          → ((edge_into s t).child < s.n → Mem u (need_in s k (edge_into s t).child) → u < s.n) → u < s.n
      go true b e m ih = absurd m
      go false true e m ih = up_to-mem s.n u (mem-select (λ v. not (eqb v t)) (up_to s.n) u m).0
      go false false e (inl q) ih = omega (arith, child-of s g t h (eqb-false t (root s) e))
      go false false e (inr m) ih = ih (child-of s g t h (eqb-false t (root s) e)) m

-- table t of the plan of a good sheet
module _ (s : Sheet) where
  pub table-in : (t : ℕ) → t < s.n → table_no (good_plan s) t ≡ table_plan s t
  unfolding good_plan
  table-in t h = get_or-map-from (table_plan s) no_table s.n 0 t h ∙ ap (table_plan s) (zero-add t)

  pub tables-many : length (good_plan s).tables ≡ s.n
  unfolding good_plan
  tables-many = length-map (up_to s.n) (table_plan s) ∙ length_from 0 s.n

  pub table-out : (t : ℕ) → s.n ≤ t → table_no (good_plan s) t ≡ no_table
  table-out t h = get_or-eq_default (good_plan s).tables no_table (omega (arith, tables-many))

-- an array filled alike where its place's table is there, and where it is not
by-table : (n : ℕ) (f g : ℕ → ℕ) (k : ℕ) (d : List ℕ) → ((i : ℕ) → i < k → i / 8 < n → f i ≡ g i)
    → ((i : ℕ) → i < k → n ≤ i / 8 → f i ≡ g i) → filled f k d ≡ filled g k d
by-table n f g k d there gone = filled-same f g k d (λ i l. go i l (ltb (i / 8) n) refl)
  where
    go : (i : ℕ) → i < k → (b : Bool) → ltb (i / 8) n ≡ b → f i ≡ g i
    go i l true e = there i l (ltb-true (i / 8) n e)
    go i l false e = gone i l (ltb-false (i / 8) n e)

module _ (s : Sheet) (facts : IsPlan s (plan_for s)) (good : Sheets.Good s) where
  -- the mark of a column that is shown if the table is kept
  column-mark : (b d : Bool) (xs : List ℕ) (c : ℕ) → member c xs ≡ d → cond (eqb (one b) 1) (one d) 0 ≡ one (member c (cond b xs []))
  column-mark true d xs c e = ap one (sym e)
  column-mark false d xs c e = refl

  columns-laid : ((t c : ℕ) → has_column s t c ≡ ltb c (width s t)) → kept_columns (kept_of s) (shows_of s) ≡ sets_of (λ t. (table_no (good_plan s) t).columns)
  unfolding kept_columns kept_column sets_of shows_of shows_at plan_for table_plan shown kept_of
  columns-laid has =
      by-table s.n _ _ 64 (replicate 64 0)
      (λ i l h.
      ap₂ (λ (a b : ℕ). cond (eqb a 1) b 0) (facts.kept-at (i / 8) h) (get_or-filled (shows_at s) 64 i 0 (replicate 64 0) l (omega arith))
      ∙ column-mark (kept s (i / 8)) (has_column s (i / 8) (i % 8) && is_shown s (i / 8) (i % 8)) (shown s (i / 8)) (i % 8)
      (member-chosen (is_shown s (i / 8)) (width s (i / 8)) (i % 8) ∙ ap (λ (b : Bool). b && is_shown s (i / 8) (i % 8)) (sym (has (i / 8) (i % 8))))
      ∙ ap (λ (p : TablePlan). one (member (i % 8) p.columns)) (sym (table-in s (i / 8) h)))
      (λ i l h.
      ap (λ (a : ℕ). cond (eqb a 1) (get_or (filled (shows_at s) 64 (replicate 64 0)) i 0) 0)
      (filled-past (kept_at s) s.n (i / 8) 0 (replicate 8 0) h ∙ get_or-replicate 8 (i / 8) 0 0 (omega arith))
      ∙ ap (λ (p : TablePlan). one (member (i % 8) p.columns)) (sym (table-out s (i / 8) h)))

  dep-laid : dep_of s ≡ sets_of (λ t. (table_no (good_plan s) t).dep)
  unfolding dep_of dep_at sets_of table_plan
  dep-laid =
      by-table s.n _ _ 64 (replicate 64 0)
      (λ i l h.
      ap one (same-in-order s (i % 8) (dep s (i / 8)) (λ m. (dep-in s good (i / 8) (i % 8) m).1))
      ∙ ap (λ (p : TablePlan). one (member (i % 8) p.dep)) (sym (table-in s (i / 8) h)))
      (λ i l h.
      ap one (F→≡ (member (i % 8) (dep s (i / 8))) (λ m. let b = dep-in s good (i / 8) (i % 8) (member→Mem (i % 8) (dep s (i / 8)) m) in omega arith))
      ∙ ap (λ (p : TablePlan). one (member (i % 8) p.dep)) (sym (table-out s (i / 8) h)))

  need-laid : need_of s ≡ sets_of (λ t. (table_no (good_plan s) t).need)
  unfolding need_of need_at sets_of table_plan need
  need-laid =
      by-table s.n _ _ 64 (replicate 64 0)
      (λ i l h.
      ap (λ (b : Bool). one (b && member (i % 8) (need s (i / 8)))) (lt-ltb (i / 8) s.n h)
      ∙ ap one (same-in-order s (i % 8) (need s (i / 8)) (λ m. need-in s good s.n (i / 8) (i % 8) h m))
      ∙ ap (λ (p : TablePlan). one (member (i % 8) p.need)) (sym (table-in s (i / 8) h)))
      (λ i l h.
      ap (λ (b : Bool). one (b && member (i % 8) (need s (i / 8)))) (le-ltb (i / 8) s.n h)
      ∙ ap (λ (p : TablePlan). one (member (i % 8) p.need)) (sym (table-out s (i / 8) h)))

  -- a number for each table
  numbers-laid : (f : ℕ → ℕ) (field : TablePlan → ℕ) → ((t : ℕ) → t < s.n → f t ≡ field (table_plan s t))
      → filled f s.n (replicate 8 0) ≡ per_table (λ t. field (table_no (good_plan s) t)) (length (good_plan s).tables)
  unfolding per_table
  numbers-laid f field h =
      filled-same f (λ t. field (table_no (good_plan s) t)) s.n (replicate 8 0) (λ t l. h t l ∙ ap field (sym (table-in s t l)))
      ∙ ap (λ (n : ℕ). filled (λ t. field (table_no (good_plan s) t)) n (replicate 8 0)) (sym (tables-many s))

  kept-laid : kept_of s ≡ per_table (λ t. (table_no (good_plan s) t).kept) (length (good_plan s).tables)
  unfolding kept_of kept_at table_plan
  kept-laid = numbers-laid (kept_at s) (λ p. p.kept) (λ t l. refl)

  starts-laid : first_parts (starts_of s) s.n ≡ per_table (λ t. (table_no (good_plan s) t).start) (length (good_plan s).tables)
  unfolding first_parts plan_for table_plan
  starts-laid = numbers-laid (λ t. get_or (starts_of s) t 0) (λ p. p.start) (λ t l. facts.starts-at t (omega arith))

  rooms-laid : first_parts (rooms_of s) s.n ≡ per_table (λ t. (table_no (good_plan s) t).room) (length (good_plan s).tables)
  unfolding first_parts plan_for table_plan
  rooms-laid = numbers-laid (λ t. get_or (rooms_of s) t 0) (λ p. p.room) (λ t l. facts.rooms-at t (omega arith))

  pub plan-laid : ((t c : ℕ) → has_column s t c ≡ ltb c (width s t)) → answer_for (plan_for s) (dep_of s) (need_of s) ≡ laid_out (good_plan s)
  unfolding answer_for plan_for laid_out good_plan
  plan-laid has =
      let a = columns-laid has in
      let b = dep-laid in
      let c = need-laid in
      let d = kept-laid in
      let e = starts-laid in
      let f = rooms-laid in
      let n = tables-many s in
      cc

-- the two outcomes of the plan call
module _ (ws : Words) where
  pub answer-good : sheet_refusal ws ≡ 0 → Ok (laid_out (good_plan (sheet_of ws))) ≡ answer_of (plan ws)
  unfolding answer_of plan good_plan
  answer-good h = rw h

  answer-refused : (r : Refusal) → sheet_refusal ws ≡ refusal_number r → Err r ≡ answer_of (plan ws)
  unfolding answer_of
  answer-refused r h =
      let is : plan ws ≡ no_plan (refusal_number r) = unfold plan in rw (h, ne_eqb (refusal_number r) 0 (never-zero r)) in
      rw is (rw (ne_eqb (refusal_number r) 0 (never-zero r), of-number r))

  -- its number is the refusal's, and 0 where there is a plan
  pub planned-number : number_of (answer_of (plan ws)) ≡ sheet_refusal ws
  planned-number = go (checked_of ws) refl
    where
      go : (v : Result Plan Refusal) → v ≡ checked_of ws → number_of (answer_of (plan ws)) ≡ sheet_refusal ws
      go (Ok p) e = let zero = checked-zero ws p e in ap number_of (sym (answer-good zero)) ∙ sym zero
      go (Err r) e = let is = checked-is ws r e in ap number_of (sym (answer-refused r is)) ∙ sym is

  module _ (a : PlanAnswer) (e : Ok a ≡ answer_of (plan ws)) where
    pub answered-zero : sheet_refusal ws ≡ 0
    answered-zero = sym planned-number ∙ sym (ap number_of e)

    pub answered-plan : a ≡ laid_out (good_plan (sheet_of ws))
    answered-plan = let q : ◌≡◌ {A = Result PlanAnswer Refusal} (Ok a) (Ok (laid_out (good_plan (sheet_of ws)))) = e ∙ sym (answer-good answered-zero) in cc

  pub answered-refused : (r : Refusal) → Err r ≡ answer_of (plan ws) → sheet_refusal ws ≡ refusal_number r
  answered-refused r e = sym planned-number ∙ sym (ap number_of e)

  -- the same, of what the check hands out
  pub plan-refused : (r : Refusal) → Err r ≡ checked_of ws → Err r ≡ answer_of (plan ws)
  plan-refused r e = answer-refused r (checked-is ws r e)

  module _ (p : Plan) (e : Ok p ≡ checked_of ws) where
    pub plan-good : (a : PlanAnswer) (deps needs : List ℕ) → deps ≡ dep_of (sheet_of ws) → needs ≡ need_of (sheet_of ws)
        → a ≡ answer_for p deps needs → Ok a ≡ answer_of (plan ws)
    plan-good a deps needs d n q =
        let zero = checked-zero ws p e in
        let laid = plan-laid (sheet_of ws) (plan-facts ws (good-sheet ws zero)) (SheetLaws.good-sheet ws zero) (has-column ws (good-rules ws zero)) in
        let same = rw (checked-plan ws p e, d, n) at q in
        ap {B = Result PlanAnswer Refusal} Ok (same ∙ laid) ∙ answer-good zero

    -- what the answer is made from: at most eight tables, and arrays that are long enough
    pub answerable : (p.tables ≤ 8) × Lengths p
    answerable = let facts = planned ws p e in (facts.tables-few, facts.lengths)
