-- The list rows that an update replaces: those of the ways, or those found by key, as the plan says.
-- Assumes nothing.
use Prim.Native.Nat.{ℕ}
use mathlib.Core.Path.{◌≡◌, refl, sym, ap, ◌∙◌}
use mathlib.Core.Bool.{Bool, true, false, not, ◌||◌}
use mathlib.Core.Logic.{inl, inr}
use lib.Dec.{T, eqb}
use borrow.Author.Tests.{eq-eqb, ne_eqb}
use Rattle.lists.specs.Lists.{Words, at, all}
use Rattle.lists.proofs.Truth.{is_t, F→≡, false→F, not→F, F→not, same_test, eq→eqb, eqb→≡}
use Rattle.rows.specs.Rows.{Row, same_row}
use Rattle.meaning.specs.Sheet.{Sheet, sheet_of}
use Rattle.meaning.specs.Plan.{root, kept}
use Rattle.meaning.specs.Meaning.{Model}
use Rattle.meaning.specs.Store.{model_of}
use Rattle.meaning.specs.Change.{qualifies, can_take, rows_found, with_columns, found_show}
use Rattle.effects.specs.Applied.{replaced_rows}
use Rattle.effects.proofs.Marking.{replaced-walks, shows-walks}
use Rattle.sheet_plan.specs.declared.Plan.{Plan}
use Rattle.walk.specs.Ladders.{ByKey}
use Rattle.store.proofs.Plans.{marked, unmarked}
use Rattle.change_laws.specs.Ready.{Ready}
use Rattle.change_laws.proofs.Halves.{ready-good}
use Rattle.std.specs.Prelude.{Option, Some, None}
use Rattle.change_taken.specs.Taking.{WaysTaken, FoundTaken}
use Rattle.change_update.specs.Updates.{can_take_by, ReplacedTaken}

-- where no way can be taken, the rows found by key are replaced
module _ (s : Sheet) (m : Model) (t : ℕ) (r : Row) (no_way : T (can_take s t) → ⊥) where
  replaced-found : replaced_rows s m t r ≡ rows_found s m t r
  unfolding replaced_rows
  replaced-found = rw (F→≡ (can_take s t) no_way)

  shows-yes : all (λ row. same_row row (with_columns s.listed t r row)) (rows_found s m t r) ≡ true → found_show s m t r ≡ true
  unfolding found_show
  shows-yes e = rw (F→≡ (can_take s t) no_way, e) (go (not (qualifies s m t r)))
    where
      go : (a : Bool) → (a || false || true) ≡ true
      go true = refl
      go false = refl

  shows-no : all (λ row. same_row row (with_columns s.listed t r row)) (rows_found s m t r) ≡ false → qualifies s m t r ≡ true → found_show s m t r ≡ false
  unfolding found_show
  shows-no e q = rw (F→≡ (can_take s t) no_way, q, e)

-- what the plan says of ways
module _ (plan : Plan) (t : ℕ) where
  pub takes-root : t ≡ plan.root → eqb t plan.root ≡ can_take_by plan t
  unfolding can_take_by
  takes-root e = rw (eq-eqb t plan.root e) refl

  pub takes-kept : (t ≡ plan.root → ⊥) → not (eqb (at plan.kept plan.root) 0) ≡ can_take_by plan t
  unfolding can_take_by
  takes-kept d = rw (ne_eqb t plan.root d) refl

module _ {ws store : Words} {plan : Plan} (rd : Ready ws store plan) (t : ℕ) (r : Row) (numbers : Words) where
  by-ways : T (can_take (sheet_of ws) t) → (a : Option ℕ) → WaysTaken ws store t r numbers a → ReplacedTaken ws store t r numbers a
  by-ways can (Some k) h =
      let s = sheet_of ws in
      let m = model_of s store in
      rw (replaced-walks s m t r can) (h.0, shows-walks s m t r can, h.1)
  by-ways can None h = λ q.
      let s = sheet_of ws in
      let m = model_of s store in
      inr (shows-walks s m t r can, rw (replaced-walks s m t r can) h)

  -- the plan says whether ways can be taken
  take_by : can_take_by plan t ≡ can_take (sheet_of ws) t
  unfolding can_take_by can_take
  take_by = rw rd.planned.planned.root_is (ap (λ b. eqb t (root (sheet_of ws)) || b)
      (same_test (not (eqb (at plan.kept (root (sheet_of ws))) 0)) (kept (sheet_of ws) (root (sheet_of ws))) yes no))
    where
      yes : T (not (eqb (at plan.kept (root (sheet_of ws))) 0)) → T (kept (sheet_of ws) (root (sheet_of ws)))
      yes h = marked (sheet_of ws) plan rd.planned (root (sheet_of ws)) (ready-good rd).root_in
          (λ e. not→F (eqb (at plan.kept (root (sheet_of ws))) 0) h (eq→eqb e))

      no : T (kept (sheet_of ws) (root (sheet_of ws))) → T (not (eqb (at plan.kept (root (sheet_of ws))) 0))
      no h = F→not (eqb (at plan.kept (root (sheet_of ws))) 0) (λ e. unmarked (sheet_of ws) plan rd.planned (root (sheet_of ws)) (ready-good rd).root_in
          (eqb→≡ (at plan.kept (root (sheet_of ws))) 0 e) h)

  pub by-plan : (b : Bool) → b ≡ can_take_by plan t → b ≡ true → (a : Option ℕ) → WaysTaken ws store t r numbers a → ReplacedTaken ws store t r numbers a
  by-plan b e can a h = by-ways (is_t (sym take_by ∙ sym e ∙ can)) a h

  module _ (b : Bool) (e : b ≡ can_take_by plan t) (no : b ≡ false) where
    pub no_way : ByKey ws t
    no_way = false→F (sym take_by ∙ sym e ∙ no)

    pub by_key : (a : Option ℕ) → FoundTaken ws store t r numbers a → ReplacedTaken ws store t r numbers a
    by_key (Some k) h =
        let s = sheet_of ws in
        let m = model_of s store in
        rw (replaced-found s m t r no_way) (h.0, shows-yes s m t r no_way h.1, h.2)
    by_key None h = λ q. inl (shows-no (sheet_of ws) (model_of (sheet_of ws) store) t r no_way h q)
