-- A row replaced by another with its key and its tied columns: every row stays as qualified as it was. So a lawful update takes the old row's side
-- row and ways and puts the new row's, by the ways or, where they cannot be taken, by the key.
-- Assumes nothing.
use Prim.Native.Nat.{ℕ, zero, suc, ◌<◌}
use mathlib.Core.Path.{◌≡◌, refl, sym, ap, ◌∙◌, subst}
use mathlib.Core.Bool.{Bool, true, false, cond, not, ◌||◌}
use mathlib.Core.List.{[], ◌∷◌, map}
use mathlib.Core.Logic.{inl, ⊎_elim}
use lib.Dec.{T, eqb}
use Rattle.lists.specs.Lists.{at, all, select}
use Rattle.lists.specs.Totals.{Same}
use Rattle.lists.proofs.Truth.{select-same, decided, or_inl, or_inr}
use Rattle.rows.specs.Rows.{Row, Rows, key, same_row, has_key, no_key_twice}
use Rattle.meaning.specs.Sheet.{Sheet}
use Rattle.meaning.specs.Base.{Tables, rows_of}
use Rattle.meaning.specs.Meaning.{qualified, qualified_in, Model, meaning}
use Rattle.meaning.specs.Change.{qualifies, can_take, rows_through, rows_found, with_columns, no_effect, update_effect, found_show}
use Rattle.laws.specs.Updates.{Tied}
use Rattle.laws.specs.Sheets.{Good}
use Rattle.laws.proofs.Lists.{here-or}
use Rattle.laws.proofs.Qualified.{qualified-same, qualified_of}
use Rattle.laws.proofs.Ways.{way_rows}
use Rattle.laws.proofs.Updates.{tied-qualified}
use Rattle.upkeep.proofs.ByKey.{found-same, found-show, found-new}
use Rattle.upkeep.proofs.Replace.{Frame, having, alone, Judges, side-rows-one, side-rows-none, rows-here}
use Rattle.upkeep.proofs.Replace.{rows_alike, judges-self, none-unqualified, through-is, Moves, by-qualified}

-- a row for another with its key
key-swap : (b : Bool) (k : ℕ) (r r' : Row) (rows : Rows) → key r ≡ key r' → has_key k (cond b (r ∷ rows) rows) ≡ has_key k (cond b (r' ∷ rows) rows)
key-swap true k r r' rows e = ap (λ x. eqb k x || has_key k rows) e
key-swap false k r r' rows e = refl

module _ (s : Sheet) (g : Good s) (fr : Frame s) (r r' : Row) (tie : Tied s fr.table r r') where
  abbrev R : ℕ
  R = fr.table

  abbrev rest : Rows
  rest = fr.rest

  abbrev X : Row → Tables
  X x = having fr (x ∷ [])

  same_key : (k p x : ℕ) → has_key x (qualified_in s (X r) k p) ≡ has_key x (qualified_in s (X r') k p)
  same_key zero p x = refl
  same_key (suc k) p x =
      ap (has_key x) (select-same (qualified s (qualified_in s (X r) k) p) test (rows_of (X r) p) (λ y m.
      qualified-same s (qualified_in s (X r) k) (qualified_in s (X r') k) p y (λ e q. same_key k e.parent (at y e.column))))
      ∙ here-or (λ u. u ≡ p → has (rows_of (X r) u) ≡ has (rows_of (X r') u)) R p
      (λ e. ap has (rows-here s g fr (r ∷ []))
      ∙ ap (λ b. has_key x (cond b (r ∷ select test rest) (select test rest))) (tied e)
      ∙ key-swap (test r') x r r' (select test rest) tie.keys
      ∙ ap has (sym (rows-here s g fr (r' ∷ []))))
      (λ d e. ap has (rows_alike s g fr (r ∷ []) (r' ∷ []) p d)) refl
    where
      test : Row → Bool
      test = qualified s (qualified_in s (X r') k) p

      has : Rows → Bool
      has rows = has_key x (select test rows)

      tied : R ≡ p → test r ≡ test r'
      tied e =
          subst (λ (t : ℕ). qualified s (qualified_in s (X r') k) t r ≡ qualified s (qualified_in s (X r') k) t r') e
          (tied-qualified s R r r' tie (qualified_in s (X r') k))

  pub judges-new : Judges s (qualified_of s (X r)) (X r')
  judges-new t l x m = sym (qualified-same s (qualified_of s (X r)) (qualified_of s (X r')) t x (λ e p. same_key s.n e.parent (at x e.column)))

  module _ (once : (t : ℕ) → t < s.n → T (no_key_twice (rows_of (X r) t))) (new : T (has_key (key r) rest) → ⊥) where
    abbrev m : Model
    m = meaning s (X r)

    F : ℕ → Rows
    F = qualified_of s (X r)

    pub update-moves : Moves s g fr (r ∷ []) (r' ∷ []) (cond (qualifies s m R r) (update_effect s m R r r') no_effect)
    unfolding update_effect F
    update-moves =
        by-qualified s g fr (r ∷ []) (Moves s g fr (r ∷ []) (r' ∷ [])) r (update_effect s m R r r')
        (λ q. record {
          side-out = side-rows-one s F R r q;
          side-in = side-rows-one s F R r' (to q);
          list-out = by-can (can_take s R) (rows_through s m R r) (rows_found s m R r) (way_rows s (alone fr (r ∷ [])))
              (λ can. through-is s g fr (r ∷ []) (r ∷ []) own r (inl refl) q can)
              (λ cannot. found-same s g fr r once new cannot);
          list-in = by-can (can_take s R) (rows_through s m R r') (map (with_columns s.listed R r') (rows_found s m R r)) (way_rows s (alone fr (r' ∷ [])))
              (λ can. through-is s g fr (r ∷ []) (r' ∷ []) judges-new r' (inl refl) (to q) can)
              (λ cannot. found-new s g fr r once new cannot r' tie);
        })
        (λ q. record {
          side-out = side-rows-none s F R r q;
          side-in = side-rows-none s F R r' (λ h. q (from-new h));
          list-out = none-unqualified s g fr F (r ∷ []) own r (inl refl) q;
          list-in = none-unqualified s g fr F (r' ∷ []) judges-new r' (inl refl) (λ h. q (from-new h));
        })
      where
        own : Judges s F (X r)
        own = judges-self s g fr (r ∷ [])

        to : T (qualified s F R r) → T (qualified s F R r')
        to q = subst T (tied-qualified s R r r' tie F) q

        from-new : T (qualified s F R r') → T (qualified s F R r)
        from-new q = subst T (sym (tied-qualified s R r r' tie F)) q

        by-can : (b : Bool) (xs ys zs : Rows) → (T b → Same xs zs) → ((T b → ⊥) → Same ys zs) → Same (cond b xs ys) zs
        by-can true xs ys zs h k = h tt
        by-can false xs ys zs h k = k (λ i. i)

    -- the list rows found by key show the old row's values
    pub update-show : T (found_show s m R r)
    unfolding found_show
    update-show =
        let a = not (qualifies s m R r) in
        let show = all (λ row. same_row row (with_columns s.listed R r row)) (rows_found s m R r) in
        ⊎_elim (λ k. or_inl (a || can_take s R) show (or_inr a (can_take s R) k))
        (λ k. or_inr (a || can_take s R) show (found-show s g fr r once new k)) (decided (can_take s R))
