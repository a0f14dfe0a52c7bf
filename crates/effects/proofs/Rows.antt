-- The rows that a change of a sound store takes and puts: the list rows by walks, and the side row.
-- Assumes nothing.
use Prim.Native.Nat.{ℕ, ◌<◌}
use mathlib.Core.Path.{◌≡◌, refl, sym, ap, ◌∙◌}
use mathlib.Core.Bool.{Bool, true, false, cond}
use mathlib.Core.List.{[], ◌∷◌, map}
use mathlib.Core.Logic.{⊎_elim}
use native.Mathlib.Omega.{arith}
use lib.Dec.{T}
use lib.ListN.{length}
use Rattle.lists.specs.Lists.{Words, flat}
use Rattle.lists.specs.Totals.{total, Same}
use Rattle.lists.proofs.Truth.{is_t, T→≡, decided, and-snd, and_both, cond-true}
use Rattle.rows.specs.Rows.{Row, Rows, pick, rising, has_row, has_rows}
use Rattle.meaning.specs.Sheet.{Sheet}
use Rattle.meaning.specs.Plan.{root, kept, shown}
use Rattle.meaning.specs.Base.{rows_of}
use Rattle.meaning.specs.Meaning.{list_row, Model}
use Rattle.meaning.specs.Store.{model_of, sound}
use Rattle.meaning.specs.Change.{widened, qualifies, can_take, rows_through, side_row, old_row}
use Rattle.laws.specs.Sheets.{Good}
use Rattle.laws.proofs.Trees.{cannot-root, cannot-unkept}
use Rattle.laws.proofs.Models.{part-side}
use Rattle.laws.proofs.Stores.{sound-get, model-many, sound-proper}
use Rattle.laws.proofs.Changes.{side-row-none}
use Rattle.walks.specs.Walk.{walk_from, all_walks, with_row}
use Rattle.walks.proofs.Sides.{with-other, rows-through, no-through, sound-once}
use Rattle.effects.specs.Applied.{walk_rows}

module _ (s : Sheet) (g : Good s) (ws : Words) (ok : T (sound s ws)) where
  -- the list stands in rising order
  pub list-rising : T (rising (model_of s ws).list)
  unfolding model_of
  list-rising = (sound-get s ws ok).in_order s.n (omega arith)

  -- where ways cannot be taken there is no walk: the root is another table, and unkept
  walks-none : (t : ℕ) → t < s.n → (r : Row) → (T (can_take s t) → ⊥) → walk_rows s (model_of s ws) t r ≡ []
  unfolding walk_rows all_walks
  walks-none t l r cannot = ap (λ (rows : Rows). map (list_row s) (flat (map (walk_from s (with_row s (model_of s ws) t r)) rows))) empty
    where
      none : rows_of (model_of s ws).sides (root s) ≡ []
      none =
          sym (part-side (model_of s ws) s.n (model-many s ws) (root s) g.root_in)
          ∙ (sound-proper s g ws ok).unkept (root s) g.root_in (cannot-unkept s g t cannot)

      empty : rows_of (with_row s (model_of s ws) t r) (root s) ≡ []
      empty =
          with-other s g (model_of s ws) t l r (root s) g.root_in (λ e. cannot-root s g t cannot (sym e))
          ∙ ap (map (widened s (root s))) none

  -- the list rows of the ways through a qualified row are those of the walks
  pub walk_rows_lem : (t : ℕ) → t < s.n → (r : Row) → T (qualifies s (model_of s ws) t r)
      → Same (rows_through s (model_of s ws) t r) (walk_rows s (model_of s ws) t r)
  unfolding walk_rows
  walk_rows_lem t l r q =
      ⊎_elim (λ can. rows-through s g (model_of s ws) t l r (sound-once s ws ok) q can)
      (λ no f. ap (total f) (no-through s (model_of s ws) t r (λ h. no (and-snd (qualifies s (model_of s ws) t r) (can_take s t) h))
      ∙ sym (walks-none t l r no)))
      (decided (can_take s t))

-- the side row of a kept table
pub side-row-one : (s : Sheet) (t : ℕ) (r : Row) → T (kept s t) → side_row s t r ≡ pick (shown s t) r ∷ []
unfolding side_row
side-row-one s t r k = cond-true (kept s t) (pick (shown s t) r ∷ []) [] k

pub side-row-long : (s : Sheet) (t : ℕ) (r r' : Row) → length (side_row s t r) ≡ length (side_row s t r')
unfolding side_row
side-row-long s t r r' = go (kept s t)
  where
    go : (b : Bool) → length (cond b (pick (shown s t) r ∷ []) []) ≡ length (cond b (pick (shown s t) r' ∷ []) [])
    go true = refl
    go false = refl

-- a qualified row that the store does not contradict stands in its side table
module _ (s : Sheet) (m : Model) (t : ℕ) (r : Row) (old : old_row s m t r ≡ true) (q : qualifies s m t r ≡ true) where
  pub side-there : T (kept s t) → T (has_row (pick (shown s t) r) (rows_of m.sides t))
  unfolding old_row
  side-there k = is_t (rw (T→≡ (kept s t) k, q) at old)

  pub side-has : T (has_rows (side_row s t r) (rows_of m.sides t))
  unfolding has_rows
  side-has =
      ⊎_elim (λ k. rw (side-row-one s t r k) (and_both (has_row (pick (shown s t) r) (rows_of m.sides t)) true (side-there k) tt))
      (λ no. rw (side-row-none s t r no) tt) (decided (kept s t))
