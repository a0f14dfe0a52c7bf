-- A delete on a sound store, case by case.
-- Assumes nothing.
use Prim.Native.Nat.{ℕ, ◌<◌}
use mathlib.Core.Path.{◌≡◌, refl, sym, ap, ◌∙◌}
use mathlib.Core.Bool.{true, false}
use native.Mathlib.Omega.{arith}
use lib.Dec.{T}
use lib.ListN.{length}
use Rattle.lists.specs.Lists.{Words}
use Rattle.lists.proofs.Truth.{is_t, T→≡}
use Rattle.lists.proofs.Totals.{same_length}
use Rattle.rows.specs.Rows.{Row, put_rows, take_rows, has_rows}
use Rattle.rows.specs.Marks.{spared, is_marked}
use Rattle.meaning.specs.Answers.{contradiction, refused}
use Rattle.rows.proofs.Takes.{has_same, takes_same}
use Rattle.meaning.specs.Sheet.{Sheet}
use Rattle.meaning.specs.Base.{rows_of, change_of}
use Rattle.meaning.specs.Store.{model_of, sound, rows_at}
use Rattle.meaning.specs.Change.{qualifies, rows_through, side_row, delete_effect, effect, old_row, agrees}
use Rattle.laws.specs.Sheets.{Good}
use Rattle.laws.proofs.Stores.{model-side}
use Rattle.effects.specs.Applied.{applied, done, nothing, walk_rows, Marked}
use Rattle.effects.proofs.Rooms.{length-takes-le, side-room, list-room}
use Rattle.effects.proofs.Cases.{applied-contradicts, applied-done, applied-nothing, done-same}
use Rattle.effects.proofs.Rows.{list-rising, walk_rows_lem}

module _ (s : Sheet) (g : Good s) (ws : Words) (ok : T (sound s ws)) (t : ℕ) (l : t < s.n) (r o : Row) where
  -- 8: its shown columns are missing, or its key is there though it isn't qualified
  pub delete-contradicts-side : old_row s (model_of s ws) t r ≡ false → applied s ws (change_of 2 t r o) ≡ refused contradiction ws
  unfolding agrees
  delete-contradicts-side e = applied-contradicts s g ws ok (change_of 2 t r o) l (rw e)

  module _ (old : old_row s (model_of s ws) t r ≡ true) where
    -- a row that isn't qualified changes nothing
    pub delete-none : qualifies s (model_of s ws) t r ≡ false → applied s ws (change_of 2 t r o) ≡ nothing ws
    unfolding effect agrees has_rows
    delete-none e = applied-nothing s g ws ok (change_of 2 t r o) l (rw (old, e)) (rw e)

    module _ (q : qualifies s (model_of s ws) t r ≡ true) where
      effect_is : effect s (model_of s ws) (change_of 2 t r o) ≡ delete_effect s (model_of s ws) t r
      unfolding effect
      effect_is = rw q

      -- the store agrees exactly if the walks' rows stand on the list as often
      agree : agrees s (model_of s ws) (change_of 2 t r o) ≡ has_rows (walk_rows s (model_of s ws) t r) (rows_at s ws s.n)
      unfolding agrees effect delete_effect model_of
      agree = rw (old, q) (has_same (rows_through s (model_of s ws) t r) (walk_rows s (model_of s ws) t r) (rows_at s ws s.n)
          (walk_rows_lem s g ws ok t l r (is_t q)))

      -- 8: they aren't there as often
      pub delete-contradicts-list : has_rows (walk_rows s (model_of s ws) t r) (rows_at s ws s.n) ≡ false
          → applied s ws (change_of 2 t r o) ≡ refused contradiction ws
      delete-contradicts-list e = applied-contradicts s g ws ok (change_of 2 t r o) l (agree ∙ e)

      -- its shown columns leave the side table, and the rows of its ways the list
      pub delete-done : (numbers : Words) → Marked (walk_rows s (model_of s ws) t r) (rows_at s ws s.n) numbers
          → applied s ws (change_of 2 t r o)
          ≡ done s ws t (length (walk_rows s (model_of s ws) t r)) 0 (take_rows (side_row s t r) (rows_at s ws t))
          (spared (is_marked numbers) (rows_at s ws s.n))
      unfolding delete_effect put_rows model_of
      delete-done numbers h =
          let same = walk_rows_lem s g ws ok t l r (is_t q) in
          let out = rows_through s (model_of s ws) t r in
          applied-done s g ws ok (change_of 2 t r o) l (agree ∙ T→≡ _ h.there) (delete_effect s (model_of s ws) t r) effect_is
          (omega (arith, length-takes-le (side_row s t r) (rows_of (model_of s ws).sides t), side-room s g ws ok t l))
          (omega (arith, length-takes-le out (rows_at s ws s.n), list-room s g ws ok))
          ∙ done-same s ws t (same_length out (walk_rows s (model_of s ws) t r) same) refl (ap (take_rows (side_row s t r)) (model-side s ws t l))
          (takes_same out (walk_rows s (model_of s ws) t r) (rows_at s ws s.n) (list-rising s g ws ok) same ∙ sym h.left)
