-- An update on a sound store that leaves tied columns as they were, case by case.
-- Assumes nothing.
use Prim.Native.Nat.{ℕ, ◌<◌}
use mathlib.Core.Path.{◌≡◌, refl, sym, ap, ◌∙◌}
use mathlib.Core.Bool.{Bool, true, false, cond}
use native.Mathlib.Omega.{arith}
use lib.Dec.{T}
use lib.ListN.{length, length-map}
use Rattle.lists.specs.Lists.{Words}
use Rattle.lists.specs.Totals.{Same}
use Rattle.lists.proofs.Truth.{is_t, T→≡}
use Rattle.lists.proofs.Totals.{same_length}
use Rattle.rows.specs.Rows.{Row, Rows, put_rows, take_rows, sorted, has_rows}
use Rattle.rows.specs.Marks.{spared, altered, is_marked}
use Rattle.meaning.specs.Answers.{contradiction, refused}
use Rattle.rows.proofs.Takes.{has_same, takes_same, length-puts, length-takes}
use Rattle.meaning.specs.Sheet.{Sheet}
use Rattle.meaning.specs.Base.{rows_of, change_of}
use Rattle.meaning.specs.Store.{model_of, sound, rows_at}
use Rattle.meaning.specs.Change.{qualifies, can_take, rows_through, rows_found, with_columns, side_row, update_effect, effect, old_row, found_show, agrees}
use Rattle.laws.specs.Sheets.{Good}
use Rattle.laws.specs.Updates.{Tied}
use Rattle.laws.proofs.Stores.{model-side}
use Rattle.laws.proofs.Changes.{side_after}
use Rattle.walks.proofs.Marks.{puts-left}
use Rattle.walks.proofs.Updates.{update-rows}
use Rattle.effects.specs.Applied.{applied, done, nothing, walk_rows, replaced_rows, Marked}
use Rattle.effects.proofs.Rooms.{list_after, side-room, list-room}
use Rattle.effects.proofs.Cases.{applied-contradicts, applied-done, applied-nothing, done-same}
use Rattle.effects.proofs.Rows.{list-rising, walk_rows_lem, side-row-long, side-has}

module _ (s : Sheet) (g : Good s) (ws : Words) (ok : T (sound s ws)) (t : ℕ) (l : t < s.n) (r r' : Row) where
  -- 8: its shown columns are missing, or its key is there though it isn't qualified
  pub update-contradicts-side : old_row s (model_of s ws) t r ≡ false → applied s ws (change_of 3 t r r') ≡ refused contradiction ws
  unfolding agrees
  update-contradicts-side e = applied-contradicts s g ws ok (change_of 3 t r r') l (rw e)

  module _ (old : old_row s (model_of s ws) t r ≡ true) where
    -- a row that isn't qualified changes nothing
    pub update-none : qualifies s (model_of s ws) t r ≡ false → applied s ws (change_of 3 t r r') ≡ nothing ws
    unfolding effect agrees found_show has_rows
    update-none e = applied-nothing s g ws ok (change_of 3 t r r') l (rw (old, e)) (rw e)

    -- 8: list rows found by key show other values
    pub update-contradicts-shown : found_show s (model_of s ws) t r ≡ false → applied s ws (change_of 3 t r r') ≡ refused contradiction ws
    unfolding agrees
    update-contradicts-shown e = applied-contradicts s g ws ok (change_of 3 t r r') l (rw (old, e))

    module _ (q : qualifies s (model_of s ws) t r ≡ true) (show : found_show s (model_of s ws) t r ≡ true) where
      effect_is : effect s (model_of s ws) (change_of 3 t r r') ≡ update_effect s (model_of s ws) t r r'
      unfolding effect
      effect_is = rw q

      out : Same (update_effect s (model_of s ws) t r r').list_out (replaced_rows s (model_of s ws) t r)
      unfolding update_effect replaced_rows
      out = go (can_take s t)
        where
          go : (b : Bool)
              → Same (cond b (rows_through s (model_of s ws) t r) (rows_found s (model_of s ws) t r))
              (cond b (walk_rows s (model_of s ws) t r) (rows_found s (model_of s ws) t r))
          go true = walk_rows_lem s g ws ok t l r (is_t q)
          go false = λ f. refl

      -- the store agrees exactly if the rows to be replaced stand on the list as often
      agree : agrees s (model_of s ws) (change_of 3 t r r') ≡ has_rows (replaced_rows s (model_of s ws) t r) (rows_at s ws s.n)
      unfolding agrees effect model_of
      agree = rw (old, show, q) (has_same (update_effect s (model_of s ws) t r r').list_out (replaced_rows s (model_of s ws) t r) (rows_at s ws s.n) out)

      -- 8: they aren't there as often
      pub update-contradicts-list : has_rows (replaced_rows s (model_of s ws) t r) (rows_at s ws s.n) ≡ false
          → applied s ws (change_of 3 t r r') ≡ refused contradiction ws
      update-contradicts-list e = applied-contradicts s g ws ok (change_of 3 t r r') l (agree ∙ e)

      side-many : length (side_after (model_of s ws) t (update_effect s (model_of s ws) t r r')) ≡ length (rows_of (model_of s ws).sides t)
      unfolding update_effect
      side-many =
          omega (
            arith,
            length-puts (side_row s t r') (take_rows (side_row s t r) (rows_of (model_of s ws).sides t)),
            side-row-long s t r r',
            length-takes (side_row s t r) (rows_of (model_of s ws).sides t) (side-has s (model_of s ws) t r old q),
          )

      side-is : side_after (model_of s ws) t (update_effect s (model_of s ws) t r r') ≡ put_rows (side_row s t r') (take_rows (side_row s t r) (rows_at s ws t))
      unfolding update_effect
      side-is = ap (λ (rows : Rows). put_rows (side_row s t r') (take_rows (side_row s t r) rows)) (model-side s ws t l)

      module _ (ti : Tied s t r r') (there : T (has_rows (replaced_rows s (model_of s ws) t r) (rows_at s ws s.n))) where
        has : T (has_rows (update_effect s (model_of s ws) t r r').list_out (rows_at s ws s.n))
        has = rw (has_same (update_effect s (model_of s ws) t r r').list_out (replaced_rows s (model_of s ws) t r) (rows_at s ws s.n) out) there

        list-many : length (list_after (model_of s ws) (update_effect s (model_of s ws) t r r')) ≡ length (model_of s ws).list
        unfolding model_of
        list-many =
            let x = update_effect s (model_of s ws) t r r' in
            omega (
              arith,
              length-puts x.list_in (take_rows x.list_out (rows_at s ws s.n)),
              length-takes x.list_out (rows_at s ws s.n) has,
              ap length (update-rows s (model_of s ws) t l r r' ti),
              length-map x.list_out (with_columns s.listed t r'),
            )

        list-is : (numbers : Words) → spared (is_marked numbers) (rows_at s ws s.n) ≡ take_rows (replaced_rows s (model_of s ws) t r) (rows_at s ws s.n)
            → list_after (model_of s ws) (update_effect s (model_of s ws) t r r')
            ≡ sorted (altered (is_marked numbers) (with_columns s.listed t r') (rows_at s ws s.n))
        unfolding model_of
        list-is numbers left =
            let x = update_effect s (model_of s ws) t r r' in
            ap (λ (i : Rows). put_rows i (take_rows x.list_out (rows_at s ws s.n))) (update-rows s (model_of s ws) t l r r' ti)
            ∙ puts-left (is_marked numbers) (with_columns s.listed t r') x.list_out (rows_at s ws s.n) (list-rising s g ws ok) has
            (left ∙ sym (takes_same x.list_out (replaced_rows s (model_of s ws) t r) (rows_at s ws s.n) (list-rising s g ws ok) out))

      -- its side row is replaced, and each of these list rows gets the new row's columns; so no room is wanted
      pub update-done : Tied s t r r' → (numbers : Words) → Marked (replaced_rows s (model_of s ws) t r) (rows_at s ws s.n) numbers
          → applied s ws (change_of 3 t r r')
          ≡ done s ws t (length (replaced_rows s (model_of s ws) t r)) (length (replaced_rows s (model_of s ws) t r))
          (put_rows (side_row s t r') (take_rows (side_row s t r) (rows_at s ws t)))
          (sorted (altered (is_marked numbers) (with_columns s.listed t r') (rows_at s ws s.n)))
      update-done ti numbers h =
          let x = update_effect s (model_of s ws) t r r' in
          let taken = same_length x.list_out (replaced_rows s (model_of s ws) t r) out in
          applied-done s g ws ok (change_of 3 t r r') l (agree ∙ T→≡ _ h.there) x effect_is
          (omega (arith, side-many, side-room s g ws ok t l)) (omega (arith, list-many ti h.there, list-room s g ws ok))
          ∙ done-same s ws t taken (ap length (update-rows s (model_of s ws) t l r r' ti) ∙ length-map x.list_out (with_columns s.listed t r') ∙ taken)
          side-is (list-is ti h.there numbers h.left)
