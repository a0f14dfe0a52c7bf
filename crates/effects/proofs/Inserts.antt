-- An insert on a sound store, case by case.
-- Assumes nothing.
use Prim.Native.Nat.{ℕ, ◌+◌, ◌<◌, ◌≤◌}
use mathlib.Core.Path.{◌≡◌, refl, sym, ap, ap₂, ◌∙◌}
use mathlib.Core.Bool.{Bool, true, false, cond}
use mathlib.Core.List.{◌++◌}
use mathlib.Core.Logic.{inl, inr, ⊎_elim}
use native.Mathlib.Omega.{arith}
use lib.Dec.{T}
use lib.ListN.{length}
use Rattle.lists.specs.Lists.{Words}
use Rattle.lists.specs.Totals.{total}
use Rattle.lists.proofs.Truth.{is_t, decided}
use Rattle.lists.proofs.Totals.{total-append, same_length}
use Rattle.rows.specs.Rows.{Row, key, put_rows, take_rows, sorted, has_rows, has_key}
use Rattle.meaning.specs.Answers.{contradiction, no_room, refused}
use Rattle.rows.proofs.Takes.{length-puts}
use Rattle.meaning.specs.Sheet.{Sheet, room}
use Rattle.meaning.specs.Plan.{kept}
use Rattle.meaning.specs.Store.{model_of, sound, count, rows_at}
use Rattle.meaning.specs.Change.{qualifies, rows_through, no_effect, side_row, insert_effect, effect, new_key, agrees}
use Rattle.meaning.specs.Base.{change_of}
use Rattle.laws.specs.Sheets.{Good}
use Rattle.laws.proofs.Stores.{sound-get, model-side, rows-count}
use Rattle.laws.proofs.Changes.{side-row-none, side_after}
use Rattle.walks.proofs.Marks.{puts-sorted}
use Rattle.effects.specs.Applied.{applied, done, nothing, walk_rows}
use Rattle.effects.proofs.Rooms.{list_after}
use Rattle.effects.proofs.Cases.{applied-contradicts, applied-no-room, applied-done, applied-nothing, done-same}
use Rattle.effects.proofs.Rows.{list-rising, walk_rows_lem, side-row-one}

module _ (s : Sheet) (g : Good s) (ws : Words) (ok : T (sound s ws)) (t : ℕ) (l : t < s.n) (o r : Row) where
  -- 8: the key stands in the kept side table
  pub insert-contradicts : has_key (key r) (rows_at s ws t) ≡ true → applied s ws (change_of 1 t o r) ≡ refused contradiction ws
  unfolding agrees new_key
  insert-contradicts e = applied-contradicts s g ws ok (change_of 1 t o r) l (rw (model-side s ws t l, e))

  module _ (new : has_key (key r) (rows_at s ws t) ≡ false) where
    agree : agrees s (model_of s ws) (change_of 1 t o r) ≡ true
    unfolding agrees new_key effect insert_effect has_rows
    agree = rw (model-side s ws t l, new) (go (qualifies s (model_of s ws) t r))
      where
        go : (b : Bool) → has_rows (cond b (insert_effect s (model_of s ws) t r) no_effect).list_out (model_of s ws).list ≡ true
        go true = refl
        go false = refl

    -- a row that isn't qualified changes nothing
    pub insert-none : qualifies s (model_of s ws) t r ≡ false → applied s ws (change_of 1 t o r) ≡ nothing ws
    unfolding effect
    insert-none e = applied-nothing s g ws ok (change_of 1 t o r) l agree (rw e)

    module _ (q : qualifies s (model_of s ws) t r ≡ true) where
      effect_is : effect s (model_of s ws) (change_of 1 t o r) ≡ insert_effect s (model_of s ws) t r
      unfolding effect
      effect_is = rw q

      many : length (rows_through s (model_of s ws) t r) ≡ length (walk_rows s (model_of s ws) t r)
      many = same_length (rows_through s (model_of s ws) t r) (walk_rows s (model_of s ws) t r) (walk_rows_lem s g ws ok t l r (is_t q))

      side-is : side_after (model_of s ws) t (insert_effect s (model_of s ws) t r) ≡ put_rows (side_row s t r) (rows_at s ws t)
      unfolding insert_effect take_rows
      side-is = ap (put_rows (side_row s t r)) (model-side s ws t l)

      side-many : length (side_after (model_of s ws) t (insert_effect s (model_of s ws) t r)) ≡ length (side_row s t r) + count s ws t
      side-many = ap length side-is ∙ length-puts (side_row s t r) (rows_at s ws t) ∙ ap (λ k. length (side_row s t r) + k) (rows-count s ws t)

      list-many : length (list_after (model_of s ws) (insert_effect s (model_of s ws) t r)) ≡ length (walk_rows s (model_of s ws) t r) + count s ws s.n
      unfolding insert_effect take_rows model_of
      list-many = length-puts (rows_through s (model_of s ws) t r) (rows_at s ws s.n) ∙ ap₂ ◌+◌ many (rows-count s ws s.n)

      list-is : list_after (model_of s ws) (insert_effect s (model_of s ws) t r) ≡ sorted (rows_at s ws s.n ++ walk_rows s (model_of s ws) t r)
      unfolding insert_effect take_rows model_of
      list-is =
          puts-sorted (rows_through s (model_of s ws) t r) (rows_at s ws s.n) (rows_at s ws s.n ++ walk_rows s (model_of s ws) t r) (list-rising s g ws ok)
          (λ f. total-append f (rows_at s ws s.n) (walk_rows s (model_of s ws) t r)
          ∙ ap (λ k. total f (rows_at s ws s.n) + k) (sym (walk_rows_lem s g ws ok t l r (is_t q) f))
          ∙ sym (total-append f (rows_at s ws s.n) (rows_through s (model_of s ws) t r)))

      -- 9: the side table is full, or the list has not so much room
      pub insert-no-room-side : T (kept s t) → room s t ≤ count s ws t → applied s ws (change_of 1 t o r) ≡ refused no_room ws
      insert-no-room-side k h =
          applied-no-room s g ws ok (change_of 1 t o r) l agree (insert_effect s (model_of s ws) t r) effect_is
          (inl (omega (arith, side-many, ap length (side-row-one s t r k))))

      pub insert-no-room-list : room s s.n < length (walk_rows s (model_of s ws) t r) + count s ws s.n → applied s ws (change_of 1 t o r) ≡ refused no_room ws
      insert-no-room-list h =
          applied-no-room s g ws ok (change_of 1 t o r) l agree (insert_effect s (model_of s ws) t r) effect_is
          (inr (omega (arith, list-many)))

      -- its shown columns enter the side table, and the list gains a row for each way
      pub insert-done : (T (kept s t) → count s ws t < room s t) → length (walk_rows s (model_of s ws) t r) + count s ws s.n ≤ room s s.n
          → applied s ws (change_of 1 t o r)
          ≡ done s ws t 0 (length (walk_rows s (model_of s ws) t r)) (put_rows (side_row s t r) (rows_at s ws t))
          (sorted (rows_at s ws s.n ++ walk_rows s (model_of s ws) t r))
      unfolding insert_effect
      insert-done h k =
          applied-done s g ws ok (change_of 1 t o r) l agree (insert_effect s (model_of s ws) t r) effect_is (omega (arith, side-many, room-left))
          (omega (arith, list-many))
          ∙ done-same s ws t refl many side-is list-is
        where
          room-left : length (side_row s t r) + count s ws t ≤ room s t
          room-left =
              ⊎_elim (λ kp. omega (arith, ap length (side-row-one s t r kp), h kp))
              (λ no. omega (arith, ap length (side-row-none s t r no), (sound-get s ws ok).within t (omega arith))) (decided (kept s t))
