-- Refusal 9: after a change only its table's side table and the list can have outgrown their rooms.
-- Assumes nothing.
use Prim.Native.Nat.{ℕ, suc, ◌<◌, ◌≤◌}
use mathlib.Core.Path.{◌≡◌, sym, ◌∙◌}
use mathlib.Core.Bool.{Bool, true, false, cond, ◌&&◌}
use mathlib.Core.List.{[], ◌∷◌}
use native.Mathlib.Omega.{arith}
use lib.Dec.{T, leb, leb→le, le→leb}
use lib.ListN.{length, length-set}
use lib.Seq.{get_or-set_same, get_or-set_other}
use Rattle.lists.specs.Lists.{Words}
use Rattle.lists.proofs.Truth.{and-fst, and-snd, and_both, same_test}
use Rattle.rows.specs.Rows.{Row, Rows, same_row, put_rows, take_row, take_rows}
use Rattle.meaning.specs.Sheet.{Sheet, room}
use Rattle.meaning.specs.Base.{rows_of}
use Rattle.meaning.specs.Meaning.{Model}
use Rattle.meaning.specs.Store.{part_rows, model_of, sound, fits}
use Rattle.meaning.specs.Change.{Effect, after}
use Rattle.laws.specs.Sheets.{Good}
use Rattle.laws.proofs.Lists.{here-or}
use Rattle.laws.proofs.Models.{part-side, part-list, fits-get, fits-make}
use Rattle.laws.proofs.Stores.{sound-get, model-side, rows-count}
use Rattle.laws.proofs.Changes.{side_after}

-- rows taken out leave no more
length-take-le : (r : Row) (rows : Rows) → length (take_row r rows) ≤ length rows
unfolding take_row
length-take-le r [] = omega arith
length-take-le r (s ∷ rows) = go (same_row r s) (length-take-le r rows)
  where
    go : (b : Bool) → length (take_row r rows) ≤ length rows → length (cond b rows (s ∷ take_row r rows)) ≤ suc (length rows)
    go true h = omega arith
    go false h = omega arith

pub length-takes-le : (xs rows : Rows) → length (take_rows xs rows) ≤ length rows
unfolding take_rows
length-takes-le [] rows = omega arith
length-takes-le (x ∷ xs) rows = omega (arith, length-takes-le xs (take_row x rows), length-take-le x rows)

-- the list after an effect
abbrev pub list_after : Model → Effect → Rows
list_after m x = put_rows x.list_in (take_rows x.list_out m.list)

module _ (s : Sheet) (m : Model) (many : length m.sides ≡ s.n) (fit : T (fits s m)) (t : ℕ) (l : t < s.n) (x : Effect) where
  after-many : length (after m t x).sides ≡ s.n
  unfolding after
  after-many = length-set m.sides t (side_after m t x) ∙ many

  own : part_rows (after m t x) t ≡ side_after m t x
  unfolding after
  own = part-side (after m t x) s.n after-many t l ∙ get_or-set_same m.sides t (side_after m t x) [] (omega (arith, many))

  other : (u : ℕ) → u < s.n → (u ≡ t → ⊥) → part_rows (after m t x) u ≡ part_rows m u
  unfolding after
  other u k d =
      part-side (after m t x) s.n after-many u k ∙ get_or-set_other m.sides t u (side_after m t x) [] d ∙ sym (part-side m s.n many u k)

  list-own : part_rows (after m t x) s.n ≡ list_after m x
  unfolding after
  list-own = part-list (after m t x) s.n after-many

  -- so the code compares two counts after the change with their rooms
  pub fits_after : fits s (after m t x) ≡ leb (length (side_after m t x)) (room s t) && leb (length (list_after m x)) (room s s.n)
  fits_after =
      same_test (fits s (after m t x)) (leb (length (side_after m t x)) (room s t) && leb (length (list_after m x)) (room s s.n))
      (λ h. and_both (leb (length (side_after m t x)) (room s t)) (leb (length (list_after m x)) (room s s.n))
      (le→leb (length (side_after m t x)) (room s t) (rw own at (fits-get s (after m t x) h t (omega arith))))
      (le→leb (length (list_after m x)) (room s s.n) (rw list-own at (fits-get s (after m t x) h s.n (omega arith)))))
      (λ h. fits-make s (after m t x) (each
      (leb→le (length (side_after m t x)) (room s t) (and-fst (leb (length (side_after m t x)) (room s t)) (leb (length (list_after m x)) (room s s.n)) h))
      (leb→le (length (list_after m x)) (room s s.n) (and-snd (leb (length (side_after m t x)) (room s t)) (leb (length (list_after m x)) (room s s.n)) h))))
    where
      each : length (side_after m t x) ≤ room s t → length (list_after m x) ≤ room s s.n → (part : ℕ) → part ≤ s.n
          → length (part_rows (after m t x) part) ≤ room s part
      each h k part i =
          here-or (λ part. part ≤ s.n → length (part_rows (after m t x) part) ≤ room s part) s.n part (λ i. rw list-own k)
          (λ d. here-or (λ part. part ≤ s.n → length (part_rows (after m t x) part) ≤ room s part) t part (λ i. rw own h)
          (λ e i. rw (other part (omega (arith, d)) e) (fits-get s m fit part i))) i

-- before it, the rows of a sound store fit
module _ (s : Sheet) (g : Good s) (ws : Words) (ok : T (sound s ws)) where
  pub side-room : (t : ℕ) → t < s.n → length (rows_of (model_of s ws).sides t) ≤ room s t
  side-room t l = rw (model-side s ws t l, rows-count s ws t) ((sound-get s ws ok).within t (omega arith))

  pub list-room : length (model_of s ws).list ≤ room s s.n
  unfolding model_of
  list-room = rw (rows-count s ws s.n) ((sound-get s ws ok).within s.n (omega arith))
