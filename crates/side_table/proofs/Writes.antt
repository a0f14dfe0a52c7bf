-- A side row put in, taken out or replaced: what the calls ask of the part, and what they leave.
-- Assumes nothing.
use Prim.Native.Nat.{ℕ, ◌<◌}
use mathlib.Core.Path.{◌≡◌, sym, ap, ap₂, ◌∙◌, subst}
use mathlib.Core.List.{[], ◌∷◌}
use native.Mathlib.Omega.{arith}
use lib.Dec.{T}
use lib.ListN.{length, set, take}
use Rattle.lists.specs.Lists.{Words}
use Rattle.lists.proofs.Truth.{false→F}
use Rattle.rows.specs.Rows.{Row, Rows, pick, rising, put_row, put_rows, take_row, take_rows}
use Rattle.rows.specs.Ranks.{found_row}
use Rattle.std.specs.Prelude.{Option, Some, None}
use Rattle.rows.proofs.Ranks.{There, found-row, missing-row}
use Rattle.rows.proofs.Keys.{Replaced, replace-side}
use Rattle.meaning.specs.Sheet.{Sheet}
use Rattle.meaning.specs.Plan.{kept, shown}
use Rattle.meaning.specs.Meaning.{Model}
use Rattle.meaning.specs.Store.{part_rows, rows_at}
use Rattle.meaning.specs.Change.{side_row}
use Rattle.laws.proofs.Columns.{key-pick}
use Rattle.laws.proofs.Models.{part-side}
use Rattle.laws.proofs.Stores.{rows-count}
use Rattle.laws.proofs.Changes.{side-row-none}
use Rattle.places.specs.Stands.{Stands, with_part}
use Rattle.places.proofs.Models.{with-side, side-itself}
use Rattle.effects.proofs.Rows.{side-row-one}
use Rattle.store.specs.declared.Part.{Part}
use Rattle.store.specs.Parts.{count_in, rows_in, Wrote}
use Rattle.store.proofs.Lying.{count-is}
use Rattle.side_table.specs.Sides.{Begins, found_side, Modelled, has_room, Replaceable, Sided, SidePut, SideTaken, SideReplaced}
use Rattle.side_table.proofs.Parts.{Side, side-kept, side-rows, side-wrote, side-head}
use Rattle.side_table.proofs.Tests.{room-free}

-- a table whose rows stay
with_itself : (m : Model) (n t : ℕ) → length m.sides ≡ n → t < n → with_part m t (part_rows m t) ≡ m
with_itself m n t many l =
    let same : set m.sides t (part_rows m t) ≡ m.sides = ap (set m.sides t) (part-side m n many t l) ∙ side-itself m t in
    with-side m n many (part_rows m t) t l ∙ ap (λ sides. record { sides = sides; list = m.list }) same

stays : (s : Sheet) (t : ℕ) (f : Rows → Rows) (ws : Words) → t < s.n → ((rows : Rows) → f rows ≡ rows) → Sided s t f ws ws
stays s t f ws l same =
    record { stands = λ m st. subst (Stands s ws) (sym (ap (with_part m t) (same (part_rows m t)) ∙ with_itself m s.n t st.many l)) st }

-- an unkept table has no row to put, to take or to replace
module _ (s : Sheet) (t : ℕ) (l : t < s.n) (no : T (kept s t) → ⊥) (ws : Words) where
  no_row : (r : Row) → side_row s t r ≡ []
  no_row r = side-row-none s t r no

  pub put-unkept : (r : Row) → SidePut s t r ws ws
  unfolding put_rows
  put-unkept r = stays s t (put_rows (side_row s t r)) ws l (λ rows. rw (no_row r))

  pub take-unkept : (r : Row) → SideTaken s t r ws ws
  unfolding take_rows
  take-unkept r = stays s t (take_rows (side_row s t r)) ws l (λ rows. rw (no_row r))

  pub replace-unkept : (old new : Row) → SideReplaced s t old new ws ws
  unfolding put_rows take_rows
  replace-unkept old new =
      stays s t (λ (rows : Rows). put_rows (side_row s t new) (take_rows (side_row s t old) rows)) ws l (λ rows. rw (no_row old, no_row new))

-- the row that is replaced stands there
pub replace-there : (s : Sheet) (ws : Words) (t : ℕ) (old new : Row) → Replaceable s ws t old new → T (kept s t) → (f : Option ℕ)
    → f ≡ found_side s ws t old → f ≡ None → ⊥
replace-there s ws t old new h k f found d = false→F (missing-row (pick (shown s t) old) (rows_at s ws t) (sym d ∙ found)) (h.there k)

-- a kept table's part
module _ {s : Sheet} {t : ℕ} {q : Part} (side : Side s t q) {ws : Words} (m : Modelled s ws) where
  -- its one side row, as the rows that are put in or taken out
  one : (r : Row) → side_row s t r ≡ pick (shown s t) r ∷ []
  one r = side-row-one s t r side.is-kept

  -- with room for one more row
  pub room-left : T (has_room s ws t) → count_in q ws < q.room
  room-left h = omega (arith, count-is s t q side.lies ws, side.lies.room-is, room-free s ws t h side.is-kept)

  module _ {row r : Row} (b : Begins s t r row) (after : Words) where
    pub put-kept : Wrote q (put_row (take q.columns row) (rows_in q ws)) ws after → SidePut s t r ws after
    unfolding put_rows
    put-kept w =
        side-wrote side m (put_rows (side_row s t r)) (put_row (take q.columns row) (rows_in q ws)) after w
        (ap (λ (x : Row). put_row x (rows_in q ws)) (side-head side b) ∙ ap (λ (xs : Rows). put_rows xs (rows_in q ws)) (sym (one r)))

    pub take-kept : Wrote q (take_row (take q.columns row) (rows_in q ws)) ws after → SideTaken s t r ws after
    unfolding take_rows
    take-kept w =
        side-wrote side m (take_rows (side_row s t r)) (take_row (take q.columns row) (rows_in q ws)) after w
        (ap (λ (x : Row). take_row x (rows_in q ws)) (side-head side b) ∙ ap (λ (xs : Rows). take_rows xs (rows_in q ws)) (sym (one r)))

  -- a row found is replaced where it stands
  module _ {old new : Row} (h : Replaceable s ws t old new) (f : Option ℕ) (found : f ≡ found_side s ws t old) (i : ℕ) (d : f ≡ Some i) where
    up : T (rising (rows_in q ws))
    unfolding rows_in
    up = (side-kept side m).region.up

    here : There (pick (shown s t) old) (rows_in q ws) i
    here = found-row (pick (shown s t) old) (rows_in q ws) i up (sym d ∙ found ∙ ap (found_row (pick (shown s t) old)) (sym (side-rows side ws)))

    is : Replaced (pick (shown s t) old) (pick (shown s t) new) (rows_in q ws) i
    is =
        let same_key = key-pick s side.good t side.there in
        replace-side (pick (shown s t) old) (pick (shown s t) new) (rows_in q ws) i up (rw (side-rows side ws) h.once) here
        (same_key new ∙ h.keys ∙ sym (same_key old))

    pub replace-below : i < count_in q ws
    replace-below = omega (arith, here.below, ap length (side-rows side ws), rows-count s ws t, count-is s t q side.lies ws)

    module _ {row : Row} (b : Begins s t new row) where
      pub replace-up : T (rising (set (rows_in q ws) i (take q.columns row)))
      replace-up = rw (side-head side b) is.up

      pub replace-kept : (after : Words) → Wrote q (set (rows_in q ws) i (take q.columns row)) ws after → SideReplaced s t old new ws after
      unfolding put_rows take_rows
      replace-kept after w =
          side-wrote side m (λ (rows : Rows). put_rows (side_row s t new) (take_rows (side_row s t old) rows))
          (set (rows_in q ws) i (take q.columns row)) after w
          (ap (set (rows_in q ws) i) (side-head side b) ∙ sym is.is
          ∙ ap₂ (λ (xs ys : Rows). put_rows xs (take_rows ys (rows_in q ws))) (sym (one new)) (sym (one old)))
