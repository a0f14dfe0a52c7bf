-- What the tests of a side table find is what the definition says, for an unkept table and for a kept one.
-- Assumes nothing.
use Prim.Native.Nat.{ℕ, ◌<◌, ◌≤◌}
use mathlib.Core.Path.{◌≡◌, refl, sym, ap, ap₂, ◌∙◌}
use mathlib.Core.Bool.{Bool, true, false, not, ◌||◌}
use native.Mathlib.Omega.{arith}
use lib.Dec.{T, ltb, ltb→lt}
use borrow.Author.Tests.{ltb-false}
use Rattle.lists.specs.Lists.{Words, at}
use Rattle.lists.proofs.Truth.{T→≡, F→≡, false→F}
use Rattle.rows.specs.Rows.{Row, Rows, key, pick, rising, has_row, has_key}
use Rattle.rows.specs.Ranks.{found_key}
use Rattle.std.specs.Prelude.{Option, Some, None, is_some}
use Rattle.rows.proofs.Ranks.{found-row, missing-row, found-key, missing-key}
use Rattle.meaning.specs.Sheet.{Sheet, room}
use Rattle.meaning.specs.Plan.{kept, shown}
use Rattle.meaning.specs.Store.{model_of, rows_at, count, sound}
use Rattle.meaning.specs.Change.{qualifies, new_key, old_row}
use Rattle.laws.specs.Sheets.{Good}
use Rattle.laws.proofs.Models.{part-side}
use Rattle.laws.proofs.Stores.{sound-get, model-many, model-side, sound-proper}
use Rattle.sheet_plan.specs.declared.Plan.{Plan}
use Rattle.places.proofs.Parts.{slot-table}
use Rattle.places.proofs.Stands.{sound-stands}
use Rattle.store.specs.Plans.{GoodPlan}
use Rattle.side_table.specs.Sides.{found_side, Modelled, has_room}

-- what is not found is new
turned : (a b : Bool) → a ≡ not b → b ≡ not a
turned a true e = rw e
turned a false e = rw e

-- table t of a good sheet is asked about, in a sound store
pub record Asked (s : Sheet) (t : ℕ) (ws : Words) : Type 0 where
  pub good : Good s
  pub there : t < s.n
  pub ok : T (sound s ws)

-- the sheet is good, for it has a plan
pub asked-planned : {s : Sheet} {p : Plan} {t : ℕ} {ws : Words} → GoodPlan s p → t < s.n → T (sound s ws) → Asked s t ws
asked-planned plan l ok = record { good = plan.good; there = l; ok = ok }

module _ {s : Sheet} {t : ℕ} {ws : Words} (asked : Asked s t ws) where
  pub sound-modelled : Modelled s ws
  sound-modelled = record { model = model_of s ws; stands = sound-stands s asked.good ws asked.ok }

  module _ (no : T (kept s t) → ⊥) where
    pub new-unkept : (r : Row) → true ≡ new_key (model_of s ws) t r
    unfolding new_key
    new-unkept r =
        ap (λ (rows : Rows). not (has_key (key r) rows))
        (sym ((sound-proper s asked.good ws asked.ok).unkept t asked.there no) ∙ part-side (model_of s ws) s.n (model-many s ws) t asked.there)

    pub old-unkept : (r : Row) → true ≡ old_row s (model_of s ws) t r
    unfolding old_row
    old-unkept r = rw (F→≡ (kept s t) no)

    pub room-unkept : true ≡ has_room s ws t
    unfolding has_room
    room-unkept = rw (F→≡ (kept s t) no)

  rising-side : T (rising (rows_at s ws t))
  rising-side = (sound-get s ws asked.ok).in_order t (omega (arith, asked.there))

  -- by a search for the key
  module _ (r : Row) (f : Option ℕ) (is : f ≡ found_key (key r) (rows_at s ws t)) where
    has : (o : Option ℕ) → f ≡ o → has_key (key r) (rows_at s ws t) ≡ is_some o
    has None e = missing-key (key r) (rows_at s ws t) (sym e ∙ is)
    has (Some i) e = T→≡ (has_key (key r) (rows_at s ws t)) (found-key (key r) (rows_at s ws t) i rising-side (sym e ∙ is)).has

    pub new-is : (b : Bool) → is_some f ≡ not b → b ≡ new_key (model_of s ws) t r
    unfolding new_key
    new-is b e = rw (model-side s ws t asked.there) (turned _ _ (has f refl ∙ e))

  module _ (k : T (kept s t)) where
    yes : kept s t ≡ true
    yes = T→≡ (kept s t) k

    -- of an unqualified row only the key is looked for
    pub old-unqualified : (r : Row) (q b : Bool) → q ≡ qualifies s (model_of s ws) t r → q ≡ false → b ≡ new_key (model_of s ws) t r
        → b ≡ old_row s (model_of s ws) t r
    unfolding old_row new_key
    old-unqualified r q b is e h = rw (yes, sym is ∙ e) h

    -- of a qualified row all shown columns
    module _ (r : Row) (q : Bool) (is : q ≡ qualifies s (model_of s ws) t r) (e : q ≡ true) (f : Option ℕ) (found : f ≡ found_side s ws t r) where
      there : (o : Option ℕ) → f ≡ o → has_row (pick (shown s t) r) (rows_at s ws t) ≡ is_some o
      there None h = missing-row (pick (shown s t) r) (rows_at s ws t) (sym h ∙ found)
      there (Some i) h =
          let row = pick (shown s t) r in
          T→≡ (has_row row (rows_at s ws t)) (found-row row (rows_at s ws t) i rising-side (sym h ∙ found)).has

      pub old-is : (b : Bool) → b ≡ is_some f → b ≡ old_row s (model_of s ws) t r
      unfolding old_row
      old-is b h = rw (yes, sym is ∙ e, model-side s ws t asked.there) (h ∙ sym (there f refl))

    pub room-is : (many : ℕ) → many ≡ room s t → ltb (at ws t) many ≡ has_room s ws t
    unfolding has_room
    room-is many e = rw yes (ap₂ ltb (ap (at ws) (sym (slot-table s t asked.there))) e)

-- read back: a side table without room is kept and full; one with room, if it is kept, has room for a row
module _ (s : Sheet) (ws : Words) (t : ℕ) where
  pub room-full : has_room s ws t ≡ false → T (kept s t) × (room s t ≤ count s ws t)
  unfolding has_room
  room-full e = go (kept s t) (ltb (count s ws t) (room s t)) refl e
    where
      go : (a b : Bool) → ltb (count s ws t) (room s t) ≡ b → (not a || b) ≡ false → T a × (room s t ≤ count s ws t)
      go true false z e = (tt, ltb-false (count s ws t) (room s t) z)
      go true true z e = absurd (false→F e tt)
      go false b z e = absurd (false→F e tt)

  pub room-free : T (has_room s ws t) → T (kept s t) → count s ws t < room s t
  unfolding has_room
  room-free h k = ltb→lt (count s ws t) (room s t) (rw (T→≡ (kept s t) k) at h)
