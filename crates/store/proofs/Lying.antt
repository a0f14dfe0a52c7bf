-- A part of the store of a good sheet: its words, count and rows are those of the definition, it lies within a store of the right length, and a
-- function that writes it leaves a store that stands for the model with the rows written.
-- Assumes nothing.
use Prim.Native.Nat.{ℕ, ◌+◌, ◌*◌}
use mathlib.Core.Path.{◌≡◌, sym, ap, ap₂, ◌∙◌, subst}
use native.Mathlib.Omega.{arith}
use lib.ListN.{length, set}
use Rattle.lists.specs.Lists.{Words, at}
use Rattle.lists.specs.Parts.{part, splice}
use Rattle.rows.specs.Rows.{Rows}
use Rattle.rows.specs.Regions.{laid, Holds}
use Rattle.meaning.specs.Sheet.{Sheet}
use Rattle.meaning.specs.Plan.{columns, size, start, store_length}
use Rattle.meaning.specs.Meaning.{Model}
use Rattle.meaning.specs.Store.{part_rows, count, part_words, rows_at}
use Rattle.laws.specs.Sheets.{Good}
use Rattle.places.specs.Stands.{slot, stop, Stands, with_part}
use Rattle.places.proofs.Parts.{start-after, stop-inside, slot-nine, words-part}
use Rattle.places.proofs.Stands.{stands-count, stands-rows, stands-written}
use Rattle.store.specs.declared.Part.{Part}
use Rattle.store.specs.Parts.{size_of, stop_of, words_in, count_in, rows_in, Lies, Within, Kept, with_rows, Wrote}

module _ (s : Sheet) (number : ℕ) (p : Part) (lies : Lies s number p) where
  pub size_is : size_of p ≡ size s number
  unfolding size
  size_is = ap₂ ◌*◌ lies.room-is lies.columns-is

  pub stop_is : stop_of p ≡ stop s number
  stop_is = ap₂ ◌+◌ lies.start_is size_is

  pub count-is : (ws : Words) → count_in p ws ≡ count s ws number
  count-is ws = ap (at ws) lies.slot_is

  pub words-is : (ws : Words) → words_in p ws ≡ part_words s ws number
  unfolding words_in
  words-is ws = ap₂ (part ws) lies.start_is stop_is ∙ sym (words-part s ws number)

  pub rows_is : (ws : Words) → rows_in p ws ≡ rows_at s ws number
  unfolding rows_in rows_at
  rows_is ws = rw (words-is ws, count-is ws, lies.columns-is)

  pub lies_within : Good s → (ws : Words) → length ws ≡ store_length s → Within p ws
  lies_within g ws long =
      record {
        counted = omega (arith, lies.slot_is, slot-nine s g number);
        behind = omega (arith, lies.start_is, start-after s number);
        ends = omega (arith, stop_is, stop-inside s number lies.number_in);
      }

  -- in a store that stands for a model
  module _ (g : Good s) (ws : Words) (m : Model) (st : Stands s ws m) where
    pub lies-kept : Kept p ws
    lies-kept =
        record {
          within = lies_within g ws st.long;
          region = rw (words-is ws, count-is ws, lies.columns-is) (st.holds number lies.number_in).region;
        }

    pub lies-count : count_in p ws ≡ length (part_rows m number)
    lies-count = count-is ws ∙ stands-count s g ws m st number lies.number_in

    pub lies-rows : rows_in p ws ≡ part_rows m number
    lies-rows = rows_is ws ∙ stands-rows s g ws m st number lies.number_in

    pub wrote-stands : (rows : Rows) (after : Words) → Wrote p rows ws after → Stands s after (with_part m number rows)
    unfolding with_rows
    wrote-stands rows after w =
        subst (λ (y : Words). Stands s y (with_part m number rows)) (sym (w.words ∙ places))
        (stands-written s g ws m st number lies.number_in rows (length rows) (laid (size s number) rows) held long)
      where
        places : with_rows p ws rows ≡ set (splice ws (start s number) (stop s number) (laid (size s number) rows)) (slot s number) (length rows)
        places = rw (stop_is, size_is, lies.start_is, lies.slot_is)

        held : Holds (columns s number) (length rows) rows (laid (size s number) rows)
        held = rw (size_is, lies.columns-is) at w.held

        long : length (laid (size s number) rows) ≡ size s number
        long = rw size_is at w.long
