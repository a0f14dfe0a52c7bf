-- Demand 2: what a sheet derives meets the document's own sentences, and a fill from lawful base tables whose rows fit is accepted and writes exactly
-- the side tables and the list.
-- Assumes nothing.
use Prim.Native.Nat.{ℕ, ◌≤◌}
use mathlib.Core.Path.{◌≡◌, sym, ap, ◌∙◌, subst}
use lib.Dec.{T, le→leb}
use lib.ListN.{length}
use Rattle.lists.specs.Lists.{Words, flat}
use Rattle.lists.proofs.Truth.{eq→eqb}
use Rattle.meaning.specs.Sheet.{Sheet, sheet_of, sheet_refusal}
use Rattle.meaning.specs.Plan.{store_length}
use Rattle.meaning.specs.Base.{base_of, good_base}
use Rattle.meaning.specs.Meaning.{Model, meaning}
use Rattle.meaning.specs.Store.{part_rows, store_of, model_of, sound, fits, show}
use Rattle.meaning.specs.Fill.{filled, fill}
use Rattle.meaning.specs.Demands.{sheet_tests, fill_tests, show_tests, Derived, Filled, Demand2}
use Rattle.laws.specs.Sheets.{Good}
use Rattle.laws.proofs.Numbers.{Passed, passed-zero, fill-first, fill-accepted, show-first, show-accepted}
use Rattle.laws.proofs.Sheets.{sheet-passed, good-sheet}
use Rattle.laws.proofs.Trees.{dep-plus-is, need-listed, need-root, need-child, only-root-unkept}
use Rattle.laws.proofs.Qualified.{side-table-is}
use Rattle.laws.proofs.Meanings.{base-lawful, meaning-list}
use Rattle.laws.proofs.Models.{Proper, model-back, stretch-is, store_long, store-sound}
use Rattle.laws.proofs.Stores.{meaning-proper}

pub derived : (sheet : Words) → sheet_refusal sheet ≡ 0 → Derived (sheet_of sheet)
derived sheet ok =
    let s = sheet_of sheet in
    let g = good-sheet sheet ok in
    record {
      all-reached = dep-plus-is s g;
      need-listed = λ t l. need-listed s g t;
      need-root = need-root s g;
      need-child = need-child s g;
      only-root = only-root-unkept s g;
      side = side-table-is s g;
    }

module _ (sheet store run : Words) (ok : sheet_refusal sheet ≡ 0) (long : length store ≡ store_length (sheet_of sheet))
    (right : T (good_base (sheet_of sheet) run))
    (fit : T (fits (sheet_of sheet) (meaning (sheet_of sheet) (base_of (sheet_of sheet) run)))) where
  abbrev s : Sheet
  s = sheet_of sheet

  abbrev m : Model
  m = meaning s (base_of s run)

  g : Good s
  g = good-sheet sheet ok

  proper : Proper s m
  proper = meaning-proper s g (base_of s run) (base-lawful s run right)

  tree : Passed (sheet_tests sheet)
  tree = sheet-passed sheet ok

  accepts : (fill sheet store run).number ≡ 0
  accepts = passed-zero (fill_tests sheet store run) _ (tree.0, (tree.1.0, (tree.1.1.0, (eq→eqb long, (right, (fit, tt)))))) (fill-first sheet store run)

  words_are : (fill sheet store run).words ≡ store_of s m
  unfolding filled
  words_are = ap (λ o. o.words) (fill-accepted sheet store run accepts)

  shows-part : (part : ℕ) → part ≤ s.n → (show sheet (store_of s m) part).words ≡ flat (part_rows m part)
  shows-part part l =
      show-accepted sheet (store_of s m) part
      (passed-zero (show_tests sheet (store_of s m) part) _
      (tree.0, (tree.1.0, (tree.1.1.0, (eq→eqb (store_long s g m proper fit), (le→leb part s.n l, (store-sound s g m proper fit, tt))))))
      (show-first sheet (store_of s m) part))
      ∙ stretch-is s g m proper fit part l

  pub is-filled : Filled sheet run (fill sheet store run)
  unfolding filled
  is-filled =
      record {
        number = accepts;
        taken = ap (λ o. o.taken) (fill-accepted sheet store run accepts);
        added = ap (λ o. o.added) (fill-accepted sheet store run accepts) ∙ ap length (meaning-list s (base_of s run));
        is-sound = subst (λ (w : Words). T (sound s w)) (sym words_are) (store-sound s g m proper fit);
        model = ap (model_of s) words_are ∙ model-back s g m proper fit;
        shows = λ part l. ap (λ w. (show sheet w part).words) words_are ∙ shows-part part l;
      }

pub demand2 : Demand2
demand2 = record { derived = derived; fills = is-filled }
