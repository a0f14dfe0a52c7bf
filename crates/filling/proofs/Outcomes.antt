-- The fill call's outcome, test by test in its order, and refusal 9 as counts against rooms.
-- Assumes nothing.
use Prim.Native.Nat.{ℕ, ◌+◌}
use mathlib.Core.Path.{◌≡◌, sym, ap, ap₂, ◌∙◌}
use mathlib.Core.Bool.{true, false, ◌&&◌}
use native.Mathlib.Numerals.{add-one}
use lib.Dec.{leb}
use lib.ListN.{length}
use borrow.Author.Tests.{eq-eqb, ne_eqb}
use Rattle.lists.specs.Lists.{Words}
use Rattle.lists.specs.Loops.{every}
use Rattle.lists.proofs.Truth.{all_same, up_to-mem}
use Rattle.meaning.specs.Answers.{wrong_length, no_room, bad_base, refused}
use Rattle.meaning.specs.Sheet.{Sheet, sheet_of, sheet_refusal, tables, room}
use Rattle.meaning.specs.Plan.{store_length}
use Rattle.meaning.specs.Base.{Tables, base_of, good_base}
use Rattle.meaning.specs.Meaning.{meaning}
use Rattle.meaning.specs.Store.{part_rows, fits}
use Rattle.meaning.specs.Fill.{fill_refusal, filled, fill}
use Rattle.laws.proofs.Numbers.{first-stays, fill-number, fill-refused}
use Rattle.laws.proofs.Models.{part-side, part-list}
use Rattle.laws.proofs.Meanings.{meaning-many, meaning-side, meaning-list}
use Rattle.sheet.proofs.Numbers.{all-up_to}
use Rattle.filling.specs.Written.{side_fits, list_fits}

-- Test by test
module _ (sheet store run : Words) where
  pub fill-sheet : (sheet_refusal sheet ≡ 0 → ⊥) → fill sheet store run ≡ refused (sheet_refusal sheet) store
  fill-sheet d = fill-refused sheet store run (λ e. d (sym is ∙ e)) ∙ ap (λ (k : ℕ). refused k store) refusal
    where
      refusal : fill_refusal sheet store run ≡ sheet_refusal sheet
      refusal = unfold fill_refusal in first-stays (sheet_refusal sheet) _ d

      is : (fill sheet store run).number ≡ sheet_refusal sheet
      is = fill-number sheet store run ∙ refusal

  module _ (good : sheet_refusal sheet ≡ 0) where
    pub fill-length : (length store ≡ store_length (sheet_of sheet) → ⊥) → fill sheet store run ≡ refused wrong_length store
    unfolding fill fill_refusal
    fill-length d = rw (good, ne_eqb (length store) (store_length (sheet_of sheet)) d)

    module _ (long : length store ≡ store_length (sheet_of sheet)) where
      pub fill-bad-base : good_base (sheet_of sheet) run ≡ false → fill sheet store run ≡ refused bad_base store
      unfolding fill fill_refusal
      fill-bad-base b = rw (good, eq-eqb (length store) (store_length (sheet_of sheet)) long, b)

      module _ (lawful : good_base (sheet_of sheet) run ≡ true) where
        pub fill-no-room : fits (sheet_of sheet) (meaning (sheet_of sheet) (base_of (sheet_of sheet) run)) ≡ false
            → fill sheet store run ≡ refused no_room store
        unfolding fill fill_refusal
        fill-no-room f = rw (good, eq-eqb (length store) (store_length (sheet_of sheet)) long, lawful, f)

        pub fill_done : fits (sheet_of sheet) (meaning (sheet_of sheet) (base_of (sheet_of sheet) run)) ≡ true
            → fill sheet store run ≡ filled (sheet_of sheet) run
        unfolding fill fill_refusal
        fill_done f = rw (good, eq-eqb (length store) (store_length (sheet_of sheet)) long, lawful, f)

-- Refusal 9: each side table, and the list, against its room
pub fits-is : (s : Sheet) (base : Tables) → fits s (meaning s base) ≡ (every (side_fits s base) s.n && list_fits s base)
unfolding fits side_fits list_fits every
fits-is s base =
    let m = meaning s base in
    let many = meaning-many s base in
    all-up_to (λ part. leb (length (part_rows m part)) (room s part)) (s.n + 1)
    ∙ ap (every (λ part. leb (length (part_rows m part)) (room s part))) (add-one s.n)
    ∙ ap₂ ◌&&◌
    (sym (all-up_to (λ part. leb (length (part_rows m part)) (room s part)) s.n)
    ∙ all_same (λ part. leb (length (part_rows m part)) (room s part)) (side_fits s base) (tables s)
    (λ t i. let l = up_to-mem s.n t i in ap (λ rows. leb (length rows) (room s t)) (part-side m s.n many t l ∙ meaning-side s base t l))
    ∙ all-up_to (side_fits s base) s.n)
    (ap (λ rows. leb (length rows) (room s s.n)) (part-list m s.n many ∙ meaning-list s base))
