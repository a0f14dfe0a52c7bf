-- Each way through the show call: what it gives when a test is not passed, and when all are.
-- Assumes nothing.
use Prim.Native.Nat.{ℕ, zero, suc, ◌+◌, ◌<◌, ◌≤◌}
use mathlib.Core.Path.{◌≡◌, refl, sym, ap, ◌∙◌}
use mathlib.Core.Bool.{true, false}
use mathlib.Core.List.{[]}
use native.Mathlib.Omega.{arith}
use lib.ListN.{length}
use borrow.Author.Tests.{eq-eqb, ne_eqb, le-leb, lt-leb}
use Rattle.lists.specs.Lists.{Words}
use Rattle.lists.specs.Parts.{part}
use denote.Ref.{Bor}
use Rattle.std.specs.Prelude.{Result, Ok, Err}
use Rattle.sheet.specs.declared.refusal.Refusal.{Refusal}
use Rattle.sheet.specs.Refusals.{refusal_number, number_of}
use Rattle.sheet.proofs.Refusals.{never-zero, number-once}
use Rattle.store.specs.Shows.{Gives, first_of, Stands, words_in, word_at, HandsBack}
use Rattle.store.specs.declared.Stretch.{Stretch}
use Rattle.meaning.specs.Sheet.{sheet_of, sheet_refusal}
use Rattle.meaning.specs.Plan.{store_length}
use Rattle.meaning.specs.Store.{sound, show_refusal, stretch_of, show}

-- the words and the number that are handed back
pub back-gives : (sheet : Words) (store : Bor Words) (part : ℕ) (a : Result (Bor Words) Refusal) → HandsBack sheet store part a
    → Gives sheet store.now part (words_in a) (number_of a)
back-gives sheet store part (Ok rows) h = h.gives
back-gives sheet store part (Err r) h = h

-- the same words at the same place, or the same refusal
abbrev pub Same : Result (Bor Words) Refusal → Result (Bor Words) Refusal → Type 0
Same (Ok v) (Ok w) = (v.now ≡ w.now) × (v.ref_ptr ≡ w.ref_ptr)
Same (Ok v) (Err r) = ⊥
Same (Err r) (Ok w) = ⊥
Same (Err r) (Err q) = r ≡ q

-- two answers that keep the promise are the same: words and place, or number
pub gives-once : (sheet : Words) (store : Bor Words) (part : ℕ) (v w : Result (Bor Words) Refusal) → HandsBack sheet store part v → HandsBack sheet store part w
    → Same v w
gives-once sheet store part (Ok v) (Ok w) x y = (x.gives.words_are ∙ sym y.gives.words_are, x.stands ∙ sym y.stands)
gives-once sheet store part (Ok v) (Err r) x y = never-zero r (y.number_is ∙ sym x.gives.number_is)
gives-once sheet store part (Err r) (Ok w) x y = never-zero r (x.number_is ∙ sym y.gives.number_is)
gives-once sheet store part (Err r) (Err q) x y = number-once r q (x.number_is ∙ sym y.number_is)

-- no words stand at the store's first
pub none-stand : {sheet store : Words} {number : ℕ} (r : Refusal) → Gives sheet store number [] (refusal_number r) → Stands sheet store number (Err r)
unfolding first_of part
none-stand r g = record { gives = g; first-is = rw (ne_eqb (refusal_number r) 0 (never-zero r)); ends = omega arith }

-- the stretch handed back is the one that stands so
pub hands-back : {sheet : Words} {store : Bor Words} {number : ℕ} {rows : Bor Words} (s : Stretch) → Stands sheet store.now number (Ok s)
    → rows.now ≡ part store.now s.first (s.first + s.count) → rows.ref_ptr ≡ word_at store s.first → HandsBack sheet store number (Ok rows)
hands-back {store} s h w e =
    record {
      gives = record { words_are = w ∙ h.gives.words_are; number_is = h.gives.number_is };
      stands = e ∙ ap (word_at store) h.first-is;
    }

pub none-back : {sheet : Words} (store : Bor Words) {number : ℕ} (r : Refusal) → Stands sheet store.now number (Err r)
    → HandsBack sheet store number (Err r)
unfolding part
none-back store r h = h.gives

module _ (sheet store : Words) (part : ℕ) where
  -- a refusal's number and no words
  refusal : (k : ℕ) → show_refusal sheet store part ≡ suc k → Gives sheet store part [] (suc k)
  unfolding show
  refusal k e = record { words_are = rw (e, ne_eqb (suc k) 0 (λ q. omega arith)); number_is = sym e }

  pub shows-sheet : (k : ℕ) → sheet_refusal sheet ≡ k → (k ≡ 0 → ⊥) → Gives sheet store part [] k
  unfolding show_refusal
  shows-sheet zero e d = absurd (d refl)
  shows-sheet (suc k) e d = refusal k (rw e)

  module _ (good : sheet_refusal sheet ≡ 0) where
    pub shows-length : (length store ≡ store_length (sheet_of sheet) → ⊥) → Gives sheet store part [] 4
    unfolding show_refusal
    shows-length d = refusal 3 (rw (good, ne_eqb _ _ d))

    pub shows-no-part : length store ≡ store_length (sheet_of sheet) → (sheet_of sheet).n < part → Gives sheet store part [] 5
    unfolding show_refusal
    shows-no-part e l = refusal 4 (rw (good, eq-eqb _ _ e, lt-leb _ _ l))

    pub shows-unsound : length store ≡ store_length (sheet_of sheet) → part ≤ (sheet_of sheet).n → sound (sheet_of sheet) store ≡ false
        → Gives sheet store part [] 7
    unfolding show_refusal
    shows-unsound e l h = refusal 6 (rw (good, eq-eqb _ _ e, le-leb _ _ l, h))

    pub shows-rows : length store ≡ store_length (sheet_of sheet) → part ≤ (sheet_of sheet).n → sound (sheet_of sheet) store ≡ true
        → Gives sheet store part (stretch_of (sheet_of sheet) store part) 0
    unfolding show show_refusal
    shows-rows e l h =
        let none : show_refusal sheet store part ≡ 0 = rw (good, eq-eqb _ _ e, le-leb _ _ l, h) in
        record { words_are = rw none; number_is = sym none }
