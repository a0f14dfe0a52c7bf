-- A sheet has at most 145 words, so nothing is lost where only the first 146 words of a text are kept.
-- Assumes nothing.
use Prim.Native.Nat.{◌+◌, ◌*◌, ◌≤◌}
use mathlib.Core.Path.{◌≡◌, refl, sym, ap}
use mathlib.Core.Bool.{Bool, true, false}
use mathlib.Core.List.{[], ◌∷◌}
use native.Mathlib.Omega.{arith}
use lib.Dec.{ltb, leb, eqb, leb→le}
use lib.ListN.{length, take, length-take}
use lib.Seq.{take_all}
use borrow.Author.Tests.{ltb-true, ltb-false}
use Rattle.lists.specs.Lists.{Words, between}
use Rattle.lists.proofs.Loops.{no}
use Rattle.lists.proofs.Truth.{is_t, and-snd, eqb→≡}
use Rattle.laws.proofs.Lists.{apart}
use Rattle.meaning.specs.Sheet.{good_counts, sheet_refusal, table_count, edge_count, condition_count, listed_count}
use Rattle.meaning.specs.Plan.{plan}
use Rattle.text.specs.Reading.{Reading, says, isnt}
use Rattle.text.specs.Readers.{most, first_words}
use Rattle.text.specs.Outcomes.{plan_of_reading}

-- the counts are small, and the length is what they say
sheet-length : (ws : Words) → good_counts ws ≡ true → length ws ≤ 145
unfolding good_counts
sheet-length ws h =
    let n = table_count ws in
    let e = edge_count ws in
    let c = condition_count ws in
    let p = listed_count ws in
    let long = eqb (length ws) (4 + 2 * n + 1 + 4 * e + 4 * c + 2 * p) in
    let k = apart (leb 1 n) (leb n 8 ∷ eqb (e + 1) n ∷ between 0 16 c ∷ between 1 16 p ∷ long ∷ []) (is_t h) in
    omega (
      arith,
      leb→le n 8 k.1.0,
      eqb→≡ (e + 1) n k.1.1.0,
      leb→le c 16 (and-snd (leb 0 c) (leb c 16) k.1.1.1.0),
      leb→le p 16 (and-snd (leb 1 p) (leb p 16) k.1.1.1.1.0),
      eqb→≡ (length ws) _ k.1.1.1.1.1.0,
    )

pub too_long : (ws : Words) → most ≤ length ws → sheet_refusal ws ≡ 1
unfolding sheet_refusal
too_long ws h = rw (sym (no (good_counts ws) (λ g. let l = sheet-length ws g in omega arith)))

pub first-enough : (r : Reading) → plan_of_reading (first_words r) ≡ plan_of_reading r
unfolding first_words plan
first-enough isnt = refl
first-enough (says ws) = go (ltb (length ws) most) refl
  where
    go : (t : Bool) → ltb (length ws) most ≡ t → plan (take most ws) ≡ plan ws
    go true l = ap plan (take_all most ws (omega (arith, ltb-true (length ws) most l)))
    go false l =
        let long : most ≤ length ws = ltb-false (length ws) most l in
        let a : sheet_refusal ws ≡ 1 = too_long ws long in
        let b : sheet_refusal (take most ws) ≡ 1 = too_long (take most ws) (simp length-take (omega arith)) in
        rw (a, b)
