-- The place of a shown column among the shown ones.
-- Assumes nothing.
use Prim.Native.Nat.{ℕ, suc, ◌+◌, ◌-◌, ◌*◌, ◌/◌, ◌%◌, ◌<◌}
use mathlib.Core.Path.{◌≡◌, refl, sym, ap, ap₂, subst, ◌∙◌}
use mathlib.Core.Bool.{Bool, true, cond}
use mathlib.Core.List.{List, [], ◌∷◌, ◌++◌}
use mathlib.Core.Logic.{inl, inr}
use native.Mathlib.Omega.{arith}
use lib.ListN.{length, replicate}
use borrow.Author.Tests.{eq-eqb, ne_eqb}
use Rattle.lists.specs.Lists.{Words, at, Mem, select, from, up_to, place_of}
use Rattle.lists.proofs.Truth.{T→≡, mem-select, up_to-mem}
use Rattle.lists.proofs.Loops.{get_or-filled}
use Rattle.meaning.specs.Sheet.{sheet_of, table_count}
use Rattle.meaning.specs.Plan.{shown}
use Rattle.sheet.specs.Counted.{counted}
use Rattle.sheet.specs.Rules.{Rules}
use Rattle.laws.proofs.Lists.{select-append}
use Rattle.sheet.proofs.Numbers.{length-up_to}
use Rattle.sheet_plan.specs.Marks.{has_mark, marked_in}
use Rattle.sheet_plan.specs.Plans.{shows_of}
use Rattle.sheet_plan.proofs.Chosen.{up_to-split}
use Rattle.sheet_plan.proofs.Shown.{marked-columns}
use Rattle.sheet_plan.specs.Marks.{place_no, places_of}

-- the first c stands behind what is not c
place-behind : (c : ℕ) (xs ys : List ℕ) → (Mem c xs → ⊥) → place_of c (xs ++ (c ∷ ys)) ≡ length xs
place-behind c [] ys h = ap (λ (b : Bool). cond b 0 (suc (place_of c ys))) (eq-eqb c c refl)
place-behind c (x ∷ xs) ys h =
    ap (λ (b : Bool). cond b 0 (suc (place_of c (xs ++ (c ∷ ys))))) (ne_eqb c x (λ q. h (inl q))) ∙ ap suc (place-behind c xs ys (λ m. h (inr m)))

-- among the numbers below n that pass, c stands behind as many as pass before it
pub place-chosen : (p : ℕ → Bool) (n c : ℕ) → c < n → p c ≡ true → place_of c (select p (up_to n)) ≡ counted p c
place-chosen p n c h t =
    let m : n - c ≡ suc (n - c - 1) = omega arith in
    ap (λ (l : List ℕ). place_of c (select p l)) (up_to-split n c (omega arith) ∙ ap (λ (j : ℕ). up_to c ++ from c j) m)
    ∙ ap (place_of c) (select-append p (up_to c) (from c (suc (n - c - 1))))
    ∙ ap (λ (b : Bool). place_of c (select p (up_to c) ++ cond b (c ∷ select p (from (suc c) (n - c - 1))) (select p (from (suc c) (n - c - 1))))) t
    ∙ place-behind c (select p (up_to c)) (select p (from (suc c) (n - c - 1))) (λ k. let l = up_to-mem c c (mem-select p (up_to c) c k).0 in omega arith)
    ∙ length-up_to p c

pub place_is : (ws : Words) → Rules ws → (t c : ℕ) → t < table_count ws → Mem c (shown (sheet_of ws) t)
    → at (places_of (shows_of (sheet_of ws))) (8 * t + c) ≡ place_of c (shown (sheet_of ws) t)
unfolding places_of place_no marked_in
place_is ws r t c h m =
    let e = marked-columns ws r t eight in
    let k = mem-select (has_mark (shows_of (sheet_of ws)) t) (up_to 8) c (subst (λ (l : List ℕ). Mem c l) (sym e) m) in
    let l = up_to-mem 8 c k.0 in
    let a : (8 * t + c) / 8 ≡ t = omega arith in
    let b : (8 * t + c) % 8 ≡ c = omega arith in
    get_or-filled (place_no (shows_of (sheet_of ws))) 64 (8 * t + c) 0 (replicate 64 0) (omega (arith, eight)) (omega arith)
    ∙ ap₂ (λ (x y : ℕ). counted (has_mark (shows_of (sheet_of ws)) x) y) a b
    ∙ sym (place-chosen (has_mark (shows_of (sheet_of ws)) t) 8 c l (T→≡ (has_mark (shows_of (sheet_of ws)) t c) k.1)) ∙ ap (place_of c) e
  where
    eight : t < 8
    eight = omega (arith, r.counts.tables-few)
