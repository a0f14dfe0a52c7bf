-- The numbers that pass a test, in rising order: which stands where; and arrays filled alike.
-- Assumes nothing.
use Prim.Native.Nat.{ℕ, zero, suc, ◌+◌, ◌-◌, ◌<◌, ◌≤◌}
use mathlib.Core.Path.{◌≡◌, refl, sym, ap, ap₂, ◌∙◌}
use mathlib.Core.Bool.{Bool, true, false, cond, ◌&&◌}
use mathlib.Core.List.{List, [], ◌∷◌, ◌++◌}
use mathlib.Core.Logic.{inl, inr}
use native.Mathlib.Nat.{add-zero, add-suc, suc-add, zero-add, add-sub_of_le}
use native.Mathlib.Omega.{arith}
use lib.Dec.{ltb}
use lib.ListN.{set}
use lib.Seq.{get_or_at}
use borrow.Author.Tests.{lt-ltb, le-ltb}
use Rattle.lists.specs.Lists.{at, Mem, select, from, up_to}
use Rattle.lists.specs.Loops.{filled}
use Rattle.lists.proofs.Truth.{from-mem, select-same}
use Rattle.sheet.specs.Counted.{counted}
use Rattle.laws.proofs.Lists.{select-append}
use Rattle.sheet.proofs.Numbers.{length-up_to}

pub from-split : (i a b : ℕ) → from i (a + b) ≡ from i a ++ from (i + a) b
from-split i zero b = ap₂ from (sym (add-zero i)) (zero-add b)
from-split i (suc a) b =
    ap (from i) (suc-add a b)
    ∙ ap (λ (l : List ℕ). i ∷ l) (from-split (suc i) a b ∙ ap (λ (k : ℕ). from (suc i) a ++ from k b) (suc-add i a ∙ sym (add-suc i a)))

-- the numbers below n: those below c, and the others
pub up_to-split : (n c : ℕ) → c ≤ n → up_to n ≡ up_to c ++ from c (n - c)
up_to-split n c h = ap up_to (sym (add-sub_of_le h)) ∙ from-split 0 c (n - c) ∙ ap (λ (k : ℕ). up_to c ++ from k (n - c)) (zero-add c)

-- c, if it passes, stands behind as many as pass before it
pub chosen_at : (p : ℕ → Bool) (n c k : ℕ) → k ≡ counted p c → c < n → p c ≡ true → at (select p (up_to n)) k ≡ c
chosen_at p n c k e h t =
    let m : n - c ≡ suc (n - c - 1) = omega arith in
    ap (λ (l : List ℕ). at (select p l) k) (up_to-split n c (omega arith) ∙ ap (λ (j : ℕ). up_to c ++ from c j) m)
    ∙ ap (λ (l : List ℕ). at l k) (select-append p (up_to c) (from c (suc (n - c - 1))))
    ∙ ap (λ (b : Bool). at (select p (up_to c) ++ cond b (c ∷ select p (from (suc c) (n - c - 1))) (select p (from (suc c) (n - c - 1)))) k) t
    ∙ get_or_at (select p (up_to c)) c (select p (from (suc c) (n - c - 1))) 0 k (length-up_to p c ∙ sym e)

pub select-fails : {A : Type 0} (p : A → Bool) (xs : List A) → ((x : A) → Mem x xs → p x ≡ false) → select p xs ≡ []
select-fails p [] h = refl
select-fails p (x ∷ xs) h = ap (λ (b : Bool). cond b (x ∷ select p xs) (select p xs)) (h x (inl refl)) ∙ select-fails p xs (λ y m. h y (inr m))

-- those below w, chosen among those below n
pub select-narrow : (p : ℕ → Bool) (w n : ℕ) → w ≤ n → select (λ c. ltb c w && p c) (up_to n) ≡ select p (up_to w)
select-narrow p w n h =
    ap (select q) (up_to-split n w h) ∙ select-append q (up_to w) (from w (n - w))
    ∙ ap₂ ◌++◌
    (select-same q p (up_to w) (λ c m. let b = from-mem 0 w c m in let l : c < w = omega arith in ap (λ (t : Bool). t && p c) (lt-ltb c w l)))
    (select-fails q (from w (n - w)) (λ c m. let b = from-mem w (n - w) c m in ap (λ (t : Bool). t && p c) (le-ltb c w b.0)))
    ∙ append-nil (select p (up_to w))
  where
    q : ℕ → Bool
    q c = ltb c w && p c

    append-nil : (l : List ℕ) → l ++ [] ≡ l
    append-nil [] = refl
    append-nil (x ∷ l) = ap (λ (k : List ℕ). x ∷ k) (append-nil l)

pub filled-same : (f g : ℕ → ℕ) (n : ℕ) (d : List ℕ) → ((i : ℕ) → i < n → f i ≡ g i) → filled f n d ≡ filled g n d
unfolding filled
filled-same f g zero d h = refl
filled-same f g (suc n) d h = ap₂ (λ (l : List ℕ) (v : ℕ). set l n v) (filled-same f g n d (λ i l. h i (omega arith))) (h n (omega arith))
