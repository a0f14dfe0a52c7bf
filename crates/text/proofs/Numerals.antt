-- What is printed of a number is read back as the number.
-- Assumes nothing.
use Prim.Native.Nat.{ℕ, zero, suc, ◌+◌, ◌-◌, ◌*◌, ◌/◌, ◌%◌, ◌^◌, ◌≤◌, ◌<◌}
use mathlib.Core.Path.{◌≡◌, refl, ap, ◌∙◌}
use mathlib.Core.Bool.{Bool, true, false}
use mathlib.Core.List.{[], ◌∷◌, ◌++◌}
use native.Mathlib.Nat.{div-lt_iff_lt-mul, pow-suc}
use native.Mathlib.Omega.{arith}
use lib.Dec.{ltb}
use borrow.Author.Tests.{ltb-true, ltb-false}
use Rattle.text.specs.Reading.{Text, onward, value}
use Rattle.text.specs.Printing.{digits, decimal}
use Rattle.text.proofs.Writes.{digits-one, digits_more}

onward-more : (xs : Text) (v b : ℕ) → onward v (xs ++ (b ∷ [])) ≡ onward v xs * 10 + (b - 48)
unfolding onward
onward-more [] v b = refl
onward-more (x ∷ xs) v b = onward-more xs (v * 10 + (x - 48)) b

one-back : (k n : ℕ) → n < 10 → onward 0 (digits (suc k) n) ≡ n
unfolding onward
one-back k n h = rw (digits-one k n h) (omega arith)

more-back : (k n : ℕ) → 10 ≤ n → onward 0 (digits k (n / 10)) ≡ n / 10 → onward 0 (digits (suc k) n) ≡ n
more-back k n h e =
    ap (onward 0) (digits_more k n h) ∙ onward-more (digits k (n / 10)) 0 (48 + n % 10) ∙ ap (λ v. v * 10 + (48 + n % 10 - 48)) e ∙ omega arith

digits-back : (k n : ℕ) → n < 10 ^ suc k → onward 0 (digits (suc k) n) ≡ n
digits-back zero n h = one-back zero n h
digits-back (suc k) n h = go (ltb n 10) refl (digits-back k (n / 10) ((div-lt_iff_lt-mul {k = 10} {x = n} {y = 10 ^ suc k} (omega arith)).1 (rw pow-suc at h)))
  where
    go : (t : Bool) → ltb n 10 ≡ t → onward 0 (digits (suc k) (n / 10)) ≡ n / 10 → onward 0 (digits (suc (suc k)) n) ≡ n
    go true l e = one-back (suc k) n (ltb-true n 10 l)
    go false l e = more-back (suc k) n (ltb-false n 10 l) e

pub decimal-back : (n : ℕ) → n < 2 ^ 64 → value (decimal n) ≡ n
unfolding value decimal
decimal-back n h = digits-back 19 n (omega arith)
