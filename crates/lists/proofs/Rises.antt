-- Lists in rising order by any test `le` ("is not after"): put together, taken apart, read at two places, one element more.
-- Assumes nothing.
use Prim.Native.Nat.{ℕ, zero, suc, ◌<◌, ◌≤◌}
use mathlib.Core.Path.{◌≡◌}
use mathlib.Core.Bool.{Bool}
use mathlib.Core.List.{List, [], ◌∷◌, ◌++◌}
use mathlib.Core.Logic.{◌⊎◌, inl, inr}
use native.Mathlib.Nat.{not-suc-le-zero, le_of_suc-le-suc, eq-or-lt_of_le}
use native.Mathlib.Omega.{arith}
use lib.Dec.{T}
use lib.ListN.{length, get_or}
use Rattle.lists.specs.Lists.{all, rises}
use Rattle.lists.proofs.Truth.{and-fst, and-snd, and_both, all_cons, all_first, all_rest, all-at}

module _ {A : Type 0} (le : A → A → Bool) where
  pub rises-none : T (rises le [])
  unfolding rises
  rises-none = tt

  pub rises-cons : (x : A) (xs : List A) → T (all (le x) xs) → T (rises le xs) → T (rises le (x ∷ xs))
  unfolding rises
  rises-cons x xs h k = and_both (all (le x) xs) (rises le xs) h k

  pub rises-first : (x : A) (xs : List A) → T (rises le (x ∷ xs)) → T (all (le x) xs)
  unfolding rises
  rises-first x xs h = and-fst (all (le x) xs) (rises le xs) h

  pub rises-rest : (x : A) (xs : List A) → T (rises le (x ∷ xs)) → T (rises le xs)
  unfolding rises
  rises-rest x xs h = and-snd (all (le x) xs) (rises le xs) h

  pub rises-at : (d : A) (xs : List A) → T (rises le xs) → (i j : ℕ) → i < j → j < length xs → T (le (get_or xs i d) (get_or xs j d))
  rises-at d [] h i j a b = absurd (not-suc-le-zero b)
  rises-at d (x ∷ xs) h i zero a b = absurd (not-suc-le-zero a)
  rises-at d (x ∷ xs) h zero (suc j) a b = all-at (le x) d xs (rises-first x xs h) j (le_of_suc-le-suc b)
  rises-at d (x ∷ xs) h (suc i) (suc j) a b = rises-at d xs (rises-rest x xs h) i j (le_of_suc-le-suc a) (le_of_suc-le-suc b)

  pub rises-to : ((x : A) → T (le x x)) → (d : A) (xs : List A) → T (rises le xs) → (i j : ℕ) → i ≤ j → j < length xs → T (le (get_or xs i d) (get_or xs j d))
  rises-to itself d xs h i j a b = go (eq-or-lt_of_le a)
    where
      go : (i ≡ j) ⊎ (i < j) → T (le (get_or xs i d) (get_or xs j d))
      go (inl e) = rw e (itself (get_or xs j d))
      go (inr l) = rises-at d xs h i j l b

  all_snoc : (p : A → Bool) (xs : List A) (y : A) → T (all p xs) → T (p y) → T (all p (xs ++ (y ∷ [])))
  all_snoc p [] y h k = all_cons p y [] k tt
  all_snoc p (x ∷ xs) y h k = all_cons p x (xs ++ (y ∷ [])) (all_first p x xs h) (all_snoc p xs y (all_rest p x xs h) k)

  pub rises-snoc : (d : A) (xs : List A) (y : A) → T (rises le xs) → ((i : ℕ) → i < length xs → T (le (get_or xs i d) y)) → T (rises le (xs ++ (y ∷ [])))
  rises-snoc d [] y h k = rises-cons y [] tt rises-none
  rises-snoc d (x ∷ xs) y h k =
      rises-cons x (xs ++ (y ∷ [])) (all_snoc (le x) xs y (rises-first x xs h) (k 0 (omega arith)))
      (rises-snoc d xs y (rises-rest x xs h) (λ i l. k (suc i) (omega arith)))

  pub all-chain : ((x y z : A) → T (le x y) → T (le y z) → T (le x z)) → (x y : A) (xs : List A) → T (le x y) → T (all (le y) xs) → T (all (le x) xs)
  all-chain chain x y [] h k = tt
  all-chain chain x y (z ∷ xs) h k =
      all_cons (le x) z xs (chain x y z h (all_first (le y) z xs k)) (all-chain chain x y xs h (all_rest (le y) z xs k))
