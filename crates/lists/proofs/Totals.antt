-- Laws of totals: over parts, maps, selections and ways; and what two lists of the same elements share.
-- Assumes nothing.
use Prim.Native.Nat.{ℕ, zero, suc, ◌+◌, ◌<◌}
use mathlib.Core.Path.{◌≡◌, refl, sym, ap, ap₂, ◌∙◌, fun_ext}
use mathlib.Core.Bool.{Bool, true, false, cond, not, ◌&&◌, ◌||◌}
use mathlib.Core.List.{List, [], ◌∷◌, ◌++◌, map}
use mathlib.Core.Logic.{inl, inr}
use native.Mathlib.Nat.{zero-add, add_assoc, not-suc-le-zero, le_of_suc-le-suc}
use native.Mathlib.Omega.{arith}
use lib.Dec.{T, ltb}
use lib.ListN.{length, get_or, set}
use borrow.Author.Tests.{lt-ltb}
use Rattle.lists.specs.Lists.{Mem, all, any, select, flat, choices}
use Rattle.lists.specs.Totals.{total, one, Same}

pub total-cons : {A : Type 0} (f : A → ℕ) (x : A) (xs : List A) → total f (x ∷ xs) ≡ f x + total f xs
unfolding total
total-cons f x xs = refl

pub total-append : {A : Type 0} (f : A → ℕ) (xs ys : List A) → total f (xs ++ ys) ≡ total f xs + total f ys
unfolding total
total-append f [] ys = sym (zero-add (total f ys))
total-append f (x ∷ xs) ys = ap (λ k. f x + k) (total-append f xs ys) ∙ sym (add_assoc (f x) (total f xs) (total f ys))

pub total-map : {A B : Type 0} (f : B → ℕ) (g : A → B) (xs : List A) → total f (map g xs) ≡ total (λ x. f (g x)) xs
unfolding total
total-map f g [] = refl
total-map f g (x ∷ xs) = ap (λ k. f (g x) + k) (total-map f g xs)

pub total-flat : {A B : Type 0} (f : B → ℕ) (g : A → List B) (xs : List A) → total f (flat (map g xs)) ≡ total (λ x. total f (g x)) xs
unfolding total
total-flat f g [] = refl
total-flat f g (x ∷ xs) = total-append f (g x) (flat (map g xs)) ∙ ap (λ k. total f (g x) + k) (total-flat f g xs)

-- a total over ways is a total over the first table's rows of totals over the rest
pub total-choices : {A : Type 0} (f : List A → ℕ) (xs : List A) (xss : List (List A))
    → total f (choices (xs ∷ xss)) ≡ total (λ x. total (λ way. f (x ∷ way)) (choices xss)) xs
total-choices f xs xss =
    total-flat f (λ x. map (λ way. x ∷ way) (choices xss)) xs
    ∙ ap (λ g. total g xs) (fun_ext (λ x. total-map f (λ way. x ∷ way) (choices xss)))

pub total-sum : {A : Type 0} (f g : A → ℕ) (xs : List A) → total (λ x. f x + g x) xs ≡ total f xs + total g xs
unfolding total
total-sum f g [] = refl
total-sum f g (x ∷ xs) = ap (λ k. f x + g x + k) (total-sum f g xs) ∙ omega arith

pub total-select : {A : Type 0} (f : A → ℕ) (p : A → Bool) (xs : List A) → total f (select p xs) ≡ total (λ x. cond (p x) (f x) 0) xs
unfolding total
total-select f p [] = refl
total-select f p (x ∷ xs) = step (total-select f p xs) (p x)
  where
    step : total f (select p xs) ≡ total (λ x. cond (p x) (f x) 0) xs → (b : Bool)
        → total f (cond b (x ∷ select p xs) (select p xs)) ≡ cond b (f x) 0 + total (λ x. cond (p x) (f x) 0) xs
    step ih true = ap (λ k. f x + k) ih
    step ih false = ih ∙ sym (zero-add _)

pub total-zero : {A : Type 0} (xs : List A) → total (λ x. 0) xs ≡ 0
unfolding total
total-zero [] = refl
total-zero (x ∷ xs) = zero-add _ ∙ total-zero xs

module _ {A : Type 0} where
  pub total-same : (f g : A → ℕ) (xs : List A) → ((x : A) → Mem x xs → f x ≡ g x) → total f xs ≡ total g xs
  unfolding total
  total-same f g [] h = refl
  total-same f g (x ∷ xs) h = ap₂ ◌+◌ (h x (inl refl)) (total-same f g xs (λ y m. h y (inr m)))

  pub total-none : (f : A → ℕ) (xs : List A) → ((x : A) → Mem x xs → f x ≡ 0) → total f xs ≡ 0
  unfolding total
  total-none f [] h = refl
  total-none f (x ∷ xs) h = ap₂ ◌+◌ (h x (inl refl)) (total-none f xs (λ y m. h y (inr m)))

  pub any-total : (p : A → Bool) (xs : List A) → any p xs ≡ ltb 0 (total (λ x. one (p x)) xs)
  unfolding total
  any-total p [] = refl
  any-total p (x ∷ xs) = go (p x) (any-total p xs)
    where
      n : ℕ
      n = total (λ x. one (p x)) xs

      go : (b : Bool) → any p xs ≡ ltb 0 n → (b || any p xs) ≡ ltb 0 (one b + n)
      go true e = sym (lt-ltb 0 (1 + n) (omega arith))
      go false e = e ∙ ap (ltb 0) (sym (zero-add n))

  pub any_of : (p : A → Bool) (xs ys : List A) → Same xs ys → any p xs ≡ any p ys
  any_of p xs ys h = any-total p xs ∙ ap (ltb 0) (h (λ x. one (p x))) ∙ sym (any-total p ys)

  pub all_of : (p : A → Bool) (xs ys : List A) → Same xs ys → all p xs ≡ all p ys
  all_of p xs ys h = none p xs ∙ ap not (any_of (λ x. not (p x)) xs ys h) ∙ sym (none p ys)
    where
      none : (p : A → Bool) (xs : List A) → all p xs ≡ not (any (λ x. not (p x)) xs)
      none p [] = refl
      none p (x ∷ xs) = go (p x) (none p xs)
        where
          go : (b : Bool) → all p xs ≡ not (any (λ x. not (p x)) xs) → (b && all p xs) ≡ not (not b || any (λ x. not (p x)) xs)
          go true e = e
          go false e = refl

  pub same-all : (p : A → Bool) (xs ys : List A) → Same xs ys → T (all p ys) → T (all p xs)
  same-all p xs ys e h = rw (all_of p xs ys e) h

  pub same-sym : (xs ys : List A) → Same xs ys → Same ys xs
  same-sym xs ys h f = sym (h f)

  pub same_select : (p : A → Bool) (xs ys : List A) → Same xs ys → Same (select p xs) (select p ys)
  same_select p xs ys h f = total-select f p xs ∙ h (λ x. cond (p x) (f x) 0) ∙ sym (total-select f p ys)

  pub total-length : (xs : List A) → total (λ x. 1) xs ≡ length xs
  unfolding total
  total-length [] = refl
  total-length (x ∷ xs) = omega (arith, total-length xs)

  pub same_length : (xs ys : List A) → Same xs ys → length xs ≡ length ys
  same_length xs ys h = sym (total-length xs) ∙ h (λ x. 1) ∙ total-length ys

  -- one element set
  pub total-set : (d : A) (f : A → ℕ) (xs : List A) (i : ℕ) (a : A) → i < length xs → total f (set xs i a) + f (get_or xs i d) ≡ total f xs + f a
  unfolding total
  total-set d f [] i a h = absurd (not-suc-le-zero h)
  total-set d f (x ∷ xs) zero a h = omega arith
  total-set d f (x ∷ xs) (suc i) a h = omega (arith, total-set d f xs i a (le_of_suc-le-suc h))

module _ {A B : Type 0} where
  pub same_map : (g : A → B) (xs ys : List A) → Same xs ys → Same (map g xs) (map g ys)
  same_map g xs ys h f = total-map f g xs ∙ h (λ x. f (g x)) ∙ sym (total-map f g ys)
