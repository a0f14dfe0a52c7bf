-- Tests as facts: `&&`, `||`, `not`, `all`, `any`, and membership in a list.
-- Assumes nothing.
use Prim.Native.Nat.{ℕ, zero, suc, ◌+◌, ◌<◌, ◌≤◌}
use mathlib.Core.Path.{◌≡◌, refl, sym, ap, ap₂, subst}
use mathlib.Core.Bool.{Bool, true, false, cond, not, ◌&&◌, ◌||◌}
use mathlib.Core.List.{List, [], ◌∷◌, ◌++◌, map}
use mathlib.Core.Logic.{◌⊎◌, inl, inr}
use native.Mathlib.Nat.{not-suc-le-zero, le_of_suc-le-suc}
use native.Mathlib.Omega.{arith}
use lib.Dec.{T, eqb, eqb→eq, eqb_refl}
use lib.ListN.{length, get_or}
use Rattle.lists.specs.Lists.{Mem, all, any, select, same_lists, member, from, up_to}

-- a test that is passed, and one that is not
pub is_t : {b : Bool} → b ≡ true → T b
is_t e = subst T (sym e) tt

pub T→≡ : (b : Bool) → T b → b ≡ true
T→≡ true h = refl
T→≡ false h = absurd h

pub F→≡ : (b : Bool) → (T b → ⊥) → b ≡ false
F→≡ true h = absurd (h tt)
F→≡ false h = refl

pub false→F : {b : Bool} → b ≡ false → T b → ⊥
false→F e h = subst T e h

pub not→F : (b : Bool) → T (not b) → T b → ⊥
not→F true h k = h
not→F false h k = k

pub F→not : (b : Bool) → (T b → ⊥) → T (not b)
F→not true h = h tt
F→not false h = tt

-- two tests that imply one another are the same
pub same_test : (a b : Bool) → (T a → T b) → (T b → T a) → a ≡ b
same_test true true f g = refl
same_test true false f g = absurd (f tt)
same_test false true f g = absurd (g tt)
same_test false false f g = refl

-- a test is passed or it is not
pub decided : (b : Bool) → T b ⊎ (T b → ⊥)
decided true = inl tt
decided false = inr (λ h. h)

pub or_inl : (a b : Bool) → T a → T (a || b)
or_inl true b h = tt
or_inl false b h = absurd h

pub or_inr : (a b : Bool) → T b → T (a || b)
or_inr true b h = tt
or_inr false b h = h

pub or_cases : (a b : Bool) → T (a || b) → T a ⊎ T b
or_cases true b h = inl tt
or_cases false b h = inr h

pub and-fst : (a b : Bool) → T (a && b) → T a
and-fst true b h = tt
and-fst false b h = h

pub and-snd : (a b : Bool) → T (a && b) → T b
and-snd true b h = h
and-snd false b h = absurd h

pub and_both : (a b : Bool) → T a → T b → T (a && b)
and_both true b h k = k
and_both false b h k = h

pub and-false : (b : Bool) → (b && false) ≡ false
and-false true = refl
and-false false = refl

-- a choice by a test that is known
pub cond-true : {A : Type 0} (b : Bool) (x y : A) → T b → cond b x y ≡ x
cond-true true x y h = refl
cond-true false x y h = absurd h

pub cond-false : {A : Type 0} (b : Bool) (x y : A) → (T b → ⊥) → cond b x y ≡ y
cond-false true x y h = absurd (h tt)
cond-false false x y h = refl

module _ {A : Type 0} where
  pub all-get : (p : A → Bool) (xs : List A) → T (all p xs) → (x : A) → Mem x xs → T (p x)
  all-get p [] h x m = absurd m
  all-get p (y ∷ xs) h x (inl e) = subst (λ (z : A). T (p z)) (sym e) (and-fst (p y) (all p xs) h)
  all-get p (y ∷ xs) h x (inr m) = all-get p xs (and-snd (p y) (all p xs) h) x m

  pub all-make : (p : A → Bool) (xs : List A) → ((x : A) → Mem x xs → T (p x)) → T (all p xs)
  all-make p [] f = tt
  all-make p (x ∷ xs) f = and_both (p x) (all p xs) (f x (inl refl)) (all-make p xs (λ y m. f y (inr m)))

  pub any-get : (p : A → Bool) (xs : List A) → T (any p xs) → (x : A) × Mem x xs × T (p x)
  any-get p [] h = absurd h
  any-get p (y ∷ xs) h = go (λ h. any-get p xs h) (or_cases (p y) (any p xs) h)
    where
      go : (T (any p xs) → (x : A) × Mem x xs × T (p x)) → T (p y) ⊎ T (any p xs) → (x : A) × Mem x (y ∷ xs) × T (p x)
      go ih (inl k) = (y, inl refl, k)
      go ih (inr k) = ((ih k).0, inr (ih k).1, (ih k).2)

  pub any-make : (p : A → Bool) (xs : List A) (x : A) → Mem x xs → T (p x) → T (any p xs)
  any-make p [] x m h = absurd m
  any-make p (y ∷ xs) x (inl e) h = or_inl (p y) (any p xs) (subst (λ (z : A). T (p z)) e h)
  any-make p (y ∷ xs) x (inr m) h = or_inr (p y) (any p xs) (any-make p xs x m h)

  pub all_same : (p q : A → Bool) (xs : List A) → ((x : A) → Mem x xs → p x ≡ q x) → all p xs ≡ all q xs
  all_same p q [] f = refl
  all_same p q (x ∷ xs) f = ap₂ ◌&&◌ (f x (inl refl)) (all_same p q xs (λ y m. f y (inr m)))

  pub any_same : (p q : A → Bool) (xs : List A) → ((x : A) → Mem x xs → p x ≡ q x) → any p xs ≡ any q xs
  any_same p q [] f = refl
  any_same p q (x ∷ xs) f = ap₂ ◌||◌ (f x (inl refl)) (any_same p q xs (λ y m. f y (inr m)))

  pub select-same : (p q : A → Bool) (xs : List A) → ((x : A) → Mem x xs → p x ≡ q x) → select p xs ≡ select q xs
  select-same p q [] f = refl
  select-same p q (x ∷ xs) f =
      ap₂ (λ b l. cond b (x ∷ l) l) (f x (inl refl)) (select-same p q xs (λ y m. f y (inr m)))

  pub select-mem : (p : A → Bool) (xs : List A) (x : A) → Mem x xs → T (p x) → Mem x (select p xs)
  select-mem p [] x m h = absurd m
  select-mem p (y ∷ xs) x m h = go (p y) refl m (λ m. select-mem p xs x m h)
    where
      go : (b : Bool) → p y ≡ b → (x ≡ y) ⊎ Mem x xs → (Mem x xs → Mem x (select p xs)) → Mem x (cond b (y ∷ select p xs) (select p xs))
      go true e (inl k) ih = inl k
      go true e (inr k) ih = inr (ih k)
      go false e (inl k) ih = absurd (false→F e (subst (λ (z : A). T (p z)) k h))
      go false e (inr k) ih = ih k

  pub mem-select : (p : A → Bool) (xs : List A) (x : A) → Mem x (select p xs) → Mem x xs × T (p x)
  mem-select p [] x m = absurd m
  mem-select p (y ∷ xs) x m = go (p y) refl m (λ m. mem-select p xs x m)
    where
      go : (b : Bool) → p y ≡ b → Mem x (cond b (y ∷ select p xs) (select p xs)) → (Mem x (select p xs) → Mem x xs × T (p x)) → Mem x (y ∷ xs) × T (p x)
      go true e (inl k) ih = (inl k, subst (λ (z : A). T (p z)) (sym k) (is_t e))
      go true e (inr k) ih = (inr (ih k).0, (ih k).1)
      go false e k ih = (inr (ih k).0, (ih k).1)

  pub mem-append : (xs ys : List A) (x : A) → Mem x (xs ++ ys) → Mem x xs ⊎ Mem x ys
  mem-append [] ys x m = inr m
  mem-append (y ∷ xs) ys x (inl e) = inl (inl e)
  mem-append (y ∷ xs) ys x (inr m) = go (mem-append xs ys x m)
    where
      go : Mem x xs ⊎ Mem x ys → Mem x (y ∷ xs) ⊎ Mem x ys
      go (inl k) = inl (inr k)
      go (inr k) = inr k

  pub mem-get_or : (d : A) (xs : List A) (i : ℕ) → i < length xs → Mem (get_or xs i d) xs
  mem-get_or d [] i h = absurd (not-suc-le-zero h)
  mem-get_or d (x ∷ xs) zero h = inl refl
  mem-get_or d (x ∷ xs) (suc i) h = inr (mem-get_or d xs i (le_of_suc-le-suc h))

  -- a test of all elements: put together, taken apart, read at a place, made from every place
  pub all_cons : (p : A → Bool) (x : A) (xs : List A) → T (p x) → T (all p xs) → T (all p (x ∷ xs))
  all_cons p x xs h k = and_both (p x) (all p xs) h k

  pub all_first : (p : A → Bool) (x : A) (xs : List A) → T (all p (x ∷ xs)) → T (p x)
  all_first p x xs h = and-fst (p x) (all p xs) h

  pub all_rest : (p : A → Bool) (x : A) (xs : List A) → T (all p (x ∷ xs)) → T (all p xs)
  all_rest p x xs h = and-snd (p x) (all p xs) h

  pub all-at : (p : A → Bool) (d : A) (xs : List A) → T (all p xs) → (i : ℕ) → i < length xs → T (p (get_or xs i d))
  all-at p d xs h i l = all-get p xs h (get_or xs i d) (mem-get_or d xs i l)

  pub all_from : (p : A → Bool) (d : A) (xs : List A) → ((i : ℕ) → i < length xs → T (p (get_or xs i d))) → T (all p xs)
  all_from p d [] h = tt
  all_from p d (x ∷ xs) h = all_cons p x xs (h 0 (omega arith)) (all_from p d xs (λ i l. h (suc i) (omega arith)))

  -- lists that pass the test of being the same are equal, if elements that pass theirs are
  pub same_lists→≡ : (same : A → A → Bool) → ((x y : A) → T (same x y) → x ≡ y) → (xs ys : List A) → T (same_lists same xs ys) → xs ≡ ys
  same_lists→≡ same law [] [] h = refl
  same_lists→≡ same law [] (y ∷ ys) h = absurd h
  same_lists→≡ same law (x ∷ xs) [] h = absurd h
  same_lists→≡ same law (x ∷ xs) (y ∷ ys) h =
      ap₂ ◌∷◌ (law x y (and-fst (same x y) (same_lists same xs ys) h))
      (same_lists→≡ same law xs ys (and-snd (same x y) (same_lists same xs ys) h))

module _ {A B : Type 0} where
  pub mem-map : (f : A → B) (xs : List A) (x : A) → Mem x xs → Mem (f x) (map f xs)
  mem-map f [] x m = absurd m
  mem-map f (y ∷ xs) x (inl e) = inl (ap f e)
  mem-map f (y ∷ xs) x (inr m) = inr (mem-map f xs x m)

  pub map-mem : (f : A → B) (xs : List A) (y : B) → Mem y (map f xs) → (x : A) × Mem x xs × (y ≡ f x)
  map-mem f [] y m = absurd m
  map-mem f (x ∷ xs) y (inl e) = (x, inl refl, e)
  map-mem f (x ∷ xs) y (inr m) = ((map-mem f xs y m).0, inr (map-mem f xs y m).1, (map-mem f xs y m).2)

  pub map_same : (f g : A → B) (xs : List A) → ((x : A) → Mem x xs → f x ≡ g x) → map f xs ≡ map g xs
  map_same f g [] h = refl
  map_same f g (x ∷ xs) h = ap₂ ◌∷◌ (h x (inl refl)) (map_same f g xs (λ y m. h y (inr m)))

pub eq→eqb : {m n : ℕ} → m ≡ n → T (eqb m n)
eq→eqb {m} {n} e = subst (λ (k : ℕ). T (eqb m k)) e (eqb_refl m)

pub eqb→≡ : (m n : ℕ) → T (eqb m n) → m ≡ n
eqb→≡ m n h = eqb→eq m n h

-- the numbers from i on
pub mem-from : (i k x : ℕ) → i ≤ x → x < i + k → Mem x (from i k)
mem-from i zero x h l = absurd (omega arith)
mem-from i (suc k) x h l = go (decided (eqb x i)) (λ h l. mem-from (suc i) k x h l)
  where
    go : T (eqb x i) ⊎ (T (eqb x i) → ⊥) → (suc i ≤ x → x < suc i + k → Mem x (from (suc i) k)) → Mem x (from i (suc k))
    go (inl e) ih = inl (eqb→≡ x i e)
    go (inr e) ih = let d : x ≡ i → ⊥ = (λ q. e (eq→eqb q)) in inr (ih (omega arith) (omega arith))

pub from-mem : (i k x : ℕ) → Mem x (from i k) → (i ≤ x) × (x < i + k)
from-mem i zero x m = absurd m
from-mem i (suc k) x (inl e) = (omega arith, omega arith)
from-mem i (suc k) x (inr m) = let b = from-mem (suc i) k x m in (omega arith, omega arith)

pub mem-up_to : (n x : ℕ) → x < n → Mem x (up_to n)
mem-up_to n x h = mem-from 0 n x (omega arith) (omega arith)

pub up_to-mem : (n x : ℕ) → Mem x (up_to n) → x < n
up_to-mem n x m = let b = from-mem 0 n x m in omega arith

pub member→Mem : (x : ℕ) (ys : List ℕ) → T (member x ys) → Mem x ys
member→Mem x [] h = absurd h
member→Mem x (y ∷ ys) h = go (λ h. member→Mem x ys h) (or_cases (eqb x y) (member x ys) h)
  where
    go : (T (member x ys) → Mem x ys) → T (eqb x y) ⊎ T (member x ys) → Mem x (y ∷ ys)
    go ih (inl e) = inl (eqb→≡ x y e)
    go ih (inr m) = inr (ih m)

pub Mem→member : (x : ℕ) (ys : List ℕ) → Mem x ys → T (member x ys)
Mem→member x [] m = absurd m
Mem→member x (y ∷ ys) (inl e) = or_inl (eqb x y) (member x ys) (eq→eqb e)
Mem→member x (y ∷ ys) (inr m) = or_inr (eqb x y) (member x ys) (Mem→member x ys m)
