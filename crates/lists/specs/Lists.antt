-- Words about lists that all the other definitions are written in. Each goes by cases on its list or its number.
-- Assumes nothing.
use Rattle.std.specs.Prelude.{ℕ, zero, suc, ◌+◌, ◌≡◌, Bool, true, false, cond, not, ◌&&◌, ◌||◌, List, [], ◌∷◌, ◌++◌, map, ◌⊎◌, leb, eqb, get_or}

-- A run of 64-bit words: a sheet, a store, base tables
abbrev pub Words : Type 0
Words = List ℕ

-- word i; 0 past the end
abbrev pub at : Words → ℕ → ℕ
at ws i = get_or ws i 0

-- lowest ≤ x ≤ highest, both ends included
abbrev pub between : ℕ → ℕ → ℕ → Bool
between lowest highest x = leb lowest x && leb x highest

module _ {A : Type 0} where
  -- x stands in the list
  abbrev pub Mem : A → List A → Type 0
  Mem x [] = ⊥
  Mem x (y ∷ ys) = (x ≡ y) ⊎ Mem x ys

  -- every element passes the test
  abbrev pub all : (A → Bool) → List A → Bool
  all p [] = true
  all p (x ∷ xs) = p x && all p xs

  -- some element passes the test
  abbrev pub any : (A → Bool) → List A → Bool
  any p [] = false
  any p (x ∷ xs) = p x || any p xs

  -- the elements that pass the test, in their order
  abbrev pub select : (A → Bool) → List A → List A
  select p [] = []
  select p (x ∷ xs) = cond (p x) (x ∷ select p xs) (select p xs)

  -- no two elements are the same
  abbrev pub none_twice : (A → A → Bool) → List A → Bool
  none_twice same [] = true
  none_twice same (x ∷ xs) = not (any (same x) xs) && none_twice same xs

  -- no element is after a later one, by the test "is not after"
  unfoldable pub rises : (A → A → Bool) → List A → Bool
  rises le [] = true
  rises le (x ∷ xs) = all (le x) xs && rises le xs

  -- two lists of the same elements in the same order
  abbrev pub same_lists : (A → A → Bool) → List A → List A → Bool
  same_lists same [] [] = true
  same_lists same [] (y ∷ ys) = false
  same_lists same (x ∷ xs) [] = false
  same_lists same (x ∷ xs) (y ∷ ys) = same x y && same_lists same xs ys

  -- the lists, one after the other
  abbrev pub flat : List (List A) → List A
  flat [] = []
  flat (xs ∷ xss) = xs ++ flat xss

-- each way to take one element from every list, in the lists' order
abbrev pub choices : {A : Type 0} → List (List A) → List (List A)
choices [] = [] ∷ []
choices (xs ∷ xss) = flat (map (λ x. map (λ way. x ∷ way) (choices xss)) xs)

-- x is in the list
abbrev pub member : ℕ → List ℕ → Bool
member x ys = any (eqb x) ys

-- i, i + 1, .., k numbers
abbrev pub from : ℕ → ℕ → List ℕ
from i zero = []
from i (suc k) = i ∷ from (suc i) k

-- 0, 1, .., n - 1
abbrev pub up_to : ℕ → List ℕ
up_to n = from 0 n

abbrev pub sum : List ℕ → ℕ
sum [] = 0
sum (x ∷ xs) = x + sum xs

-- the place of x in the list; the list's length where it is not there
abbrev pub place_of : ℕ → List ℕ → ℕ
place_of x [] = 0
place_of x (y ∷ ys) = cond (eqb x y) 0 (suc (place_of x ys))
