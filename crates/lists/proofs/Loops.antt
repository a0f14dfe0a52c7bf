-- Laws of counted loops: each of `every`, `some`, `first` and `filled` at the start, a turn on, and at the end, and what it says of one k.
-- Assumes nothing.
use Prim.Native.Nat.{ℕ, zero, suc, ◌+◌, ◌≤◌, ◌<◌}
use mathlib.Core.Path.{◌≡◌, refl, sym, ap, subst, ◌∙◌}
use mathlib.Core.Bool.{Bool, true, false, ◌&&◌, ◌||◌}
use mathlib.Core.List.{List}
use mathlib.Core.Logic.{◌⊎◌, ⊎_elim}
use native.Mathlib.Numerals.{add-one}
use native.Mathlib.Nat.{eq-or-lt_of_le, le_antisymm}
use native.Mathlib.Omega.{arith}
use lib.ListN.{length, get_or, set, length-set}
use lib.Seq.{get_or-set_same, get_or-set_other}
use Rattle.lists.specs.Loops.{every, some, first, filled}
use Rattle.lists.proofs.Truth.{and-false}

split : (i n : ℕ) → i < suc n → (i ≡ n) ⊎ (i < n)
split i n h = eq-or-lt_of_le (omega arith)

-- taking a chain of tests apart, and putting one together
pub and-true : (a b : Bool) → (a && b) ≡ true → (a ≡ true) × (b ≡ true)
and-true true b e = (refl, e)
and-true false b e = (e, let z : ◌≡◌ {A = ℕ} 0 1 = cc in absurd (omega arith))

pub and-make : (a b : Bool) → a ≡ true → b ≡ true → (a && b) ≡ true
and-make a b p q = rw (p, q)

pub every_more : (t : ℕ → Bool) (i : ℕ) → every t i ≡ true → t i ≡ true → every t (i + 1) ≡ true
unfolding every
every_more t i h e = rw (add-one, h, e)

pub every-fails : (t : ℕ → Bool) (i n : ℕ) → i < n → t i ≡ false → every t n ≡ false
unfolding every
every-fails t i zero h e = absurd (omega arith)
every-fails t i (suc n) h e =
    ⊎_elim (λ q. last q) (λ l. rw (every-fails t i n l e)) (split i n h)
  where
    last : i ≡ n → (every t n && t n) ≡ false
    last q = ap (λ b. every t n && b) (rw (← q) e) ∙ and-false (every t n)

pub some_more : (t : ℕ → Bool) (i : ℕ) → some t i ≡ false → t i ≡ false → some t (i + 1) ≡ false
unfolding some
some_more t i h e = rw (add-one, h, e)

pub first-none : (t : ℕ → Bool) (n : ℕ) → some t n ≡ false → first t n ≡ n
unfolding some first
first-none t zero h = refl
first-none t (suc n) h =
    let a : some t n ≡ false = left (some t n) (t n) h in
    let b : t n ≡ false = right (some t n) (t n) h in
    rw (a, b)
  where
    left : (a b : Bool) → (a || b) ≡ false → a ≡ false
    left true b e = e
    left false b e = refl

    right : (a b : Bool) → (a || b) ≡ false → b ≡ false
    right true true e = e
    right true false e = refl
    right false b e = e

-- t passes at i and nowhere below: past i, `some` is true and `first` is i
pub first-at : (t : ℕ → Bool) (i n : ℕ) → i < n → some t i ≡ false → t i ≡ true → (some t n ≡ true) × (first t n ≡ i)
unfolding some first
first-at t i zero l h e = absurd (omega arith)
first-at t i (suc n) l h e = ⊎_elim (λ q. here q) (λ m. past (first-at t i n m h e)) (split i n l)
  where
    here : i ≡ n → (some t (suc n) ≡ true) × (first t (suc n) ≡ i)
    here q =
        let a : some t n ≡ false = rw (← q) h in
        let b : t n ≡ true = rw (← q) e in
        (rw (a, b), rw (a, b) (sym q))

    past : (some t n ≡ true) × (first t n ≡ i) → (some t (suc n) ≡ true) × (first t (suc n) ≡ i)
    past r =
        (rw r.0, rw r.0 r.1)

-- the loop's end: the counter k has reached n
pub every-end : (t : ℕ → Bool) (k n : ℕ) → k ≤ n → n ≤ k → every t k ≡ true → every t n ≡ true
every-end t k n a b h = subst (λ (m : ℕ). every t m ≡ true) (le_antisymm a b) h

pub first-end : (t : ℕ → Bool) (k n : ℕ) → k ≤ n → n ≤ k → some t k ≡ false → first t n ≡ n
first-end t k n a b h = first-none t n (subst (λ (m : ℕ). some t m ≡ false) (le_antisymm a b) h)

-- what `every` says of one k
pub every-at : (t : ℕ → Bool) (i n : ℕ) → i < n → every t n ≡ true → t i ≡ true
unfolding every
every-at t i zero l h = absurd (omega arith)
every-at t i (suc n) l h = ⊎_elim (λ q. rw q both.1) (λ m. every-at t i n m both.0) (split i n l)
  where
    both : (every t n ≡ true) × (t n ≡ true)
    both = and-true (every t n) (t n) h

-- a test that cannot be true is false
pub no : (b : Bool) → (b ≡ true → ⊥) → false ≡ b
no true h = absurd (h refl)
no false h = refl

-- from one test to another, and from facts
pub every-from : (t : ℕ → Bool) (n : ℕ) → ((i : ℕ) → i < n → t i ≡ true) → every t n ≡ true
unfolding every
every-from t zero h = refl
every-from t (suc n) h = and-make _ _ (every-from t n (λ i l. h i (omega arith))) (h n (omega arith))

-- t passes somewhere below n
pub some-hit : (t : ℕ → Bool) (i n : ℕ) → i < n → t i ≡ true → some t n ≡ true
unfolding some
some-hit t i zero h e = absurd (omega arith)
some-hit t i (suc n) h e = ⊎_elim (λ q. last q) (λ l. rw (some-hit t i n l e)) (split i n h)
  where
    or-true : (b : Bool) → (b || true) ≡ true
    or-true true = refl
    or-true false = refl

    last : i ≡ n → (some t n || t n) ≡ true
    last q = ap (λ b. some t n || b) (rw (← q) e) ∙ or-true (some t n)

-- the loop's end
pub some_end : (t : ℕ → Bool) (k n : ℕ) → k ≤ n → n ≤ k → some t k ≡ false → some t n ≡ false
some_end t k n a b h = subst (λ (m : ℕ). some t m ≡ false) (le_antisymm a b) h

pub filled_more : (f : ℕ → ℕ) (k v : ℕ) (d a : List ℕ) → a ≡ filled f k d → v ≡ f k → set a k v ≡ filled f (k + 1) d
unfolding filled
filled_more f k v d a e q = rw (add-one, e, q)

pub length-filled : (f : ℕ → ℕ) (n : ℕ) (d : List ℕ) → length (filled f n d) ≡ length d
unfolding filled
length-filled f zero d = refl
length-filled f (suc n) d = simp length-set (length-filled f n d)

pub get_or-filled : (f : ℕ → ℕ) (n i z : ℕ) (d : List ℕ) → i < n → n ≤ length d → get_or (filled f n d) i z ≡ f i
unfolding filled
get_or-filled f zero i z d h l = absurd (omega arith)
get_or-filled f (suc n) i z d h l =
    ⊎_elim
    (λ q. rw q (get_or-set_same (filled f n d) n (f n) z (rw (length-filled f n d) (omega arith))))
    (λ m. get_or-set_other (filled f n d) n i (f n) z (λ e. omega arith) ∙ get_or-filled f n i z d m (omega arith))
    (split i n h)

-- the loop's end: the counter k has reached n
pub filled-end : (f : ℕ → ℕ) (k n : ℕ) (d a : List ℕ) → k ≤ n → n ≤ k → a ≡ filled f k d → a ≡ filled f n d
filled-end f k n d a h l e = e ∙ ap (λ (m : ℕ). filled f m d) (le_antisymm h l)
