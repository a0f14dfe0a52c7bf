-- What a chain over 0, 1, .., n - 1 answers, in the words of the counted loops: each law takes what the range's end is, the clause `ran`
-- of the chain's method, and what one call of its closure says.
-- Assumes nothing.
use Rattle.std.proofs.Common.{◌≡◌, ℕ, zero, suc, ◌+◌, ◌-◌, ◌<◌, ◌≤◌, Bool, true, false, ◌&&◌, ◌||◌, List, refl, sym, ap, ap₂, ◌∙◌, arith, Option, Some, None}
use Rattle.std.specs.declared.ops.Range.{Range}
use Rattle.std.specs.Iterator.{YieldsThen}
use Rattle.std.specs.Option.{MatchOption, unwrap_or}
use Rattle.std.specs.Bool.{⊤}
use Rattle.std.specs.List.{FoldsTo, list_all, list_any, range_with_len}
use Rattle.std.specs.Fn.{Called, CalledAt}
use Rattle.std.proofs.iter.Yields.{nat_range_steps}
use Rattle.std.proofs.lemmas.Iterator.{YieldsList-from_range, first_from_Range}
use Rattle.std.proofs.lemmas.Iterator.Search.{all_from_yields_List, any_from_yields_List}
use denote.Param.Members.{Mut}
use denote.Ref.{Bor}
use Rattle.lists.specs.Loops.{every, some, first}
use Rattle.lists.proofs.Loops.{first-at, first-none}

-- the numbers of a range, the last apart
and-assoc : (a b c : Bool) → (a && (b && c)) ≡ ((a && b) && c)
and-assoc true b c = refl
and-assoc false b c = refl

or-assoc : (a b c : Bool) → (a || (b || c)) ≡ ((a || b) || c)
or-assoc true b c = refl
or-assoc false b c = refl

and-right : (b : Bool) → (b && true) ≡ b
and-right true = refl
and-right false = refl

or-right : (b : Bool) → (b || false) ≡ b
or-right true = refl
or-right false = refl

next : (a n : ℕ) → a + 1 + n ≡ a + suc n
next a n = omega arith

zero-on : (n : ℕ) → 0 + n ≡ n
zero-on n = omega arith

less-0 : (n : ℕ) → n - 0 ≡ n
less-0 n = omega arith

here : (a : ℕ) → a ≡ a + 0
here a = omega arith

all-last : (t : ℕ → Bool) (a n : ℕ) → list_all t (range_with_len a (suc n)) ≡ (list_all t (range_with_len a n) && t (a + n))
all-last t a zero = and-right (t a) ∙ ap t (here a)
all-last t a (suc n) =
    ap (λ b. t a && b) (all-last t (a + 1) n) ∙ and-assoc (t a) (list_all t (range_with_len (a + 1) n)) (t (a + 1 + n))
    ∙ ap (λ m. (t a && list_all t (range_with_len (a + 1) n)) && t m) (next a n)

any-last : (t : ℕ → Bool) (a n : ℕ) → list_any t (range_with_len a (suc n)) ≡ (list_any t (range_with_len a n) || t (a + n))
any-last t a zero = or-right (t a) ∙ ap t (here a)
any-last t a (suc n) =
    ap (λ b. t a || b) (any-last t (a + 1) n) ∙ or-assoc (t a) (list_any t (range_with_len (a + 1) n)) (t (a + 1 + n))
    ∙ ap (λ m. (t a || list_any t (range_with_len (a + 1) n)) || t m) (next a n)

every-is : (t : ℕ → Bool) (n : ℕ) → list_all t (range_with_len 0 n) ≡ every t n
unfolding every
every-is t zero = refl
every-is t (suc n) = all-last t 0 n ∙ ap₂ (λ b m. b && t m) (every-is t n) (zero-on n)

some-is : (t : ℕ → Bool) (n : ℕ) → list_any t (range_with_len 0 n) ≡ some t n
unfolding some
some-is t zero = refl
some-is t (suc n) = any-last t 0 n ∙ ap₂ (λ b m. b || t m) (some-is t n) (zero-on n)

module _ {F : Type 0} {g : Mut F (ℕ × Unit {0}) Bool} {n m : ℕ} (t : ℕ → Bool) (u : Range ℕ) (f : F) (r : Bool) (end : n ≡ m) where
  -- `(0..n).all(f)`
  pub every-from_all : (xs : List ℕ) × (o : Option ℕ) × (j : F) × YieldsThen nat_range_steps (record { start = 0; end = n }) xs o u
      × FoldsTo (λ p x q. Called g p (x, tt) true q) f xs j × MatchOption o (r ≡ true) (λ x. (r ≡ false) × ((h : F) × Called g j (x, tt) false h))
      → ((x : ℕ) (b : Bool) (q : F) → Called g f (x, tt) b q → (q ≡ f) × (b ≡ t x)) → r ≡ every t m
  every-from_all ran says = all_from_yields_List t u f r ran (YieldsList-from_range 0 n n refl (less-0 n)) says ∙ every-is t n ∙ ap (every t) end

  -- `(0..n).any(f)`
  pub some-from_any : (xs : List ℕ) × (o : Option ℕ) × (j : F) × YieldsThen nat_range_steps (record { start = 0; end = n }) xs o u
      × FoldsTo (λ p x q. Called g p (x, tt) false q) f xs j × MatchOption o (r ≡ false) (λ x. (r ≡ true) × ((h : F) × Called g j (x, tt) true h))
      → ((x : ℕ) (b : Bool) (q : F) → Called g f (x, tt) b q → (q ≡ f) × (b ≡ t x)) → r ≡ some t m
  some-from_any ran says = any_from_yields_List t u f r ran (YieldsList-from_range 0 n n refl (less-0 n)) says ∙ some-is t n ∙ ap (some t) end

none-below : (t : ℕ → Bool) (k : ℕ) → ((i : ℕ) → 0 ≤ i → i < k → t i ≡ false) → some t k ≡ false
unfolding some
none-below t zero h = refl
none-below t (suc k) h = ap₂ ◌||◌ (none-below t k (λ i a b. h i a (omega arith))) (h k (omega arith) (omega arith))

-- `(0..n).find(f)`: where it stands, or nowhere
pub first-from_find : {F : Type 0} {g : Mut F (Bor ℕ × Unit {0}) Bool} {n m : ℕ} (t : ℕ → Bool) (u : Range ℕ) (f : F) (r : Option ℕ) → n ≡ m
    → (xs : List ℕ) × (j : F) × YieldsThen nat_range_steps (record { start = 0; end = n }) xs r u
    × FoldsTo (λ p x q. CalledAt g p x false q) f xs j × MatchOption r ⊤ (λ x. (h : F) × CalledAt g j x true h)
    → ((x : ℕ) (b : Bool) (q : F) → CalledAt g f x b q → (q ≡ f) × (b ≡ t x)) → unwrap_or r m ≡ first t m
first-from_find {n = n} t u f r end ran says = ap (unwrap_or r) (sym end) ∙ go r (first_from_Range _ u f r (λ x. t x ≡ true) (λ x. t x ≡ false) ran
    (λ x q c. sym (says x true q c).1) (λ x q c. ((says x false q c).0, sym (says x false q c).1))) ∙ ap (first t) end
  where
    go : (o : Option ℕ) → MatchOption o ((k : ℕ) → 0 ≤ k → k < n → t k ≡ false)
        (λ i. (0 ≤ i) × (i < n) × (t i ≡ true) × ((k : ℕ) → 0 ≤ k → k < i → t k ≡ false)) → unwrap_or o n ≡ first t n
    go None h = sym (first-none t n (none-below t n h))
    go (Some i) h = sym (first-at t i n h.1 (none-below t i h.3) h.2).1

-- a test of the numbers below a + n: of those below a, and of n more from a on
pub every-behind : (t : ℕ → Bool) (a n : ℕ) → every t (a + n) ≡ (every t a && every (λ j. t (a + j)) n)
unfolding every
every-behind t a zero = ap (every t) (sym (here a)) ∙ sym (and-right (every t a))
every-behind t a (suc n) =
    ap (every t) (back a n) ∙ ap (λ b. b && t (a + n)) (every-behind t a n) ∙ sym (and-assoc (every t a) (every (λ j. t (a + j)) n) (t (a + n)))
  where
    back : (a n : ℕ) → a + suc n ≡ suc (a + n)
    back a n = omega arith

every-range : (t : ℕ → Bool) (a n : ℕ) → list_all t (range_with_len a n) ≡ every (λ j. t (a + j)) n
unfolding every
every-range t a zero = refl
every-range t a (suc n) = all-last t a n ∙ ap (λ b. b && t (a + n)) (every-range t a n)

-- `(a..b).all(f)`
pub every-from_range : {F : Type 0} {g : Mut F (ℕ × Unit {0}) Bool} {a b : ℕ} (t : ℕ → Bool) (u : Range ℕ) (f : F) (r : Bool)
    → (xs : List ℕ) × (o : Option ℕ) × (j : F) × YieldsThen nat_range_steps (record { start = a; end = b }) xs o u
    × FoldsTo (λ p x q. Called g p (x, tt) true q) f xs j × MatchOption o (r ≡ true) (λ x. (r ≡ false) × ((h : F) × Called g j (x, tt) false h))
    → ((x : ℕ) (b : Bool) (q : F) → Called g f (x, tt) b q → (q ≡ f) × (b ≡ t x)) → r ≡ every (λ j. t (a + j)) (b - a)
every-from_range {a = a} {b = b} t u f r ran says =
    all_from_yields_List t u f r ran (YieldsList-from_range a b (b - a) refl refl) says ∙ every-range t a (b - a)
