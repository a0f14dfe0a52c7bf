-- Lists made from the numbers 0, 1, .., k - 1: a test of all, of some, how many are chosen and which comes first, as counted loops.
-- Assumes nothing.
use Prim.Native.Nat.{ℕ, zero, suc, ◌+◌, ◌<◌, ◌≤◌}
use mathlib.Core.Path.{◌≡◌, refl, sym, ap, ap₂, ◌∙◌}
use mathlib.Core.Bool.{Bool, true, false, cond, not, ◌&&◌, ◌||◌, and_assoc, or_assoc, and-true, or-false, false≢true, true≢false}
use mathlib.Core.List.{List, [], ◌∷◌, ◌++◌, map, map-append, map-id}
use native.Mathlib.Nat.{add-zero, add-suc, suc-add, zero-add, le_antisymm}
use native.Mathlib.Numerals.{add-one}
use native.Mathlib.Omega.{arith}
use lib.ListN.{length, length-append}
use Rattle.lists.specs.Lists.{all, any, select, none_twice, from, up_to, member}
use Rattle.lists.specs.Totals.{one}
use Rattle.lists.specs.Loops.{every, some, first}
use Rattle.lists.proofs.Loops.{first-none}
use Rattle.laws.proofs.Lists.{select-append}
use Rattle.lists.proofs.Truth.{is_t, T→≡, same_test, and-fst, and-snd, and_both, mem-select, select-mem, mem-up_to, up_to-mem, member→Mem, Mem→member}
use borrow.Author.Tests.{lt-ltb, ltb-true}
use lib.Dec.{ltb}
use Rattle.sheet.specs.Counted.{counted}

pub from_more : (i k : ℕ) → from i (suc k) ≡ from i k ++ ((i + k) ∷ [])
from_more i zero = ap (λ (x : ℕ). x ∷ []) (sym (add-zero i))
from_more i (suc k) = ap (λ (l : List ℕ). i ∷ l) (from_more (suc i) k ∙ ap (λ (x : ℕ). from (suc i) k ++ (x ∷ [])) (suc-add i k ∙ sym (add-suc i k)))

pub up_to-more : (k : ℕ) → up_to (suc k) ≡ up_to k ++ (k ∷ [])
up_to-more k = from_more 0 k ∙ ap (λ (x : ℕ). up_to k ++ (x ∷ [])) (zero-add k)

module _ {A : Type 0} where
  pub all_append : (p : A → Bool) (xs ys : List A) → all p (xs ++ ys) ≡ (all p xs && all p ys)
  all_append p [] ys = refl
  all_append p (x ∷ xs) ys = ap (λ (b : Bool). p x && b) (all_append p xs ys) ∙ sym (and_assoc (p x) (all p xs) (all p ys))

  pub any_append : (p : A → Bool) (xs ys : List A) → any p (xs ++ ys) ≡ (any p xs || any p ys)
  any_append p [] ys = refl
  any_append p (x ∷ xs) ys = ap (λ (b : Bool). p x || b) (any_append p xs ys) ∙ sym (or_assoc (p x) (any p xs) (any p ys))

  -- f 0, f 1, .., f k: one more
  pub up_more : (f : ℕ → A) (k : ℕ) → map f (up_to (suc k)) ≡ map f (up_to k) ++ (f k ∷ [])
  up_more f k = ap (map f) (up_to-more k) ∙ map-append f (up_to k) (k ∷ [])

  pub all_up : (p : A → Bool) (f : ℕ → A) (k : ℕ) → all p (map f (up_to k)) ≡ every (λ i. p (f i)) k
  unfolding every
  all_up p f zero = refl
  all_up p f (suc k) =
      ap (all p) (up_more f k) ∙ all_append p (map f (up_to k)) (f k ∷ []) ∙ ap₂ ◌&&◌ (all_up p f k) (and-true (p (f k)))

  pub any-up : (p : A → Bool) (f : ℕ → A) (k : ℕ) → any p (map f (up_to k)) ≡ some (λ i. p (f i)) k
  unfolding some
  any-up p f zero = refl
  any-up p f (suc k) =
      ap (any p) (up_more f k) ∙ any_append p (map f (up_to k)) (f k ∷ []) ∙ ap₂ ◌||◌ (any-up p f k) (or-false (p (f k)))

  pub length_up : (p : A → Bool) (f : ℕ → A) (k : ℕ) → length (select p (map f (up_to k))) ≡ counted (λ i. p (f i)) k
  unfolding counted
  length_up p f zero = refl
  length_up p f (suc k) =
      ap (λ (l : List A). length (select p l)) (up_more f k) ∙ ap length (select-append p (map f (up_to k)) (f k ∷ []))
      ∙ length-append (select p (map f (up_to k))) (select p (f k ∷ [])) ∙ ap₂ ◌+◌ (length_up p f k) (one-length (p (f k)))
    where
      one-length : (b : Bool) → length {A = A} (cond b (f k ∷ []) []) ≡ one b
      one-length true = refl
      one-length false = refl

  -- one element more: it is not the same as one before it
  pub none-twice-append : (same : A → A → Bool) (xs : List A) (y : A) → none_twice same (xs ++ (y ∷ [])) ≡ (none_twice same xs && not (any (λ x. same x y) xs))
  none-twice-append same [] y = refl
  none-twice-append same (x ∷ xs) y =
      ap₂ (λ a b. not a && b) (any_append (same x) xs (y ∷ [])) (none-twice-append same xs y)
      ∙ mix (any (same x) xs) (same x y) (none_twice same xs) (any (λ x. same x y) xs)
    where
      mix : (a b n d : Bool) → (not (a || (b || false)) && (n && not d)) ≡ (not a && n && not (b || d))
      mix true b n d = refl
      mix false true true d = refl
      mix false true false d = refl
      mix false false true d = refl
      mix false false false d = refl

  pub none-twice-up : (same : A → A → Bool) (f : ℕ → A) (k : ℕ) → none_twice same (map f (up_to k)) ≡ every (λ i. not (some (λ j. same (f j) (f i)) i)) k
  unfolding every
  none-twice-up same f zero = refl
  none-twice-up same f (suc k) =
      ap (none_twice same) (up_more f k) ∙ none-twice-append same (map f (up_to k)) (f k)
      ∙ ap₂ (λ a b. a && not b) (none-twice-up same f k) (any-up (λ x. same x (f k)) f k)

pub every-and : (s t : ℕ → Bool) (k : ℕ) → every (λ i. s i && t i) k ≡ (every s k && every t k)
unfolding every
every-and s t zero = refl
every-and s t (suc k) = ap (λ b. b && (s k && t k)) (every-and s t k) ∙ mix (every s k) (every t k) (s k) (t k)
  where
    mix : (a b c d : Bool) → (a && b && (c && d)) ≡ (a && c && (b && d))
    mix false b c d = refl
    mix true false false d = refl
    mix true false true d = refl
    mix true true c d = refl

-- a first one is found below k exactly if some passes, and it passes
pub first_passes : (t : ℕ → Bool) (k : ℕ) → some t k ≡ true → (first t k < k) × (t (first t k) ≡ true)
unfolding some first
first_passes t zero h = absurd (false≢true h)
first_passes t (suc k) h = go (some t k) refl (t k) refl h (λ e. first_passes t k e)
  where
    go : (b : Bool) → some t k ≡ b → (d : Bool) → t k ≡ d → (b || d) ≡ true → (some t k ≡ true → (first t k < k) × (t (first t k) ≡ true))
        → (cond b (first t k) (cond d k (suc k)) < suc k) × (t (cond b (first t k) (cond d k (suc k))) ≡ true)
    go true e d f q ih = let a = (ih e).0 in (omega arith, (ih e).1)
    go false e true f q ih = (omega arith, f)
    go false e false f q ih = absurd (false≢true q)

pub found : (t : ℕ → Bool) (k i : ℕ) → i ≡ first t k → i < k → some t k ≡ true
found t k i q h = go (some t k) refl
  where
    go : (b : Bool) → some t k ≡ b → b ≡ true
    go true e = refl
    go false e = absurd (let f = first-none t k e in omega arith)

pub not_found : (t : ℕ → Bool) (k i : ℕ) → i ≡ first t k → k ≤ i → some t k ≡ false
not_found t k i q h = go (some t k) refl
  where
    go : (b : Bool) → some t k ≡ b → b ≡ false
    go true e = absurd (let f = (first_passes t k e).0 in omega arith)
    go false e = refl

-- a loop that counts: a turn that passes, one that does not, and the end
pub counted-hit : (t : ℕ → Bool) (k many : ℕ) → many ≡ counted t k → t k ≡ true → many + 1 ≡ counted t (k + 1)
unfolding counted
counted-hit t k many e h = rw (add-one k, e, h)

pub counted-miss : (t : ℕ → Bool) (k many : ℕ) → many ≡ counted t k → t k ≡ false → many ≡ counted t (k + 1)
unfolding counted
counted-miss t k many e h = rw (add-one k, e, h) (sym (add-zero (counted t k)))

pub counted-end : (t : ℕ → Bool) (k n many : ℕ) → k ≤ n → n ≤ k → many ≡ counted t k → many ≡ counted t n
counted-end t k n many h l e = e ∙ ap (counted t) (le_antisymm h l)

-- none is chosen where none passes; where some does, the first that passes comes first
module _ {A : Type 0} (p : A → Bool) (f : ℕ → A) where
  pub select-none : (k : ℕ) → some (λ i. p (f i)) k ≡ false → select p (map f (up_to k)) ≡ []
  unfolding some
  select-none zero h = refl
  select-none (suc k) h =
      ap (select p) (up_more f k) ∙ select-append p (map f (up_to k)) (f k ∷ [])
      ∙ go (some (λ i. p (f i)) k) refl (p (f k)) h (λ e. select-none k e)
    where
      go : (b : Bool) → some (λ i. p (f i)) k ≡ b → (d : Bool) → (b || d) ≡ false → (some (λ i. p (f i)) k ≡ false → select p (map f (up_to k)) ≡ [])
          → select p (map f (up_to k)) ++ cond d (f k ∷ []) [] ≡ []
      go true e d q ih = absurd (true≢false q)
      go false e true q ih = absurd (true≢false q)
      go false e false q ih = rw (ih e)

  pub select-first : (k : ℕ) → some (λ i. p (f i)) k ≡ true → (rest : List A) × (select p (map f (up_to k)) ≡ f (first (λ i. p (f i)) k) ∷ rest)
  unfolding some first
  select-first zero h = absurd (false≢true h)
  select-first (suc k) h =
      let x = go (some (λ i. p (f i)) k) refl (p (f k)) h (λ e. select-first k e) (λ e. select-none k e) in
      (x.0, long ∙ x.1)
    where
      long : select p (map f (up_to (suc k))) ≡ select p (map f (up_to k)) ++ select p (f k ∷ [])
      long = ap (select p) (up_more f k) ∙ select-append p (map f (up_to k)) (f k ∷ [])

      go : (b : Bool) → some (λ i. p (f i)) k ≡ b → (d : Bool) → (b || d) ≡ true
          → (some (λ i. p (f i)) k ≡ true → (rest : List A) × (select p (map f (up_to k)) ≡ f (first (λ i. p (f i)) k) ∷ rest))
          → (some (λ i. p (f i)) k ≡ false → select p (map f (up_to k)) ≡ [])
          → (rest : List A) × (select p (map f (up_to k)) ++ cond d (f k ∷ []) [] ≡ f (cond b (first (λ i. p (f i)) k) (cond d k (suc k))) ∷ rest)
      go true e d q ih none = ((ih e).0 ++ cond d (f k ∷ []) [], rw (ih e).1)
      go false e true q ih none = ([], rw (none e))
      go false e false q ih none = absurd (false≢true q)

-- the same of the numbers themselves
pub all-up_to : (p : ℕ → Bool) (k : ℕ) → all p (up_to k) ≡ every p k
all-up_to p k = ap (all p) (sym (map-id (up_to k))) ∙ all_up p (λ i. i) k

pub length-up_to : (p : ℕ → Bool) (k : ℕ) → length (select p (up_to k)) ≡ counted p k
length-up_to p k = ap (λ (l : List ℕ). length (select p l)) (sym (map-id (up_to k))) ∙ length_up p (λ i. i) k

-- c is among the numbers below w that pass
pub member-chosen : (p : ℕ → Bool) (w c : ℕ) → member c (select p (up_to w)) ≡ (ltb c w && p c)
member-chosen p w c =
    same_test (member c (select p (up_to w))) (ltb c w && p c)
    (λ m. let x = mem-select p (up_to w) c (member→Mem c (select p (up_to w)) m) in and_both (ltb c w) (p c) (is_t (lt-ltb c w (up_to-mem w c x.0))) x.1)
    (λ m.
    let below = ltb-true c w (T→≡ (ltb c w) (and-fst (ltb c w) (p c) m)) in
    Mem→member c (select p (up_to w)) (select-mem p (up_to w) c (mem-up_to w c below) (and-snd (ltb c w) (p c) m)))
