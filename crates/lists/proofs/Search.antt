-- Binary search among the places below n, for a test that a place passes if a later one does. In a list the first places pass, as many as elements do.
-- Assumes nothing.
use Prim.Native.Nat.{ℕ, zero, suc, ◌+◌, ◌<◌, ◌≤◌, zero-le, suc-le-suc}
use mathlib.Core.Path.{◌≡◌, refl, sym, ◌∙◌}
use mathlib.Core.Bool.{Bool, true, false, true≢false}
use mathlib.Core.List.{List, [], ◌∷◌}
use native.Mathlib.Nat.{not-suc-le-zero, not-le_of_lt}
use native.Mathlib.Omega.{arith}
use lib.Dec.{ltb}
use lib.ListN.{length, get_or}
use borrow.Author.Tests.{ltb-true, ltb-false}
use Rattle.lists.specs.Totals.{total, one}

-- a place passes if a later one does
abbrev pub Falls : (ℕ → Bool) → ℕ → Type 0
Falls p n = (i j : ℕ) → i ≤ j → j < n → p j ≡ true → p i ≡ true

-- each place before lo passes, and none from hi on
pub record Bracket (p : ℕ → Bool) (n lo hi : ℕ) : Type 0 where
  pub low : lo ≤ hi
  pub high : hi ≤ n
  pub below : (k : ℕ) → k < lo → p k ≡ true
  pub above : (k : ℕ) → hi ≤ k → k < n → p k ≡ false

pub bracket-start : (p : ℕ → Bool) (n : ℕ) → Bracket p n 0 n
bracket-start p n = record {
  low = zero-le;
  high = omega arith;
  below = λ k l. absurd (not-suc-le-zero l);
  above = λ k h l. absurd (not-le_of_lt l h);
}

-- no place passes behind one that does not
pub falls-on : (p : ℕ → Bool) (n : ℕ) → Falls p n → (m k : ℕ) → m ≤ k → k < n → p m ≡ false → p k ≡ false
falls-on p n f m k h l e = go (p k) refl
  where
    go : (b : Bool) → p k ≡ b → b ≡ false
    go true g = sym (f m k h l g) ∙ e
    go false g = refl

-- a turn: by the test at a place between
module _ (p : ℕ → Bool) (n : ℕ) (f : Falls p n) (lo hi m : ℕ) (b : Bracket p n lo hi) (h : lo ≤ m) (l : m < hi) where
  pub bracket-up : p m ≡ true → Bracket p n (m + 1) hi
  bracket-up e = record {
    low = omega arith;
    high = b.high;
    below = λ k q. f k m (omega arith) (omega arith) e;
    above = b.above;
  }

  pub bracket-down : p m ≡ false → Bracket p n lo m
  bracket-down e = record { low = h; high = omega arith; below = b.below; above = λ k q r. falls-on p n f m k q r e }

-- the end: where the bracket is closed, there is only one such place
pub bracket-end : (p : ℕ → Bool) (n lo hi k : ℕ) → Bracket p n lo hi → hi ≤ lo → Bracket p n k k → lo ≡ k
bracket-end p n lo hi k b h c = go (ltb lo k) refl (ltb k lo) refl
  where
    go : (x : Bool) → ltb lo k ≡ x → (y : Bool) → ltb k lo ≡ y → lo ≡ k
    go true e y g =
        let l = ltb-true lo k e in
        absurd (true≢false (sym (c.below lo l) ∙ b.above lo h (omega (arith, c.high))))
    go false e true g =
        let l = ltb-true k lo g in
        absurd (true≢false (sym (b.below k l) ∙ c.above k (omega arith) (omega (arith, b.low, b.high))))
    go false e false g = let x = ltb-false lo k e in let y = ltb-false k lo g in omega arith

-- In a list: how many elements pass
module _ {A : Type 0} (p : A → Bool) where
  abbrev many : List A → ℕ
  many xs = total (λ x. one (p x)) xs

  pub many-le : (xs : List A) → many xs ≤ length xs
  unfolding total
  many-le [] = zero-le
  many-le (x ∷ xs) = go (p x) (many-le xs)
    where
      go : (b : Bool) → many xs ≤ length xs → one b + many xs ≤ suc (length xs)
      go true h = omega arith
      go false h = omega arith

  -- these are the first ones, if the test falls
  pub counted : (d : A) (xs : List A) → Falls (λ i. p (get_or xs i d)) (length xs) → Bracket (λ i. p (get_or xs i d)) (length xs) (many xs) (many xs)
  unfolding total
  counted d [] f = bracket-start _ 0
  counted d (x ∷ xs) f = go (p x) refl (counted d xs (λ i j h l e. f (suc i) (suc j) (suc-le-suc h) (suc-le-suc l) e))
    where
      go : (b : Bool) → p x ≡ b → Bracket (λ i. p (get_or xs i d)) (length xs) (many xs) (many xs)
          → Bracket (λ i. p (get_or (x ∷ xs) i d)) (suc (length xs)) (one b + many xs) (one b + many xs)
      go true e ih = record { low = omega arith; high = omega (arith, ih.high); below = under; above = over }
        where
          under : (k : ℕ) → k < 1 + many xs → p (get_or (x ∷ xs) k d) ≡ true
          under zero l = e
          under (suc k) l = ih.below k (omega arith)

          over : (k : ℕ) → 1 + many xs ≤ k → k < suc (length xs) → p (get_or (x ∷ xs) k d) ≡ false
          over zero h l = absurd (omega arith)
          over (suc k) h l = ih.above k (omega arith) (omega arith)
      go false e ih =
          let none : (k : ℕ) → k < suc (length xs) → p (get_or (x ∷ xs) k d) ≡ false = (λ k l. falls-on _ _ f 0 k zero-le l e) in
          record {
            low = omega arith;
            high = omega (arith, ih.high);
            below = λ k l. absurd (true≢false (sym (ih.below 0 (omega arith)) ∙ none 1 (omega (arith, ih.high))));
            above = λ k h l. none k l;
          }
