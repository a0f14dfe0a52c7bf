-- Laws of the text of a set: its numbers one by one, after a comma or as the first, and `-` for none.
-- Assumes nothing.
use Prim.Native.Nat.{ℕ, ◌+◌, ◌*◌, ◌≤◌, ◌<◌}
use mathlib.Core.Path.{◌≡◌, sym, ap, ◌∙◌}
use mathlib.Core.Bool.{Bool, true, false, cond}
use mathlib.Core.List.{List, [], ◌∷◌, ◌++◌, append-nil, append_assoc}
use native.Mathlib.Nat.{add-zero, zero-add, le_antisymm}
use native.Mathlib.Numerals.{add-one}
use native.Mathlib.Omega.{arith}
use lib.Dec.{ltb}
use lib.ListN.{length, set, length-append}
use borrow.Author.Tests.{lt-ltb, le-ltb}
use Rattle.lists.specs.Lists.{select, from, up_to}
use Rattle.laws.proofs.Lists.{select-append}
use Rattle.sheet.proofs.Numbers.{from_more}
use Rattle.text.specs.Reading.{is_some}
use Rattle.text.specs.Printing.{decimal, commas, parted, set_text, member_text}
use Rattle.text.specs.Writing.{PutAt}
use Rattle.text.proofs.Writes.{decimal_digit, decimal-some, wrote-digit, wrote_none, wrote_then, wrote-byte}

-- the numbers below k + 1 that pass
select-more : (p : ℕ → Bool) (k : ℕ) → select p (up_to (k + 1)) ≡ select p (up_to k) ++ cond (p k) (k ∷ []) []
select-more p k =
    rw add-one (ap (select p) (from_more 0 k) ∙ select-append p (from 0 k) ((0 + k) ∷ []) ∙ ap (λ j. select p (from 0 k) ++ select p (j ∷ [])) (zero-add k))

-- one number more
commas-more : (xs : List ℕ) (x : ℕ) → commas (xs ++ (x ∷ [])) ≡ commas xs ++ (44 ∷ decimal x)
unfolding commas
commas-more [] x = ap (λ l. 44 ∷ l) (append-nil (decimal x))
commas-more (y ∷ xs) x = ap (λ l. 44 ∷ (decimal y ++ l)) (commas-more xs x) ∙ ap (λ l. 44 ∷ l) (sym (append_assoc (decimal y) (commas xs) (44 ∷ decimal x)))

parted-more : (xs : List ℕ) (x : ℕ) → parted (xs ++ (x ∷ [])) ≡ parted xs ++ member_text (is_some xs) x
unfolding parted commas is_some member_text
parted-more [] x = append-nil (decimal x)
parted-more (y ∷ xs) x = ap (λ l. decimal y ++ l) (commas-more xs x) ∙ sym (append_assoc (decimal y) (commas xs) (44 ∷ decimal x))

-- a set's text is empty only if the set is
parted-some : (x : ℕ) (xs : List ℕ) → 1 ≤ length (parted (x ∷ xs))
unfolding parted
parted-some x xs = simp length-append (omega (arith, decimal-some x))

some-text : (xs : List ℕ) (at : ℕ) → ltb at (at + length (parted xs)) ≡ is_some xs
unfolding is_some parted
some-text [] at = le-ltb at (at + 0) (omega arith)
some-text (x ∷ xs) at = lt-ltb at (at + length (parted (x ∷ xs))) (omega (arith, parted-some x xs))

-- The numbers below k that pass are written from `at` on; each takes two bytes at most
pub record PassingPut (p : ℕ → Bool) (s : List ℕ) (at k : ℕ) (s' : List ℕ) (end : ℕ) : Type 0 where
  pub wrote : PutAt s at (parted (select p (up_to k))) s' end
  pub short : end ≤ at + 2 * k
  pub not-before : at ≤ end

pub member-first : (s : List ℕ) (from at x : ℕ) → x < 10 → at ≤ from → PutAt s at (member_text (ltb from at) x) (set s at (48 + x)) (at + 1)
unfolding member_text
member-first s from at x h l = rw (le-ltb from at l) (wrote-digit s at x h)

pub member-next : (s : List ℕ) (from at x : ℕ) → x < 10 → from < at → PutAt s at (member_text (ltb from at) x) (set (set s at 44) (at + 1) (48 + x)) (at + 2)
unfolding member_text
member-next s from at x h l =
    let e : at + 2 ≡ at + 1 + 1 = omega arith in
    rw (lt-ltb from at l, e) (wrote_then (wrote-byte s at 44) (wrote-digit (set s at 44) (at + 1) x h))

member-short : (b : Bool) (x : ℕ) → x < 10 → length (member_text b x) ≤ 2
unfolding member_text
member-short true x h = rw (decimal_digit x h) (omega arith)
member-short false x h = rw (decimal_digit x h) (omega arith)

-- at the end: `-` if no byte was written
module _ (s s' : List ℕ) (at end : ℕ) where
  text-none : (xs : List ℕ) → PutAt s at (parted xs) s' end → end ≡ at → PutAt s at (set_text xs) (set s' at 45) (at + 1)
  unfolding set_text parted
  text-none [] w e = rw w.new_is (wrote-byte s at 45)
  text-none (x ∷ xs) w e = absurd (omega (arith, w.end_is, parted-some x xs))

  text-some : (xs : List ℕ) → PutAt s at (parted xs) s' end → (end ≡ at → ⊥) → PutAt s at (set_text xs) s' end
  unfolding set_text parted
  text-some [] w h = absurd (h (w.end_is ∙ add-zero at))
  text-some (x ∷ xs) w h = w

module _ (p : ℕ → Bool) (s : List ℕ) (at : ℕ) where
  pub passing-none : PassingPut p s at 0 s at
  unfolding parted
  passing-none = record { wrote = wrote_none s at; short = omega arith; not-before = omega arith }

  module _ (k : ℕ) (s' : List ℕ) (end : ℕ) (w : PassingPut p s at k s' end) where
    pub passing-over : p k ≡ false → PassingPut p s at (k + 1) s' end
    passing-over h = record { wrote = rw (select-more p k, h, append-nil) w.wrote; short = omega arith; not-before = w.not-before }

    pub passing-in : p k ≡ true → k < 10 → (s'' : List ℕ) (end'' : ℕ) → PutAt s' end (member_text (ltb at end) k) s'' end''
        → PassingPut p s at (k + 1) s'' end''
    passing-in h l s'' end'' m =
        let e : ltb at end ≡ is_some (select p (up_to k)) = ap (ltb at) w.wrote.end_is ∙ some-text (select p (up_to k)) at in
        record {
          wrote = rw (select-more p k, h, parted-more (select p (up_to k)) k) (wrote_then w.wrote (rw e at m));
          short = omega (arith, m.end_is, member-short (ltb at end) k l);
          not-before = omega (arith, m.end_is);
        }

    pub set-none : (n : ℕ) → k ≤ n → n ≤ k → end ≡ at → PutAt s at (set_text (select p (up_to n))) (set s' at 45) (at + 1)
    set-none n a b e = rw (← le_antisymm a b) (text-none s s' at end (select p (up_to k)) w.wrote e)

    pub set-some : (n : ℕ) → k ≤ n → n ≤ k → (end ≡ at → ⊥) → PutAt s at (set_text (select p (up_to n))) s' end
    set-some n a b h = rw (← le_antisymm a b) (text-some s s' at end (select p (up_to k)) w.wrote h)
