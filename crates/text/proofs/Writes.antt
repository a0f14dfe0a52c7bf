-- Laws of writing: bytes after bytes are their text, and a number's digits one by one.
-- Assumes nothing.
use Prim.Native.Nat.{ℕ, zero, suc, ◌+◌, ◌-◌, ◌/◌, ◌%◌, ◌^◌, ◌≤◌, ◌<◌}
use mathlib.Core.Path.{◌≡◌, refl, sym, ap, ◌∙◌}
use mathlib.Core.Bool.{Bool, true, false, cond}
use mathlib.Core.List.{List, [], ◌∷◌, ◌++◌}
use native.Mathlib.Nat.{add-zero, div-lt_iff_lt-mul, pow-suc}
use native.Mathlib.Omega.{arith}
use lib.Dec.{ltb}
use lib.ListN.{length, take, drop, set, length-append}
use lib.Seq.{sets, sets-eq, take_all, length-sets}
use borrow.Rule.Slice.PartMut.{put_mid}
use Rattle.std.proofs.lemmas.Slice.{put_mid-paste}
use borrow.Author.Tests.{lt-ltb, le-ltb, ltb-true, ltb-false}
use Rattle.text.specs.Printing.{digits, decimal}
use Rattle.text.specs.Writing.{PutAt}

module _ {A : Type 0} where
  sets-append : (s : List A) (at : ℕ) (xs ys : List A) → sets s at (xs ++ ys) ≡ sets (sets s at xs) (at + length xs) ys
  sets-append s at [] ys = rw add-zero
  sets-append s at (x ∷ xs) ys =
      let e : at + suc (length xs) ≡ suc at + length xs = omega arith in
      sets-append (set s at x) (suc at) xs ys ∙ rw e

  pub wrote_none : (s : List A) (at : ℕ) → PutAt s at [] s at
  wrote_none s at = record { new_is = refl; end_is = omega arith }

  pub wrote-byte : (s : List A) (at : ℕ) (v : A) → PutAt s at (v ∷ []) (set s at v) (at + 1)
  wrote-byte s at v = record { new_is = refl; end_is = refl }

  -- items copied into the part from `at` to `end`
  pub wrote-part : (s items : List A) (at end : ℕ) → end ≡ at + length items → end ≤ length s → PutAt s at items (put_mid at (end - at) s items) end
  wrote-part s items at end e h =
      record {
        new_is = put_mid-paste at (end - at) s items items (length items) refl (omega arith) refl
            ∙ ap (λ (l : List A). take at s ++ l ++ drop (at + length items) s) (take_all (length items) items (omega arith))
            ∙ sym (sets-eq items s at (omega arith));
        end_is = e;
      }

module _ {A : Type 0} {s s' s'' : List A} {at at' at'' : ℕ} {xs ys : List A} where
  pub wrote_then : PutAt s at xs s' at' → PutAt s' at' ys s'' at'' → PutAt s at (xs ++ ys) s'' at''
  wrote_then w w' =
      record {
        new_is = w'.new_is ∙ rw (w.new_is, w.end_is) (sym (sets-append s at xs ys));
        end_is = w'.end_is ∙ rw (w.end_is, length-append) (omega arith);
      }

module _ {A : Type 0} {s s' : List A} {at at' : ℕ} {xs : List A} where
  pub wrote-length : PutAt s at xs s' at' → length s' ≡ length s
  wrote-length w = ap length w.new_is ∙ length-sets s at xs

-- a number's digits
pub digits-one : (k n : ℕ) → n < 10 → digits (suc k) n ≡ (48 + n) ∷ []
unfolding digits
digits-one k n h = rw (lt-ltb n 10 h)

pub digits_more : (k n : ℕ) → 10 ≤ n → digits (suc k) n ≡ digits k (n / 10) ++ ((48 + n % 10) ∷ [])
unfolding digits
digits_more k n h = rw (le-ltb n 10 h)

digits-short : (k n : ℕ) → length (digits k n) ≤ k
unfolding digits
digits-short zero n = omega arith
digits-short (suc k) n = go (ltb n 10) (digits-short k (n / 10))
  where
    go : (t : Bool) → length (digits k (n / 10)) ≤ k → length (cond t ((48 + n) ∷ []) (digits k (n / 10) ++ ((48 + n % 10) ∷ []))) ≤ suc k
    go true h = omega arith
    go false h = simp length-append (omega arith)

digits-some : (k n : ℕ) → 1 ≤ length (digits (suc k) n)
unfolding digits
digits-some k n = go (ltb n 10)
  where
    go : (t : Bool) → 1 ≤ length (cond t ((48 + n) ∷ []) (digits k (n / 10) ++ ((48 + n % 10) ∷ [])))
    go true = omega arith
    go false = simp length-append (omega arith)

-- one digit more than are needed changes nothing
digits-enough : (k n : ℕ) → n < 10 ^ suc k → digits (suc (suc k)) n ≡ digits (suc k) n
digits-enough zero n h = digits-one 1 n h ∙ sym (digits-one 0 n h)
digits-enough (suc k) n h =
    let tenth : n / 10 < 10 ^ suc k = (div-lt_iff_lt-mul {k = 10} {x = n} {y = 10 ^ suc k} (omega arith)).1 (rw pow-suc at h) in
    go (ltb n 10) refl (digits-enough k (n / 10) tenth)
  where
    go : (t : Bool) → ltb n 10 ≡ t → digits (suc (suc k)) (n / 10) ≡ digits (suc k) (n / 10) → digits (suc (suc (suc k))) n ≡ digits (suc (suc k)) n
    go true l e = let m : n < 10 = ltb-true n 10 l in digits-one (suc (suc k)) n m ∙ sym (digits-one (suc k) n m)
    go false l e =
        let m : 10 ≤ n = ltb-false n 10 l in
        digits_more (suc (suc k)) n m ∙ ap (λ ds. ds ++ ((48 + n % 10) ∷ [])) e ∙ sym (digits_more (suc k) n m)

pub decimal_digit : (n : ℕ) → n < 10 → decimal n ≡ (48 + n) ∷ []
unfolding decimal
decimal_digit n h = digits-one 19 n h

pub decimal-digits : (n : ℕ) → 10 ≤ n → n < 2 ^ 64 → decimal n ≡ decimal (n / 10) ++ ((48 + n % 10) ∷ [])
unfolding decimal
decimal-digits n h l = digits_more 19 n h ∙ ap (λ ds. ds ++ ((48 + n % 10) ∷ [])) (sym (digits-enough 18 (n / 10) (omega arith)))

pub decimal-short : (n : ℕ) → length (decimal n) ≤ 20
unfolding decimal
decimal-short n = digits-short 20 n

pub decimal-some : (n : ℕ) → 1 ≤ length (decimal n)
unfolding decimal
decimal-some n = digits-some 19 n

tens-short : (n : ℕ) → 10 ≤ n → n < 2 ^ 64 → length (decimal (n / 10)) < 20
tens-short n h l =
    let e = ap length (decimal-digits n h l) ∙ length-append (decimal (n / 10)) ((48 + n % 10) ∷ []) in
    omega (arith, decimal-short n)

-- writing a number: its last digit after the others
pub wrote-digit : (s : List ℕ) (at n : ℕ) → n < 10 → PutAt s at (decimal n) (set s at (48 + n)) (at + 1)
wrote-digit s at n h = rw (decimal_digit n h) (wrote-byte s at (48 + n))

module _ (s s' : List ℕ) (at n end : ℕ) where
  wrote-digits : 10 ≤ n → n < 2 ^ 64 → PutAt s at (decimal (n / 10)) s' end → PutAt s at (decimal n) (set s' end (48 + n % 10)) (end + 1)
  wrote-digits h l w = rw (decimal-digits n h l) (wrote_then w (wrote-byte s' end (48 + n % 10)))

  pub wrote-number : 10 ≤ n → n < 2 ^ 64 → PutAt s at (decimal (n / 10)) s' end
      → PutAt s at (decimal n) (set s' end (48 + n % 10)) (end + 1) × (end + 1 ≤ at + 20)
  wrote-number h l w = (wrote-digits h l w, omega (arith, w.end_is, tens-short n h l))

  pub tens-fit : 10 ≤ n → n < 2 ^ 64 → PutAt s at (decimal (n / 10)) s' end → at + 20 ≤ length s → end < length s'
  tens-fit h l w f = omega (arith, w.end_is, wrote-length w, tens-short n h l)

-- the same items by another name
pub wrote_as : {A : Type 0} {s s' : List A} {at at' : ℕ} {xs ys : List A} → xs ≡ ys → PutAt s at xs s' at' → PutAt s at ys s' at'
wrote_as e w = rw e at w

-- what is written is one buffer and one end
pub wrote-once : {A : Type 0} {s s' s'' : List A} {at at' at'' : ℕ} {xs : List A} → PutAt s at xs s' at' → PutAt s at xs s'' at'' → (s' ≡ s'') × (at' ≡ at'')
wrote-once w m = (w.new_is ∙ sym m.new_is, w.end_is ∙ sym m.end_is)
