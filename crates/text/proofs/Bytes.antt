-- Laws of the reader's steps: which byte leads to which state, and the states after bytes one after the other.
-- Assumes nothing.
use Prim.Native.Nat.{ℕ, ◌+◌, ◌-◌, ◌*◌, ◌/◌, ◌^◌, ◌≤◌, ◌<◌}
use mathlib.Core.Path.{◌≡◌, refl, sym, ap, ◌∙◌}
use Rattle.std.specs.Prelude.{Option, Some, None}
use Rattle.std.specs.Option.{is_some, unwrap_or}
use mathlib.Core.Logic.{◌⊎◌, inl, inr, ⊎_elim}
use mathlib.Core.Bool.{Bool, true, false, cond}
use mathlib.Core.List.{List, [], ◌∷◌, ◌++◌}
use native.Mathlib.Numerals.{add-one}
use native.Mathlib.Omega.{arith}
use lib.ListN.{length, get_or, take, set}
use lib.Seq.{take-suc}
use lib.Dec.{ltb}
use borrow.Author.Tests.{ne_eqb, le-leb, lt-leb, lt-ltb, le-ltb}
use Rattle.lists.specs.Lists.{flat}
use Rattle.text.specs.Reading.{Text, is_blank, is_digit}
use Rattle.text.specs.Readers.{most, has_begun, hand, broken, emptied, noted, longer, after_blank, after_digit, after_byte, after_bytes, after_chunks}
use Rattle.text.specs.declared.reading.Reader.{Reader}

pub blank : (b : ℕ) → (b ≡ 10) ⊎ (b ≡ 32) → is_blank b ≡ true
unfolding is_blank
blank b h = ⊎_elim (λ e. rw e) (λ e. rw e) h

pub no-blank : (b : ℕ) → ((b ≡ 10) ⊎ (b ≡ 32) → ⊥) → is_blank b ≡ false
unfolding is_blank
no-blank b h = rw (ne_eqb b 32 (λ e. h (inr e)), ne_eqb b 10 (λ e. h (inl e)))

pub digit : (b : ℕ) → 48 ≤ b → b < 58 → is_digit b ≡ true
unfolding is_digit
digit b h l = rw (le-leb 48 b h, le-leb b 57 (omega arith))

pub below-digits : (b : ℕ) → b < 48 → is_digit b ≡ false
unfolding is_digit
below-digits b h = rw (lt-leb 48 b h)

pub above-digits : (b : ℕ) → 57 < b → is_digit b ≡ false
unfolding is_digit
above-digits b h = rw (le-leb 48 b (omega arith), lt-leb b 57 h)

-- a test that is passed, and one that fails
pub passed : {A : Type 0} (b : Bool) (x y : A) → b ≡ true → x ≡ cond b x y
passed b x y h = rw h

pub failing : {A : Type 0} (b : Bool) (x y : A) → b ≡ false → y ≡ cond b x y
failing b x y h = rw h

-- one byte
module _ (r q : Reader) (b : ℕ) where
  pub byte-failed : r.failed ≡ true → r ≡ after_byte r b
  unfolding after_byte
  byte-failed f = passed r.failed _ _ f

  pub byte-blank : r.failed ≡ false → is_blank b ≡ true → q ≡ after_blank r → q ≡ after_byte r b
  unfolding after_byte
  byte-blank f h e = e ∙ passed (is_blank b) _ _ h ∙ failing r.failed _ _ f

  pub byte-digit : r.failed ≡ false → is_blank b ≡ false → is_digit b ≡ true → q ≡ after_digit r (b - 48) → q ≡ after_byte r b
  unfolding after_byte
  byte-digit f h d e = e ∙ passed (is_digit b) _ _ d ∙ failing (is_blank b) _ _ h ∙ failing r.failed _ _ f

  pub byte-other : r.failed ≡ false → is_blank b ≡ false → is_digit b ≡ false → q ≡ broken r → q ≡ after_byte r b
  unfolding after_byte
  byte-other f h d e = e ∙ failing (is_digit b) _ _ d ∙ failing (is_blank b) _ _ h ∙ failing r.failed _ _ f

-- a blank ends the number in hand
module _ (r : Reader) where
  pub blank_none : r.number ≡ None → r ≡ after_blank r
  unfolding after_blank
  blank_none h = failing (has_begun r) _ _ (ap is_some h)

  abbrev pub noted_with : ℕ → Reader
  noted_with v = record { words = set r.words r.many v; many = r.many + 1; number = None; failed = r.failed }

  module _ (v : ℕ) (h : r.number ≡ Some v) where
    pub blank-full : most ≤ r.many → emptied r ≡ after_blank r
    unfolding after_blank
    blank-full l = failing (ltb r.many most) _ _ (le-ltb _ _ l) ∙ passed (has_begun r) _ _ (ap is_some h)

    pub blank-kept : r.many < most → noted_with v ≡ after_blank r
    unfolding after_blank noted
    blank-kept l =
        ap noted_with (sym (ap (λ (o : Option ℕ). unwrap_or o 0) h))
        ∙ passed (ltb r.many most) _ _ (lt-ltb _ _ l) ∙ passed (has_begun r) _ _ (ap is_some h)

-- a digit makes it longer, if that has 64 bits
module _ (r : Reader) (d : ℕ) where
  pub digit-longer : ltb (hand r * 10 + d) (2 ^ 64) ≡ true → longer r d ≡ after_digit r d
  unfolding after_digit
  digit-longer h = passed _ _ _ h

  pub digit-broken : ltb (hand r * 10 + d) (2 ^ 64) ≡ false → broken r ≡ after_digit r d
  unfolding after_digit
  digit-broken h = failing _ _ _ h

  -- exactly if the number is at most a tenth of what the digit leaves
  module _ (v : ℕ) (e : v ≡ hand r) where
    pub digit-fits : d < 2 ^ 64 → v ≤ (2 ^ 64 - 1 - d) / 10
        → ◌≡◌ {A = Reader} (record { words = r.words; many = r.many; number = Some (v * 10 + d); failed = r.failed }) (after_digit r d)
    unfolding longer
    digit-fits h l = rw e (digit-longer (lt-ltb (hand r * 10 + d) (2 ^ 64) (omega arith)))

    pub digit-too-large : (2 ^ 64 - 1 - d) / 10 < v → broken r ≡ after_digit r d
    digit-too-large l = digit-broken (le-ltb (hand r * 10 + d) (2 ^ 64) (omega arith))

-- bytes one after the other
pub bytes-more : (r q : Reader) (bs : Text) (i : ℕ) → i < length bs → q ≡ after_bytes r (take i bs)
    → after_byte q (get_or bs i 0) ≡ after_bytes r (take (i + 1) bs)
unfolding after_bytes
bytes-more r q bs i h e = rw (add-one, take-suc bs i 0 h, e) (go r (take i bs) (get_or bs i 0))
  where
    go : (r : Reader) (bs : Text) (b : ℕ) → after_byte (after_bytes r bs) b ≡ after_bytes r (bs ++ (b ∷ []))
    go r [] b = refl
    go r (a ∷ bs) b = go (after_byte r a) bs b

-- However a text is cut, the state after the one part and then the other is the state after the whole
pub cut-in-two : (r : Reader) (xs ys : Text) → after_bytes r (xs ++ ys) ≡ after_bytes (after_bytes r xs) ys
unfolding after_bytes
cut-in-two r [] ys = refl
cut-in-two r (x ∷ xs) ys = cut-in-two (after_byte r x) xs ys

pub any-chunks : (chunks : List Text) (r : Reader) → after_chunks r chunks ≡ after_bytes r (flat chunks)
unfolding after_chunks after_bytes
any-chunks [] r = refl
any-chunks (c ∷ cs) r = any-chunks cs (after_bytes r c) ∙ sym (cut-in-two r c (flat cs))
