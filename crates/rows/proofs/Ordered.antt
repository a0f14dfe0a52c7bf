-- The order of rows is total and transitive, and Equal exactly of a row and itself; what that says of `smaller` and `not_after`.
-- Assumes nothing.
use Prim.Native.Nat.{ℕ, ◌<◌, ◌≤◌}
use mathlib.Core.Path.{◌≡◌, refl, sym, ap, ap₂, ◌∙◌, subst}
use mathlib.Core.Bool.{Bool, true, false, not, true≢false, false≢true}
use mathlib.Core.List.{[], ◌∷◌}
use mathlib.Core.Logic.{◌⊎◌, inl, inr, ⊎_elim}
use native.Mathlib.Omega.{arith}
use lib.Dec.{T, ltb, eqb, eqb→eq}
use borrow.Author.Tests.{ltb-true, ltb-false, lt-ltb, le-ltb, eq-eqb, ne_eqb, not-true}
use Rattle.lists.proofs.Truth.{is_t, T→≡, F→≡, and-fst, and-snd}
use Rattle.std.specs.declared.cmp.Ordering.{Ordering}
use Rattle.std.specs.declared.cmp.Ordering.TheVariants.{Less, Equal, Greater}
use Rattle.std.specs.Ordering.{is_eq, is_gt, is_ge, is_le, is_lt, nat_cmp, ordering_then}
use Rattle.std.specs.Cmp.Lexicographic.{slice_cmp}
use Rattle.rows.specs.Rows.{Row, word_order, then_by, row_order, is_less, smaller, same_row, not_after}

-- Words
pub word-less : (x y : ℕ) → x < y → word_order x y ≡ Less
unfolding word_order
word-less x y h = rw (lt-ltb x y h)

pub word-greater : (x y : ℕ) → y < x → word_order x y ≡ Greater
unfolding word_order
word-greater x y h = rw (le-ltb x y (omega arith), lt-ltb y x h)

pub word-equal : (x y : ℕ) → x ≡ y → word_order x y ≡ Equal
unfolding word_order
word-equal x y h = rw (le-ltb x y (omega arith), le-ltb y x (omega arith))

pub data Compared (x y : ℕ) : Type 0 where
  lt : x < y → Compared x y
  eq : x ≡ y → Compared x y
  gt : y < x → Compared x y

pub compared : (x y : ℕ) → Compared x y
compared x y = go (ltb x y) refl (ltb y x) refl
  where
    go : (b : Bool) → ltb x y ≡ b → (c : Bool) → ltb y x ≡ c → Compared x y
    go true e c f = lt (ltb-true x y e)
    go false e true f = gt (ltb-true y x f)
    go false e false f =
        let p : y ≤ x = ltb-false x y e in
        let q : x ≤ y = ltb-false y x f in
        eq (omega arith)

-- The two rows changed over
abbrev pub flip : Ordering → Ordering
flip Less = Greater
flip Equal = Equal
flip Greater = Less

pub order_flip : (r s : Row) → row_order s r ≡ flip (row_order r s)
unfolding row_order then_by
order_flip [] [] = refl
order_flip [] (y ∷ s) = refl
order_flip (x ∷ r) [] = refl
order_flip (x ∷ r) (y ∷ s) = go (compared x y) (order_flip r s)
  where
    go : Compared x y → row_order s r ≡ flip (row_order r s) → then_by (word_order y x) (row_order s r) ≡ flip (then_by (word_order x y) (row_order r s))
    go (lt h) ih = rw (word-less x y h, word-greater y x h)
    go (eq h) ih = rw (word-equal x y h, word-equal y x (sym h)) ih
    go (gt h) ih = rw (word-less y x h, word-greater x y h)

-- Equal exactly of a row and itself
pub order-itself : (r : Row) → row_order r r ≡ Equal
unfolding row_order then_by
order-itself [] = refl
order-itself (x ∷ r) = rw (word-equal x x refl) (order-itself r)

pub order-equal : (r s : Row) → row_order r s ≡ Equal → r ≡ s
unfolding row_order then_by
order-equal [] [] e = refl
order-equal [] (y ∷ s) e = absurd (let z : ◌≡◌ {A = ℕ} 0 1 = cc in omega arith)
order-equal (x ∷ r) [] e = absurd (let z : ◌≡◌ {A = ℕ} 0 1 = cc in omega arith)
order-equal (x ∷ r) (y ∷ s) e = go (compared x y) (λ e. order-equal r s e)
  where
    go : Compared x y → (row_order r s ≡ Equal → r ≡ s) → x ∷ r ≡ y ∷ s
    go (lt h) ih = let d : Less ≡ Equal = rw (word-less x y h) at e in let z : ◌≡◌ {A = ℕ} 0 1 = cc in absurd (omega arith)
    go (eq h) ih = ap₂ ◌∷◌ h (ih (rw (word-equal x y h) at e))
    go (gt h) ih = let d : Greater ≡ Equal = rw (word-greater x y h) at e in let z : ◌≡◌ {A = ℕ} 0 1 = cc in absurd (omega arith)

pub same_refl : (r : Row) → same_row r r ≡ true
same_refl [] = refl
same_refl (x ∷ r) = rw (eq-eqb x x refl) (same_refl r)

pub same→≡ : (r s : Row) → T (same_row r s) → r ≡ s
same→≡ [] [] h = refl
same→≡ [] (y ∷ s) h = absurd h
same→≡ (x ∷ r) [] h = absurd h
same→≡ (x ∷ r) (y ∷ s) h = ap₂ ◌∷◌ (eqb→eq x y (and-fst (eqb x y) (same_row r s) h)) (same→≡ r s (and-snd (eqb x y) (same_row r s) h))

pub ≡→same : (r s : Row) → r ≡ s → T (same_row r s)
≡→same r s e = subst (λ (q : Row). T (same_row r q)) e (is_t (same_refl r))

pub same-order : (r s : Row) → T (same_row r s) → row_order r s ≡ Equal
same-order r s h = subst (λ (q : Row). row_order r q ≡ Equal) (same→≡ r s h) (order-itself r)

pub order_same : (r s : Row) → row_order r s ≡ Equal → same_row r s ≡ true
order_same r s e = T→≡ (same_row r s) (≡→same r s (order-equal r s e))

pub order-less-differs : (r s : Row) → row_order r s ≡ Less → same_row r s ≡ false
order-less-differs r s e = F→≡ (same_row r s) (λ h. let d : Equal ≡ Less = sym (same-order r s h) ∙ e in let z : ◌≡◌ {A = ℕ} 0 1 = cc in omega arith)

pub order-greater-differs : (r s : Row) → row_order r s ≡ Greater → same_row r s ≡ false
order-greater-differs r s e = F→≡ (same_row r s) (λ h. let d : Equal ≡ Greater = sym (same-order r s h) ∙ e in let z : ◌≡◌ {A = ℕ} 0 1 = cc in omega arith)

-- What an answer of `row_order` says of `smaller`
is_less-less : (o : Ordering) → is_less o ≡ true → o ≡ Less
unfolding is_less
is_less-less Less h = refl
is_less-less Equal h = absurd (false≢true h)
is_less-less Greater h = absurd (false≢true h)

pub less-smaller : (r s : Row) → row_order r s ≡ Less → smaller r s ≡ true
unfolding smaller is_less
less-smaller r s e = rw e

pub smaller-less : (r s : Row) → smaller r s ≡ true → row_order r s ≡ Less
unfolding smaller
smaller-less r s h = is_less-less (row_order r s) h

pub greater-smaller : (r s : Row) → row_order r s ≡ Greater → smaller s r ≡ true
unfolding smaller is_less
greater-smaller r s e = rw (order_flip r s, e)

pub smaller-greater : (r s : Row) → smaller s r ≡ true → row_order r s ≡ Greater
smaller-greater r s h = order_flip s r ∙ ap flip (smaller-less s r h)

pub less-not-smaller : (r s : Row) → row_order r s ≡ Less → smaller s r ≡ false
unfolding smaller is_less
less-not-smaller r s e = rw (order_flip r s, e)

pub equal-not-smaller : (r s : Row) → row_order r s ≡ Equal → smaller s r ≡ false
unfolding smaller is_less
equal-not-smaller r s e = rw (order_flip r s, e)

-- Smaller, as a type
abbrev Before : Row → Row → Type 0
Before [] [] = ⊥
Before [] (y ∷ s) = Unit {0}
Before (x ∷ r) [] = ⊥
Before (x ∷ r) (y ∷ s) = (x < y) ⊎ ((x ≡ y) × Before r s)

before→smaller : (r s : Row) → Before r s → smaller r s ≡ true
unfolding smaller row_order then_by is_less
before→smaller [] [] l = absurd l
before→smaller [] (y ∷ s) l = refl
before→smaller (x ∷ r) [] l = absurd l
before→smaller (x ∷ r) (y ∷ s) (inl h) = rw (word-less x y h)
before→smaller (x ∷ r) (y ∷ s) (inr h) = rw (word-equal x y h.0) (before→smaller r s h.1)

smaller→before : (r s : Row) → smaller r s ≡ true → Before r s
unfolding smaller row_order then_by is_less
smaller→before [] [] e = absurd (false≢true e)
smaller→before [] (y ∷ s) e = tt
smaller→before (x ∷ r) [] e = absurd (false≢true e)
smaller→before (x ∷ r) (y ∷ s) e = go (compared x y) (λ h. smaller→before r s h)
  where
    go : Compared x y → (smaller r s ≡ true → Before r s) → (x < y) ⊎ ((x ≡ y) × Before r s)
    go (lt h) ih = inl h
    go (eq h) ih = inr (h, ih (rw (word-equal x y h) at e))
    go (gt h) ih = absurd (false≢true (rw (word-greater x y h) at e))

-- r before t: every s is after r or before t
cotrans : (r s t : Row) → Before r t → Before r s ⊎ Before s t
cotrans [] s [] l = absurd l
cotrans (x ∷ r) s [] l = absurd l
cotrans [] [] (z ∷ t) l = inr tt
cotrans [] (y ∷ s) (z ∷ t) l = inl tt
cotrans (x ∷ r) [] (z ∷ t) l = inr tt
cotrans (x ∷ r) (y ∷ s) (z ∷ t) (inl h) = go (compared x y)
  where
    go : Compared x y → Before (x ∷ r) (y ∷ s) ⊎ Before (y ∷ s) (z ∷ t)
    go (lt k) = inl (inl k)
    go (eq k) = inr (inl (omega arith))
    go (gt k) = inr (inl (omega arith))
cotrans (x ∷ r) (y ∷ s) (z ∷ t) (inr h) = go (compared x y) (cotrans r s t h.1)
  where
    go : Compared x y → Before r s ⊎ Before s t → Before (x ∷ r) (y ∷ s) ⊎ Before (y ∷ s) (z ∷ t)
    go (lt k) ih = inl (inl k)
    go (gt k) ih = let e : x ≡ z = h.0 in inr (inl (omega arith))
    go (eq k) (inl ih) = inl (inr (k, ih))
    go (eq k) (inr ih) = let e : x ≡ z = h.0 in inr (inr (omega arith, ih))

-- Three rows: r is smaller than t, so s is after r if it is not smaller than t, and before t if r is not smaller than s
pub smaller_before : (r s t : Row) → smaller r t ≡ true → smaller s t ≡ false → smaller r s ≡ true
smaller_before r s t e f =
    ⊎_elim (λ l. before→smaller r s l) (λ l. absurd (true≢false (sym (before→smaller s t l) ∙ f))) (cotrans r s t (smaller→before r t e))

pub smaller-after : (r s t : Row) → smaller r t ≡ true → smaller r s ≡ false → smaller s t ≡ true
smaller-after r s t e f =
    ⊎_elim (λ l. absurd (true≢false (sym (before→smaller r s l) ∙ f))) (λ l. before→smaller s t l) (cotrans r s t (smaller→before r t e))

pub not-smaller-chain : (r s t : Row) → smaller r s ≡ false → smaller s t ≡ false → smaller r t ≡ false
not-smaller-chain r s t e f = go (smaller r t) refl
  where
    go : (b : Bool) → smaller r t ≡ b → b ≡ false
    go false h = refl
    go true h = sym (smaller_before r s t h f) ∙ e

pub smaller-itself : (r : Row) → smaller r r ≡ false
smaller-itself r = equal-not-smaller r r (order-itself r)

-- of two rows not both are smaller, and neither only if they are the same
pub smaller-once : (r s : Row) → smaller r s ≡ true → smaller s r ≡ false
smaller-once r s h = less-not-smaller r s (smaller-less r s h)

pub neither-smaller : (r s : Row) → smaller r s ≡ false → smaller s r ≡ false → r ≡ s
neither-smaller r s e f = go (row_order r s) refl
  where
    go : (o : Ordering) → row_order r s ≡ o → r ≡ s
    go Less g = absurd (true≢false (sym (less-smaller r s g) ∙ e))
    go Equal g = order-equal r s g
    go Greater g = absurd (true≢false (sym (greater-smaller r s g) ∙ f))

-- The same of `not_after`: transitive, total, antisymmetric
pub after-false : (r s : Row) → T (not_after r s) → smaller s r ≡ false
after-false r s h = not-true (smaller s r) (T→≡ (not_after r s) h)

pub false-after : (r s : Row) → smaller s r ≡ false → T (not_after r s)
false-after r s e = rw e tt

pub chain : (r s t : Row) → T (not_after r s) → T (not_after s t) → T (not_after r t)
chain r s t h k = false-after r t (not-smaller-chain t s r (after-false s t k) (after-false r s h))

pub antisym : (r s : Row) → T (not_after r s) → T (not_after s r) → r ≡ s
antisym r s h k = neither-smaller r s (after-false s r k) (after-false r s h)

pub itself : (r : Row) → T (not_after r r)
itself r = false-after r r (smaller-itself r)

-- std compares words and slices in this order
word-is : (x y : ℕ) → nat_cmp x y ≡ word_order x y
word-is x y = go (compared x y)
  where
    go : Compared x y → nat_cmp x y ≡ word_order x y
    go (lt h) = rw (lt-ltb x y h, word-less x y h)
    go (eq h) = rw (le-ltb x y (omega arith), eq-eqb x y h, word-equal x y h)
    go (gt h) = rw (le-ltb x y (omega arith), ne_eqb x y (λ e. absurd (omega (arith, e, h))), word-greater x y h)

then-is : (o q : Ordering) → ordering_then o q ≡ then_by o q
unfolding then_by
then-is Less q = refl
then-is Equal q = refl
then-is Greater q = refl

pub cmp-is : (r s : Row) → slice_cmp nat_cmp r s ≡ row_order r s
unfolding row_order
cmp-is [] [] = refl
cmp-is [] (y ∷ s) = refl
cmp-is (x ∷ r) [] = refl
cmp-is (x ∷ r) (y ∷ s) = ap₂ ordering_then (word-is x y) (cmp-is r s) ∙ then-is (word_order x y) (row_order r s)

-- What the tests of an answer of `row_order` say
module _ (r q : Row) where
  pub behind-is : is_gt (row_order r q) ≡ smaller q r
  behind-is = go (row_order r q) refl
    where
      go : (o : Ordering) → row_order r q ≡ o → is_gt o ≡ smaller q r
      go Less e = sym (less-not-smaller r q e)
      go Equal e = sym (equal-not-smaller r q e)
      go Greater e = sym (greater-smaller r q e)

  pub not-before-is : is_ge (row_order r q) ≡ not_after q r
  not-before-is = go (row_order r q) refl
    where
      go : (o : Ordering) → row_order r q ≡ o → is_ge o ≡ not_after q r
      go Less e = ap not (sym (less-smaller r q e))
      go Equal e = sym (subst (λ (x : Row). not_after x r ≡ true) (order-equal r q e) (T→≡ (not_after r r) (itself r)))
      go Greater e = ap not (sym (smaller-once q r (greater-smaller r q e)))

  pub not-after-is : is_le (row_order r q) ≡ not_after r q
  not-after-is = go (row_order r q) refl
    where
      go : (o : Ordering) → row_order r q ≡ o → is_le o ≡ not_after r q
      go Less e = ap not (sym (less-not-smaller r q e))
      go Equal e = ap not (sym (equal-not-smaller r q e))
      go Greater e = ap not (sym (greater-smaller r q e))

  pub before-is : is_lt (row_order r q) ≡ smaller r q
  unfolding smaller is_less
  before-is = go (row_order r q)
    where
      go : (o : Ordering) → is_lt o ≡ is_less o
      go Less = refl
      go Equal = refl
      go Greater = refl

  pub same-is : is_eq (row_order r q) ≡ same_row r q
  same-is = go (row_order r q) refl
    where
      go : (o : Ordering) → row_order r q ≡ o → is_eq o ≡ same_row r q
      go Less e = sym (order-less-differs r q e)
      go Equal e = sym (order_same r q e)
      go Greater e = sym (order-greater-differs r q e)
