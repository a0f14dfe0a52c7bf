-- Many rows taken out or put in: how often each row is left, so that their order does not matter.
-- Assumes nothing.
use Prim.Native.Nat.{ℕ, ◌+◌, ◌-◌, ◌≤◌}
use mathlib.Core.Path.{◌≡◌, refl, sym, ap, ap₂, ◌∙◌, subst}
use mathlib.Core.Bool.{Bool, true, false, cond, ◌&&◌}
use mathlib.Core.List.{[], ◌∷◌, ◌++◌}
use native.Mathlib.Omega.{arith}
use lib.Dec.{T}
use lib.ListN.{length}
use borrow.Author.Tests.{lt-ltb}
use Rattle.lists.specs.Totals.{total, one, Same}
use Rattle.lists.proofs.Truth.{is_t, same_test, and_both}
use Rattle.lists.proofs.Totals.{total-length}
use Rattle.rows.specs.Rows.{Row, Rows, same_row, rising, put_rows, has_row, has_rows, take_row, take_rows}
use Rattle.rows.specs.Ranks.{times}
use Rattle.rows.proofs.Ordered.{same→≡, same_refl}
use Rattle.rows.proofs.Sorted.{rising-takes, total-puts, same-times, same_takes}
use Rattle.rows.proofs.Ranks.{has-times}

-- How often a row is left
pub times-take : (q r : Row) (rows : Rows) → times q (take_row r rows) ≡ times q rows - one (same_row q r)
unfolding times total take_row
times-take q r [] = omega arith
times-take q r (s ∷ rows) = go (same_row r s) refl (times-take q r rows)
  where
    go : (b : Bool) → same_row r s ≡ b → times q (take_row r rows) ≡ times q rows - one (same_row q r)
        → times q (cond b rows (s ∷ take_row r rows)) ≡ one (same_row q s) + times q rows - one (same_row q r)
    go true e ih = let same : one (same_row q s) ≡ one (same_row q r) = ap (λ x. one (same_row q x)) (sym (same→≡ r s (is_t e))) in omega arith
    go false e ih = other (same_row q r) refl ih
      where
        other : (c : Bool) → same_row q r ≡ c → times q (take_row r rows) ≡ times q rows - one c
            → one (same_row q s) + times q (take_row r rows) ≡ one (same_row q s) + times q rows - one c
        other true g ih = let d : one (same_row q s) ≡ 0 = ap one (ap (λ x. same_row x s) (same→≡ q r (is_t g)) ∙ e) in omega arith
        other false g ih = omega arith

pub times-takes : (q : Row) (xs rows : Rows) → times q (take_rows xs rows) ≡ times q rows - times q xs
unfolding times total take_rows
times-takes q [] rows = omega arith
times-takes q (x ∷ xs) rows = omega (arith, times-takes q xs (take_row x rows), times-take q x rows)

-- so what is taken may be taken in any order
pub takes_same : (xs ys rows : Rows) → T (rising rows) → Same xs ys → take_rows xs rows ≡ take_rows ys rows
unfolding times
takes_same xs ys rows u h =
    same-times _ _ (rising-takes xs rows u) (rising-takes ys rows u)
    (λ q. times-takes q xs rows ∙ ap (λ k. times q rows - k) (h (λ s. one (same_row q s))) ∙ sym (times-takes q ys rows))

-- rows stand among others as often exactly if each does
pub has-count : (xs rows : Rows) → T (has_rows xs rows) → (q : Row) → times q xs ≤ times q rows
unfolding times
has-count xs rows h q = omega (arith, same_takes xs rows h (λ s. one (same_row q s)))

pub count-has : (xs rows : Rows) → ((q : Row) → times q xs ≤ times q rows) → T (has_rows xs rows)
unfolding has_rows times total
count-has [] rows h = tt
count-has (x ∷ xs) rows h =
    let one-x : one (same_row x x) ≡ 1 = ap one (same_refl x) in
    let has : has_row x rows ≡ true = has-times x rows ∙ lt-ltb 0 (times x rows) (omega (arith, h x)) in
    and_both (has_row x rows) (has_rows xs (take_row x rows)) (is_t has) (count-has xs (take_row x rows) (λ q. omega (arith, h q, times-take q x rows)))

pub has_same : (xs ys rows : Rows) → Same xs ys → has_rows xs rows ≡ has_rows ys rows
unfolding times
has_same xs ys rows h =
    same_test (has_rows xs rows) (has_rows ys rows)
    (λ k. count-has ys rows (λ q. subst (λ (n : ℕ). n ≤ times q rows) (same q) (has-count xs rows k q)))
    (λ k. count-has xs rows (λ q. subst (λ (n : ℕ). n ≤ times q rows) (sym (same q)) (has-count ys rows k q)))
  where
    same : (q : Row) → times q xs ≡ times q ys
    same q = h (λ s. one (same_row q s))

-- One row more at the end
pub takes-snoc : (xs : Rows) (r : Row) (rows : Rows) → take_rows (xs ++ (r ∷ [])) rows ≡ take_row r (take_rows xs rows)
unfolding take_rows
takes-snoc [] r rows = refl
takes-snoc (x ∷ xs) r rows = takes-snoc xs r (take_row x rows)

pub has-append : (xs ys rows : Rows) → has_rows (xs ++ ys) rows ≡ (has_rows xs rows && has_rows ys (take_rows xs rows))
unfolding take_rows has_rows
has-append [] ys rows = refl
has-append (x ∷ xs) ys rows = ap (λ b. has_row x rows && b) (has-append xs ys (take_row x rows)) ∙ assoc (has_row x rows) _ _
  where
    assoc : (a b c : Bool) → (a && (b && c)) ≡ ((a && b) && c)
    assoc true b c = refl
    assoc false b c = refl

pub has-snoc : (xs : Rows) (r : Row) (rows : Rows) → has_rows (xs ++ (r ∷ [])) rows ≡ (has_rows xs rows && has_row r (take_rows xs rows))
unfolding has_rows
has-snoc xs r rows = has-append xs (r ∷ []) rows ∙ ap (λ b. has_rows xs rows && b) (last (has_row r (take_rows xs rows)))
  where
    last : (b : Bool) → (b && true) ≡ b
    last true = refl
    last false = refl

-- Lengths
pub length-puts : (xs rows : Rows) → length (put_rows xs rows) ≡ length xs + length rows
length-puts xs rows = sym (total-length (put_rows xs rows)) ∙ total-puts (λ x. 1) xs rows ∙ ap₂ ◌+◌ (total-length xs) (total-length rows)

pub length-takes : (xs rows : Rows) → T (has_rows xs rows) → length xs + length (take_rows xs rows) ≡ length rows
length-takes xs rows h = ap₂ ◌+◌ (sym (total-length xs)) (sym (total-length (take_rows xs rows))) ∙ sym (same_takes xs rows h (λ x. 1)) ∙ total-length rows
