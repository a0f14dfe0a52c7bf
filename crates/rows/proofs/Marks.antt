-- The rows whose places are marked, and those that are spared.
-- Assumes nothing.
use Prim.Native.Nat.{ℕ, suc, ◌+◌, ◌<◌}
use mathlib.Core.Path.{◌≡◌, refl, sym, ap, ap₂, ◌∙◌}
use mathlib.Core.Bool.{Bool, true, false, cond, not}
use mathlib.Core.List.{[], ◌∷◌, ◌++◌}
use native.Mathlib.Nat.{zero-add, suc-add}
use native.Mathlib.Omega.{arith}
use lib.Dec.{T}
use lib.ListN.{length}
use Rattle.lists.specs.Lists.{all}
use Rattle.lists.proofs.Truth.{all_cons, all_first, all_rest}
use Rattle.rows.specs.Rows.{Row, Rows, not_after, rising}
use Rattle.rows.specs.Marks.{marked, spared}
use Rattle.rows.proofs.Sorted.{rising-first, rising-rest, rising-cons, rising_none}

-- Marks that agree
pub marked-alike : (mark mark' : ℕ → Bool) (rows : Rows) → ((i : ℕ) → i < length rows → mark i ≡ mark' i) → marked mark rows ≡ marked mark' rows
unfolding marked
marked-alike mark mark' [] h = refl
marked-alike mark mark' (r ∷ rows) h =
    ap₂ (λ b l. cond b (r ∷ l) l) (h 0 (omega arith)) (marked-alike (λ i. mark (suc i)) (λ i. mark' (suc i)) rows (λ i l. h (suc i) (omega arith)))

pub spared-alike : (mark mark' : ℕ → Bool) (rows : Rows) → ((i : ℕ) → i < length rows → mark i ≡ mark' i) → spared mark rows ≡ spared mark' rows
unfolding spared
spared-alike mark mark' rows h = marked-alike (λ i. not (mark i)) (λ i. not (mark' i)) rows (λ i l. ap not (h i l))

-- no marks
pub spared-none : (mark : ℕ → Bool) (rows : Rows) → ((i : ℕ) → i < length rows → mark i ≡ false) → spared mark rows ≡ rows
unfolding spared marked
spared-none mark [] h = refl
spared-none mark (r ∷ rows) h =
    rw (h 0 (omega arith)) (ap (λ (l : Rows). r ∷ l) (spared-none (λ i. mark (suc i)) rows (λ i l. h (suc i) (omega arith))))

-- the marked rows of rising rows rise
all-marked : (p : Row → Bool) (mark : ℕ → Bool) (rows : Rows) → T (all p rows) → T (all p (marked mark rows))
unfolding marked
all-marked p mark [] h = tt
all-marked p mark (r ∷ rows) h = go (mark 0) (all-marked p (λ i. mark (suc i)) rows (all_rest p r rows h))
  where
    go : (b : Bool) → T (all p (marked (λ i. mark (suc i)) rows))
        → T (all p (cond b (r ∷ marked (λ i. mark (suc i)) rows) (marked (λ i. mark (suc i)) rows)))
    go true ih = all_cons p r (marked (λ i. mark (suc i)) rows) (all_first p r rows h) ih
    go false ih = ih

pub all-spared : (p : Row → Bool) (mark : ℕ → Bool) (rows : Rows) → T (all p rows) → T (all p (spared mark rows))
unfolding spared
all-spared p mark rows h = all-marked p (λ i. not (mark i)) rows h

rising-marked : (mark : ℕ → Bool) (rows : Rows) → T (rising rows) → T (rising (marked mark rows))
unfolding marked
rising-marked mark [] h = rising_none
rising-marked mark (r ∷ rows) h = go (mark 0) (rising-marked (λ i. mark (suc i)) rows (rising-rest r rows h))
  where
    go : (b : Bool) → T (rising (marked (λ i. mark (suc i)) rows))
        → T (rising (cond b (r ∷ marked (λ i. mark (suc i)) rows) (marked (λ i. mark (suc i)) rows)))
    go true ih = rising-cons r (marked (λ i. mark (suc i)) rows) (all-marked (not_after r) (λ i. mark (suc i)) rows (rising-first r rows h)) ih
    go false ih = ih

pub rising-spared : (mark : ℕ → Bool) (rows : Rows) → T (rising rows) → T (rising (spared mark rows))
unfolding spared
rising-spared mark rows h = rising-marked (λ i. not (mark i)) rows h

-- rows before and behind
pub spared-append : (mark : ℕ → Bool) (xs ys : Rows) → spared mark (xs ++ ys) ≡ spared mark xs ++ spared (λ i. mark (length xs + i)) ys
unfolding spared marked
spared-append mark [] ys = marked-alike (λ i. not (mark i)) (λ i. not (mark (0 + i))) ys (λ i l. ap (λ (k : ℕ). not (mark k)) (sym (zero-add i)))
spared-append mark (x ∷ xs) ys = go (not (mark 0)) (spared-append (λ i. mark (suc i)) xs ys ∙ ap (λ (l : Rows). spared (λ i. mark (suc i)) xs ++ l) shift)
  where
    shift : spared (λ i. mark (suc (length xs + i))) ys ≡ spared (λ i. mark (suc (length xs) + i)) ys
    shift = spared-alike _ _ ys (λ i l. ap mark (sym (suc-add (length xs) i)))

    go : (b : Bool) → spared (λ i. mark (suc i)) (xs ++ ys) ≡ spared (λ i. mark (suc i)) xs ++ spared (λ i. mark (suc (length xs) + i)) ys
        → cond b (x ∷ spared (λ i. mark (suc i)) (xs ++ ys)) (spared (λ i. mark (suc i)) (xs ++ ys))
        ≡ cond b (x ∷ spared (λ i. mark (suc i)) xs) (spared (λ i. mark (suc i)) xs) ++ spared (λ i. mark (suc (length xs) + i)) ys
    go true ih = ap (λ (l : Rows). x ∷ l) ih
    go false ih = ih

-- one row that is marked
pub spared-one : (mark : ℕ → Bool) (r : Row) → mark 0 ≡ true → spared mark (r ∷ []) ≡ []
unfolding spared marked
spared-one mark r e = rw e
