-- Binary search among rows, for any test that is passed up to some row and by none after it.
-- Assumes nothing.
use Prim.Native.Nat.{ℕ, ◌-◌, ◌*◌, ◌<◌, ◌≤◌, zero-le}
use mathlib.Core.Path.{◌≡◌, refl, sym, ap, ◌∙◌, subst}
use mathlib.Core.Bool.{Bool, true, false, true≢false}
use mathlib.Core.List.{[], ◌∷◌}
use native.Mathlib.Nat.{add-zero}
use native.Mathlib.Omega.{arith}
use lib.Dec.{T, ltb}
use lib.ListN.{length, get_or}
use borrow.Author.Tests.{ltb-true, ltb-false, lt-ltb}
use Rattle.lists.specs.Lists.{Words, at}
use Rattle.lists.specs.Totals.{total, one}
use Rattle.lists.proofs.Truth.{is_t, T→≡}
use Rattle.lists.proofs.Rises.{rises-to}
use Rattle.lists.proofs.Search.{Falls, Bracket, bracket-end, falls-on, counted}
use Rattle.rows.specs.Rows.{Row, Rows, key, cut, row_order, then_by, is_less, smaller, not_after, rising}
use Rattle.rows.specs.Ranks.{Edge}
use Rattle.rows.specs.Words.{row}
use Rattle.rows.proofs.Ordered.{Compared, lt, eq, gt, compared, word-less}
use Rattle.rows.proofs.Ordered.{itself, smaller-after, after-false, chain}
use Rattle.rows.proofs.Cut.{cut-length, cut_at, row_at}
use Rattle.rows.proofs.Pairs.{rising-is}

-- row i of rising rows is not after row j
pub rising-at : (rows : Rows) → T (rising rows) → (i j : ℕ) → i ≤ j → j < length rows → T (not_after (get_or rows i []) (get_or rows j []))
rising-at rows u i j h l = rises-to not_after itself [] rows (subst T (rising-is rows) u) i j h l

-- the keys of rising rows rise
pub key-up : (r s : Row) → T (not_after r s) → key r ≤ key s
unfolding smaller row_order then_by is_less
key-up [] s h = zero-le
key-up (x ∷ r) [] h = absurd h
key-up (x ∷ r) (y ∷ s) h = go (compared x y)
  where
    go : Compared x y → x ≤ y
    go (lt l) = omega arith
    go (eq l) = omega arith
    go (gt l) = absurd (rw (word-less y x l) at h)

-- tests that a row passes if a later one does
module _ (rows : Rows) (u : T (rising rows)) where
  pub smaller-falls : (r : Row) → Falls (λ i. smaller (get_or rows i []) r) (length rows)
  smaller-falls r i j h l e =
      smaller-after (get_or rows j []) (get_or rows i []) r e (after-false (get_or rows i []) (get_or rows j []) (rising-at rows u i j h l))

  pub not-after-falls : (r : Row) → Falls (λ i. not_after (get_or rows i []) r) (length rows)
  not-after-falls r i j h l e =
      T→≡ (not_after (get_or rows i []) r) (chain (get_or rows i []) (get_or rows j []) r (rising-at rows u i j h l) (is_t e))

  pub key-falls : (k : ℕ) → Falls (λ i. ltb (key (get_or rows i [])) k) (length rows)
  key-falls k i j h l e =
      let a : key (get_or rows i []) ≤ key (get_or rows j []) = key-up (get_or rows i []) (get_or rows j []) (rising-at rows u i j h l) in
      let b : key (get_or rows j []) < k = ltb-true (key (get_or rows j [])) k e in
      lt-ltb (key (get_or rows i [])) k (omega arith)

-- how many pass says which pass
module _ (p : Row → Bool) (rows : Rows) (f : Falls (λ i. p (get_or rows i [])) (length rows)) where
  pub passed-below : (j : ℕ) → j < total (λ q. one (p q)) rows → p (get_or rows j []) ≡ true
  passed-below j l = (counted p [] rows f).below j l

  pub passed-above : (j : ℕ) → total (λ q. one (p q)) rows ≤ j → j < length rows → p (get_or rows j []) ≡ false
  passed-above j h l = (counted p [] rows f).above j h l

  pub failed-from : (j : ℕ) → p (get_or rows j []) ≡ false → total (λ q. one (p q)) rows ≤ j
  failed-from j e = go (ltb j (total (λ q. one (p q)) rows)) refl
    where
      go : (b : Bool) → ltb j (total (λ q. one (p q)) rows) ≡ b → total (λ q. one (p q)) rows ≤ j
      go true g = absurd (true≢false (sym (passed-below j (ltb-true j (total (λ q. one (p q)) rows) g)) ∙ e))
      go false g = ltb-false j (total (λ q. one (p q)) rows) g

-- at the edge of a test that falls a bracket is closed, and there is only one such place
module _ (p : ℕ → Bool) (n k : ℕ) (f : Falls p n) {answers : ℕ → Bool → Type 0} (e : Edge answers n k)
    (says : (i : ℕ) (b : Bool) → i < n → answers i b → b ≡ p i) where
  pub edge_closed : Bracket p n k k
  edge_closed =
      record {
        low = omega arith;
        high = e.inside;
        below = λ i l. f i (k - 1) (omega arith) (omega (arith, e.inside)) (sym (says (k - 1) true (omega (arith, e.inside)) (e.under (k - 1) (omega arith))));
        above = λ i h l. falls-on p n f k i h l (sym (says k false (omega arith) (e.over (omega arith))));
      }

  pub edge-end : (m : ℕ) → Bracket p n m m → k ≡ m
  edge-end m c = bracket-end p n k k m edge_closed (omega arith) c

-- The search among the n rows of a run ends where as many rows stand as pass: `says` is what an answer of its test says of a row
pub edge-is : (p : Row → Bool) (w n : ℕ) (s : Words) → Falls (λ i. p (get_or (cut w n s) i [])) (length (cut w n s)) → {answers : ℕ → Bool → Type 0} (k : ℕ)
    → Edge answers n k → ((i : ℕ) (b : Bool) → i < n → answers i b → b ≡ p (row w i s)) → k ≡ total (λ q. one (p q)) (cut w n s)
edge-is p w n s f k e says =
    edge-end _ n k (subst (Falls (λ i. p (get_or (cut w n s) i []))) (cut-length w n s) f) e
    (λ i b l a. says i b l a ∙ ap p (sym (cut_at w n s i l)))
    _ (rw (cut-length w n s) at (counted p [] (cut w n s) f))

-- the key of row i is its first word
pub row-key : (w i : ℕ) (s : Words) → 0 < w → key (row w i s) ≡ at s (i * w)
row-key w i s h = row_at w i s 0 h ∙ ap (at s) (add-zero (i * w))
