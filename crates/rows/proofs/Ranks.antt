-- What the place of a row says: whether it stands among rising rows, where, and how many equal it.
-- Assumes nothing.
use Prim.Native.Nat.{ℕ, suc, ◌+◌, ◌-◌, ◌*◌, ◌<◌, ◌≤◌, zero-le, suc-le-suc}
use mathlib.Core.Path.{◌≡◌, refl, sym, ap, ◌∙◌, subst}
use mathlib.Core.Bool.{Bool, true, false, cond, true≢false}
use mathlib.Core.List.{List, [], ◌∷◌}
use mathlib.Core.Logic.{inl, inr}
use native.Mathlib.Omega.{arith}
use lib.Dec.{T, ltb, eqb}
use lib.ListN.{length, get_or}
use borrow.Author.Tests.{ltb-true, ltb-false, le-ltb, eq-eqb}
use Rattle.lists.specs.Lists.{Words, at, Mem, any}
use Rattle.lists.specs.Totals.{total, one}
use Rattle.lists.proofs.Truth.{is_t, T→≡, F→≡, false→F, any-get, any-make, mem-get_or, eq→eqb, eqb→≡}
use Rattle.lists.proofs.Totals.{total-sum, total-same, any-total}
use Rattle.lists.proofs.Search.{Falls, many-le}
use Rattle.std.specs.declared.cmp.Ordering.{Ordering}
use Rattle.std.specs.declared.cmp.Ordering.TheVariants.{Less, Equal, Greater}
use Rattle.std.specs.Prelude.{Some, None}
use Rattle.std.specs.Bool.{then_some}
use Rattle.std.specs.Ordering.{is_eq}
use Rattle.rows.specs.Rows.{Row, Rows, key, cut, row_order, smaller, same_row, not_after, rising, has_row, has_key}
use Rattle.rows.specs.Ranks.{rank, rank_after, times, rank_key, found_row, found_key}
use Rattle.rows.specs.Words.{row}
use Rattle.rows.proofs.Ordered.{itself, same-is, same→≡, ≡→same, order_same, order-less-differs, order-greater-differs, order-equal, smaller-itself}
use Rattle.rows.proofs.Ordered.{neither-smaller, after-false, smaller-once, less-smaller, greater-smaller, less-not-smaller, equal-not-smaller}
use Rattle.rows.proofs.Cut.{cut-length, cut_at}
use Rattle.rows.proofs.Search.{rising-at, key-up, smaller-falls, not-after-falls, key-falls, passed-below, passed-above, failed-from, row-key}

-- where a member of a list stands
pub mem-at : {A : Type 0} (d x : A) (xs : List A) → Mem x xs → (i : ℕ) × (i < length xs) × (get_or xs i d ≡ x)
mem-at d x [] m = absurd m
mem-at d x (y ∷ xs) (inl e) = (0, suc-le-suc zero-le, sym e)
mem-at d x (y ∷ xs) (inr m) = let p = mem-at d x xs m in (suc p.0, suc-le-suc p.1, p.2)

-- a row with what those that pass a falling test have not stands behind them
behind-passed : (p : Row → Bool) (rows : Rows) → Falls (λ i. p (get_or rows i [])) (length rows)
    → (has : Row → Bool) → ((q : Row) → T (has q) → p q ≡ false) → T (any has rows)
    → (j : ℕ) × (total (λ q. one (p q)) rows ≤ j) × (j < length rows) × T (has (get_or rows j []))
behind-passed p rows f has fails h =
    let x = any-get has rows h in
    let place = mem-at [] x.0 rows x.1 in
    let here : T (has (get_or rows place.0 [])) = rw place.2 x.2 in
    (place.0, failed-from p rows f place.0 (fails (get_or rows place.0 []) here), place.1, here)

pub rank-le : (r : Row) (rows : Rows) → rank r rows ≤ length rows
unfolding rank
rank-le r rows = many-le (λ q. smaller q r) rows

pub rank_key-le : (k : ℕ) (rows : Rows) → rank_key k rows ≤ length rows
unfolding rank_key
rank_key-le k rows = many-le (λ q. ltb (key q) k) rows

-- the place of a row among the rows of a run
pub place-le : (w n k : ℕ) (r : Row) (s : Words) → k ≡ rank r (cut w n s) → k ≤ n
place-le w n k r s e = rw (← cut-length w n s, e) (rank-le r (cut w n s))

pub place-key-le : (w n p k : ℕ) (s : Words) → p ≡ rank_key k (cut w n s) → p ≤ n
place-key-le w n p k s e = rw (← cut-length w n s, e) (rank_key-le k (cut w n s))

-- the rows that equal r stand from its place on
pub rank-times : (r : Row) (rows : Rows) → rank_after r rows ≡ rank r rows + times r rows
unfolding rank_after rank times
rank-times r rows =
    total-same (λ q. one (not_after q r)) (λ q. one (smaller q r) + one (same_row r q)) rows (λ q m. each q (row_order r q) refl)
    ∙ total-sum (λ q. one (smaller q r)) (λ q. one (same_row r q)) rows
  where
    each : (q : Row) (o : Ordering) → row_order r q ≡ o → one (not_after q r) ≡ one (smaller q r) + one (same_row r q)
    each q Less e = rw (less-smaller r q e, less-not-smaller r q e, order-less-differs r q e)
    each q Equal e =
        let a : smaller r q ≡ false = subst (λ (x : Row). smaller r x ≡ false) (order-equal r q e) (smaller-itself r) in
        rw (a, equal-not-smaller r q e, order_same r q e)
    each q Greater e =
        let a : smaller r q ≡ false = smaller-once q r (greater-smaller r q e) in
        rw (a, greater-smaller r q e, order-greater-differs r q e)

pub equal-between : (r : Row) (rows : Rows) (first end : ℕ) → first ≡ rank r rows → end ≡ rank_after r rows → (first ≤ end) × (end - first ≡ times r rows)
equal-between r rows first end e f = (omega (arith, rank-times r rows), omega (arith, rank-times r rows))

pub rank_after-le : (r : Row) (rows : Rows) → rank r rows + times r rows ≤ length rows
unfolding rank_after
rank_after-le r rows = rw (← rank-times r rows) (many-le (λ q. not_after q r) rows)

-- row j from the place of r on, below the rows after it, is r; and r stands at its place if at all
module _ (r : Row) (rows : Rows) (u : T (rising rows)) where
  pub equal-at : (j : ℕ) → rank r rows ≤ j → j < rank r rows + times r rows → get_or rows j [] ≡ r
  unfolding rank rank_after
  equal-at j h l =
      let m : j < length rows = omega (arith, rank_after-le r rows) in
      let k : j < rank_after r rows = rw (rank-times r rows) l in
      let a : smaller (get_or rows j []) r ≡ false = passed-above (λ q. smaller q r) rows (smaller-falls rows u r) j h m in
      let b : not_after (get_or rows j []) r ≡ true = passed-below (λ q. not_after q r) rows (not-after-falls rows u r) j k in
      neither-smaller (get_or rows j []) r a (after-false (get_or rows j []) r (is_t b))

  pub equal-place : (j : ℕ) → j < length rows → get_or rows j [] ≡ r → (rank r rows ≤ j) × (j < rank r rows + times r rows)
  unfolding rank rank_after
  equal-place j m e = (
    failed-from (λ q. smaller q r) rows (smaller-falls rows u r) j (rw e (smaller-itself r)),
    rw (← rank-times r rows) (below (ltb j (rank_after r rows)) refl),
  )
    where
      below : (b : Bool) → ltb j (rank_after r rows) ≡ b → j < rank_after r rows
      below true g = ltb-true j (rank_after r rows) g
      below false g =
          let l : rank_after r rows ≤ j = ltb-false j (rank_after r rows) g in
          let a : not_after (get_or rows j []) r ≡ false = passed-above (λ q. not_after q r) rows (not-after-falls rows u r) j l m in
          absurd (false→F (rw e at a) (itself r))

  pub rank-at : T (has_row r rows) → (rank r rows < length rows) × (get_or rows (rank r rows) [] ≡ r)
  unfolding rank
  rank-at h =
      let later = behind-passed (λ q. smaller q r) rows (smaller-falls rows u r) (same_row r) (λ q k. rw (← same→≡ r q k) (smaller-itself r)) h in
      let lt : rank r rows < length rows = omega (arith, later.1, later.2) in
      let first : Row = get_or rows (rank r rows) [] in
      let is : r ≡ get_or rows later.0 [] = same→≡ r (get_or rows later.0 []) later.3 in
      let a : smaller first r ≡ false = passed-above (λ q. smaller q r) rows (smaller-falls rows u r) (rank r rows) (omega arith) lt in
      let b : T (not_after first r) = rw (← is) at (rising-at rows u (rank r rows) later.0 later.1 later.2) in
      (lt, neither-smaller first r a (after-false first r b))

-- the same of a key
pub rank_key-at : (k : ℕ) (rows : Rows) → T (rising rows) → T (has_key k rows) → (rank_key k rows < length rows) × (key (get_or rows (rank_key k rows) []) ≡ k)
unfolding rank_key
rank_key-at k rows u h =
    let fails : (q : Row) → T (eqb k (key q)) → ltb (key q) k ≡ false = λ q e. le-ltb (key q) k (omega (arith, eqb→≡ k (key q) e)) in
    let later = behind-passed (λ q. ltb (key q) k) rows (key-falls rows u k) (λ q. eqb k (key q)) fails h in
    let lt : rank_key k rows < length rows = omega (arith, later.1, later.2) in
    let first : Row = get_or rows (rank_key k rows) [] in
    let last : Row = get_or rows later.0 [] in
    let a : k ≤ key first = ltb-false (key first) k (passed-above (λ q. ltb (key q) k) rows (key-falls rows u k) (rank_key k rows) (omega arith) lt) in
    let b : key first ≤ key last = key-up first last (rising-at rows u (rank_key k rows) later.0 later.1 later.2) in
    (lt, omega (arith, eqb→≡ k (key last) later.3))

-- Found or missing, by what stands at the place
found-yes : (r : Row) (rows : Rows) (k : ℕ) → k ≡ rank r rows → k < length rows → get_or rows k [] ≡ r → Some k ≡ found_row r rows
unfolding found_row
found-yes r rows k e l q =
    let has : T (has_row r rows) = any-make (same_row r) rows (get_or rows k []) (mem-get_or [] rows k l) (≡→same r (get_or rows k []) (sym q)) in
    rw (T→≡ (has_row r rows) has) (ap Some e)

found-no : (r : Row) (rows : Rows) (k : ℕ) → T (rising rows) → k ≡ rank r rows → (k < length rows → get_or rows k [] ≡ r → ⊥) → None ≡ found_row r rows
unfolding found_row
found-no r rows k u e f =
    let h : has_row r rows ≡ false = F→≡ (has_row r rows) (λ h. let p = rank-at r rows u h in f (omega (arith, p.0)) (rw e p.1)) in
    rw h

-- `find`: the place is behind all rows; the row there is r; it is another
module _ (w n k : ℕ) (r : Row) (s : Words) (u : T (rising (cut w n s))) (e : k ≡ rank r (cut w n s)) where
  pub find-end : n ≤ k → None ≡ found_row r (cut w n s)
  find-end h = found-no r (cut w n s) k u e (λ l q. omega (arith, cut-length w n s))

  find-other : k < n → same_row r (row w k s) ≡ false → None ≡ found_row r (cut w n s)
  find-other l d = found-no r (cut w n s) k u e (λ m q. absurd (true≢false (sym (T→≡ _ (≡→same r (row w k s) (sym q ∙ cut_at w n s k l))) ∙ d)))

  -- whether the row there equals r says whether r is there
  pub find-there : (b : Bool) → k < n → b ≡ is_eq (row_order r (row w k s)) → then_some b k ≡ found_row r (cut w n s)
  find-there true l f =
      found-yes r (cut w n s) k e (rw cut-length l) (cut_at w n s k l ∙ sym (same→≡ r (row w k s) (is_t (sym (f ∙ same-is r (row w k s))))))
  find-there false l f = find-other l (sym (f ∙ same-is r (row w k s)))

-- `find_key`
module _ (w n p k : ℕ) (s : Words) (u : T (rising (cut w n s))) (e : p ≡ rank_key k (cut w n s)) where
  key-no : (p < n → key (row w p s) ≡ k → ⊥) → None ≡ found_key k (cut w n s)
  unfolding found_key
  key-no f =
      let h : has_key k (cut w n s) ≡ false = F→≡ (has_key k (cut w n s)) (λ h.
      let q = rank_key-at k (cut w n s) u h in
      let l : p < n = omega (arith, q.0, cut-length w n s) in
      f l (rw (← cut_at w n s p l, e) q.1)) in
      rw h

  pub key-end-missing : n ≤ p → None ≡ found_key k (cut w n s)
  key-end-missing h = key-no (λ l q. omega arith)

  -- whether the key there is k says whether k is there
  pub key-there : (b : Bool) → 0 < w → p < n → b ≡ eqb (at s (p * w)) k → then_some b p ≡ found_key k (cut w n s)
  unfolding found_key
  key-there true pos l f =
      let rows : Rows = cut w n s in
      let m : Mem (get_or rows p []) rows = mem-get_or [] rows p (rw cut-length l) in
      let g : k ≡ key (get_or rows p []) = rw (cut_at w n s p l) (sym (row-key w p s pos ∙ eqb→≡ _ _ (is_t (sym f)))) in
      let h : has_key k rows ≡ true = T→≡ (has_key k rows) (any-make (λ r. eqb k (key r)) rows (get_or rows p []) m (eq→eqb g)) in
      rw h (ap Some e)
  key-there false pos l f = key-no (λ h q. true≢false (sym (eq-eqb _ _ (sym (row-key w p s pos) ∙ q)) ∙ sym f))

-- What `find` and `find_key` say to their callers: i is the place, one of n, and what is looked for stands there
pub record Standing (found : Bool) (k n : ℕ) (P : ℕ → Type 0) (i : ℕ) : Type 0 where
  pub has : T found
  pub place : i ≡ k
  pub below : i < n
  pub there : P i

standing : (b : Bool) (k n : ℕ) (P : ℕ → Type 0) (i : ℕ) → (T b → (k < n) × P k) → Some i ≡ cond b (Some k) None → Standing b k n P i
standing true k n P i h e =
    let q : i ≡ k = cc in
    record { has = tt; place = q; below = rw q (h tt).0; there = subst P (sym q) (h tt).1 }
standing false k n P i h e = let z : ◌≡◌ {A = ℕ} 0 1 = cc in absurd (omega arith)

missing : (b : Bool) (k : ℕ) → None ≡ cond b (Some k) None → b ≡ false
missing true k e = let z : ◌≡◌ {A = ℕ} 0 1 = cc in absurd (omega arith)
missing false k e = refl

abbrev pub There : Row → Rows → ℕ → Type 0
There r rows i = Standing (has_row r rows) (rank r rows) (length rows) (λ j. get_or rows j [] ≡ r) i

pub found-row : (r : Row) (rows : Rows) (i : ℕ) → T (rising rows) → Some i ≡ found_row r rows → There r rows i
unfolding found_row
found-row r rows i u e = standing (has_row r rows) (rank r rows) (length rows) (λ j. get_or rows j [] ≡ r) i (rank-at r rows u) e

pub missing-row : (r : Row) (rows : Rows) → None ≡ found_row r rows → has_row r rows ≡ false
unfolding found_row
missing-row r rows e = missing (has_row r rows) (rank r rows) e

abbrev pub ThereKey : ℕ → Rows → ℕ → Type 0
ThereKey k rows i = Standing (has_key k rows) (rank_key k rows) (length rows) (λ j. key (get_or rows j []) ≡ k) i

pub found-key : (k : ℕ) (rows : Rows) (i : ℕ) → T (rising rows) → Some i ≡ found_key k rows → ThereKey k rows i
unfolding found_key
found-key k rows i u e = standing (has_key k rows) (rank_key k rows) (length rows) (λ j. key (get_or rows j []) ≡ k) i (rank_key-at k rows u) e

pub missing-key : (k : ℕ) (rows : Rows) → None ≡ found_key k rows → has_key k rows ≡ false
unfolding found_key
missing-key k rows e = missing (has_key k rows) (rank_key k rows) e

-- a row stands among rows if it does at all so often
pub has-times : (r : Row) (rows : Rows) → has_row r rows ≡ ltb 0 (times r rows)
unfolding times
has-times r rows = any-total (same_row r) rows
