-- A region with a row put in or taken out: it is again a region, of the rows with that row put or taken.
-- Assumes nothing.
use Prim.Native.Nat.{ℕ, zero, suc, ◌+◌, ◌-◌, ◌*◌, ◌<◌, ◌≤◌}
use mathlib.Core.Path.{◌≡◌, refl, sym, ap, ap₂, ◌∙◌}
use mathlib.Core.Bool.{Bool, true, false, cond, ◌||◌, true≢false}
use mathlib.Core.List.{List, [], ◌∷◌, ◌++◌, append_assoc}
use native.Mathlib.Nat.{not-suc-le-zero, le_refl, suc-mul, add-mul, mul-le-mul_right, le_of_suc-le-suc}
use native.Mathlib.Omega.{arith}
use native.Mathlib.Numerals.{add-one}
use lib.Dec.{T, eqb}
use lib.ListN.{length, get_or, take, drop, set, replicate, length-replicate, length-append, length-take, length-drop, take-append-drop}
use lib.Seq.{length-take-le, drop_at, drop-drop, set_split, take_all}
use Rattle.lists.specs.Lists.{Words, all, flat}
use Rattle.lists.specs.Totals.{total, one}
use Rattle.lists.proofs.Truth.{all_cons, all_first, all_rest, eqb→≡}
use Rattle.std.specs.Prelude.{Option, Some, None}
use Rattle.rows.specs.Rows.{Row, Rows, cut, smaller, same_row, not_after, rising, put_row, has_row, take_row}
use Rattle.rows.specs.Ranks.{rank, found_row}
use Rattle.rows.specs.Words.{raised, lowered, written, put_words, shut_words}
use Rattle.rows.specs.Regions.{laid, put_at, take_at, Region, Holds}
use Rattle.rows.proofs.Ordered.{chain, smaller-greater, order-greater-differs, false-after, after-false, same_refl}
use Rattle.rows.proofs.Sorted.{rising-first, rising-rest, rising-cons, rising-put}
use Rattle.lists.proofs.Rises.{all-chain}
use Rattle.rows.proofs.Cut.{row_fits, cut-length, cut-cons, cut-split, cut-take, take-cut, drop-cut, flat-cut}
use Rattle.rows.proofs.Search.{smaller-falls, passed-below}
use Rattle.rows.proofs.Moves.{put_is, shut-is}
use Rattle.rows.proofs.Ranks.{place-le, There, found-row, missing-row}

-- Tests of all elements, over parts of a list
module _ {A : Type 0} (p : A → Bool) where
  pub all_drop : (k : ℕ) (xs : List A) → T (all p xs) → T (all p (drop k xs))
  all_drop zero xs h = h
  all_drop (suc k) [] h = tt
  all_drop (suc k) (x ∷ xs) h = all_drop k xs (all_rest p x xs h)

  pub all_take : (k : ℕ) (xs : List A) → T (all p xs) → T (all p (take k xs))
  all_take zero xs h = tt
  all_take (suc k) [] h = tt
  all_take (suc k) (x ∷ xs) h = all_cons p x (take k xs) (all_first p x xs h) (all_take k xs (all_rest p x xs h))

  pub all_append : (xs ys : List A) → T (all p xs) → T (all p ys) → T (all p (xs ++ ys))
  all_append [] ys h k = k
  all_append (x ∷ xs) ys h k = all_cons p x (xs ++ ys) (all_first p x xs h) (all_append xs ys (all_rest p x xs h) k)

pub all-zeros : (k : ℕ) → T (all (eqb 0) (replicate k 0))
all-zeros zero = tt
all-zeros (suc k) = all-zeros k

pub zeros-are : (ws : Words) → T (all (eqb 0) ws) → ws ≡ replicate (length ws) 0
zeros-are [] h = refl
zeros-are (x ∷ ws) h = ap₂ ◌∷◌ (sym (eqb→≡ 0 x (all_first (eqb 0) x ws h))) (zeros-are ws (all_rest (eqb 0) x ws h))

-- A region's every word is known by its rows
pub region-words : (w n : ℕ) (s : Words) → Region w n s → s ≡ laid (length s) (cut w n s)
unfolding laid
region-words w n s g =
    let f : flat (cut w n s) ≡ take (n * w) s = flat-cut w n s in
    let l : length (flat (cut w n s)) ≡ n * w = ap length f ∙ length-take-le (n * w) s g.fits in
    let z : drop (n * w) s ≡ replicate (length s - n * w) 0 = zeros-are (drop (n * w) s) g.zeros ∙ ap (λ (k : ℕ). replicate k 0) (length-drop (n * w) s) in
    sym (take-append-drop (n * w) s) ∙ ap₂ ◌++◌ (sym f) (z ∙ ap (λ (k : ℕ). replicate (length s - k) 0) (sym l))

pub holds : (w n : ℕ) (rows : Rows) (s : Words) → cut w n s ≡ rows → Region w n s → Holds w n rows s
holds w n rows s e g = record { words = region-words w n s g ∙ ap (laid (length s)) e; rows = e; region = g }

-- the same rows, said otherwise
pub holds_same : (w n : ℕ) (rows rows' : Rows) (s : Words) → rows ≡ rows' → Holds w n rows s → Holds w n rows' s
holds_same w n rows rows' s e h = holds w n rows' s (h.rows ∙ e) h.region

-- a region holds its rows, and the rows that a run holds are as many as it says
pub region-holds : (w n : ℕ) (s : Words) → Region w n s → Holds w n (cut w n s) s
region-holds w n s g = holds w n (cut w n s) s refl g

pub holds-count : (w n : ℕ) (rows : Rows) (s : Words) → Holds w n rows s → length rows ≡ n
holds-count w n rows s h = ap length (sym h.rows) ∙ cut-length w n s

-- Putting at the place of a row is putting the row; taking there is taking it
rank-none : (r q : Row) (rows : Rows) → smaller q r ≡ false → T (all (not_after q) rows) → rank r rows ≡ 0
unfolding rank total
rank-none r q [] e h = refl
rank-none r q (s ∷ rows) e h =
    let a : smaller s r ≡ false = after-false r s (all_first (not_after r) s rows (all-chain not_after chain r q (s ∷ rows) (false-after r q e) h)) in
    rw a (omega (arith, rank-none r q rows e (all_rest (not_after q) s rows h)))

pub put-at-rank : (r : Row) (rows : Rows) → T (rising rows) → put_at (rank r rows) r rows ≡ put_row r rows
unfolding put_row rank total
put-at-rank r [] u = refl
put-at-rank r (q ∷ rows) u = go (smaller q r) refl (put-at-rank r rows (rising-rest q rows u))
  where
    go : (b : Bool) → smaller q r ≡ b → put_at (rank r rows) r rows ≡ put_row r rows
        → put_at (one b + rank r rows) r (q ∷ rows) ≡ cond b (q ∷ put_row r rows) (r ∷ (q ∷ rows))
    go true e ih = let m : 1 + rank r rows ≡ suc (rank r rows) = omega arith in rw m (ap (λ (l : Rows). q ∷ l) ih)
    go false e ih = let m : 0 + rank r rows ≡ 0 = omega (arith, rank-none r q rows e (rising-first q rows u)) in rw m

pub take-first : (r : Row) (rows : Rows) (i : ℕ) → i < length rows → get_or rows i [] ≡ r
    → ((j : ℕ) → j < i → same_row r (get_or rows j []) ≡ false) → take_row r rows ≡ take_at i rows
unfolding take_row
take-first r [] i l e f = absurd (not-suc-le-zero l)
take-first r (q ∷ rows) zero l e f = let h : same_row r q ≡ true = rw e (same_refl r) in rw h
take-first r (q ∷ rows) (suc i) l e f =
    let h : same_row r q ≡ false = f 0 (omega arith) in
    rw h (ap (λ (l : Rows). q ∷ l) (take-first r rows i (le_of_suc-le-suc l) e (λ j m. f (suc j) (omega arith))))

pub take-at-rank : (r : Row) (rows : Rows) (i : ℕ) → T (rising rows) → There r rows i → take_row r rows ≡ take_at i rows
unfolding rank
take-at-rank r rows i u t =
    take-first r rows i t.below t.there (λ j l.
    let s : smaller (get_or rows j []) r ≡ true = passed-below (λ q. smaller q r) rows (smaller-falls rows u r) j (omega (arith, t.place)) in
    order-greater-differs r (get_or rows j []) (smaller-greater r (get_or rows j []) s))

pub take_none : (r : Row) (rows : Rows) → has_row r rows ≡ false → take_row r rows ≡ rows
unfolding take_row
take_none r [] e = refl
take_none r (q ∷ rows) e = go (same_row r q) (take_none r rows) e
  where
    go : (b : Bool) → (has_row r rows ≡ false → take_row r rows ≡ rows) → (b || has_row r rows) ≡ false → cond b rows (q ∷ take_row r rows) ≡ q ∷ rows
    go true ih e = absurd (true≢false e)
    go false ih e = ap (λ (l : Rows). q ∷ l) (ih e)

-- rising rows without one of them
all-take_at : (p : Row → Bool) (rows : Rows) (i : ℕ) → T (all p rows) → T (all p (take_at i rows))
all-take_at p rows i h = all_append p (take i rows) (drop (suc i) rows) (all_take p i rows h) (all_drop p (suc i) rows h)

pub rising-take_at : (rows : Rows) (i : ℕ) → T (rising rows) → T (rising (take_at i rows))
rising-take_at [] zero u = u
rising-take_at [] (suc i) u = u
rising-take_at (r ∷ rows) zero u = rising-rest r rows u
rising-take_at (r ∷ rows) (suc i) u =
    rising-cons r (take_at i rows) (all-take_at (not_after r) rows i (rising-first r rows u)) (rising-take_at rows i (rising-rest r rows u))

-- The words: i rows below, b rows above
module _ (w i b : ℕ) (s : Words) where
  put-rows : (r : Row) → (i + b) * w ≤ length s → length r ≡ w → cut w (i + suc b) (put_words w (i + b) i r s) ≡ put_at i r (cut w (i + b) s)
  unfolding put_words
  put-rows r fits len =
      let f = i * w in
      let m : (i + b) * w ≡ f + b * w = add-mul i b w in
      let above : Words = drop f s in
      let tail : Words = take ((i + b) * w - f) above ++ drop ((i + b) * w + w) s in
      let al : (i + b) * w - f ≤ length above = simp length-drop (omega arith) in
      let front : cut w i (take f s ++ (r ++ tail)) ≡ cut w i s = cut-take w i s f (r ++ tail) refl (omega arith) in
      let back : drop f (take f s ++ (r ++ tail)) ≡ r ++ tail = drop_at (take f s) (r ++ tail) f (length-take-le f s (omega arith)) in
      let rest : cut w b tail ≡ cut w b above = cut-take w b above ((i + b) * w - f) (drop ((i + b) * w + w) s) (omega arith) al in
      rw (cut-split w i (suc b) (take f s ++ (r ++ tail)), front, back, cut-cons w b r tail len, rest, take-cut w i b s, drop-cut w i b s)

  shut-rows : (v : Words) → (i + suc b) * w ≤ length s → cut w (i + b) (shut_words w (i + suc b) i v s) ≡ take_at i (cut w (i + suc b) s)
  unfolding shut_words
  shut-rows v fits =
      let f = i * w in
      let n = (i + suc b) * w in
      let m : n ≡ f + w + b * w = omega (arith, add-mul i (suc b) w, suc-mul b w) in
      let above : Words = drop (f + w) s in
      let end : Words = v ++ drop n s in
      let tail : Words = take (n - (f + w)) above ++ end in
      let al : n - (f + w) ≤ length above = simp length-drop (omega arith) in
      let front : cut w i (take f s ++ tail) ≡ cut w i s = cut-take w i s f tail refl (omega arith) in
      let back : drop f (take f s ++ tail) ≡ tail = drop_at (take f s) tail f (length-take-le f s (omega arith)) in
      let rest : cut w b tail ≡ cut w b above = cut-take w b above (n - (f + w)) end (omega arith) al in
      let k : suc i * w ≡ f + w = suc-mul i w in
      let up : drop (suc i) (cut w (i + suc b) s) ≡ cut w b above = (let j : i + suc b ≡ suc i + b = omega arith in rw (j, drop-cut w (suc i) b s, k)) in
      rw (cut-split w i b (take f s ++ tail), front, back, rest, take-cut w i (suc b) s, up)

pub cut-put : (w n i : ℕ) (r : Row) (s : Words) → i ≤ n → n * w ≤ length s → length r ≡ w → cut w (suc n) (put_words w n i r s) ≡ put_at i r (cut w n s)
cut-put w n i r s h fits len =
    let e : i + (n - i) ≡ n = omega arith in
    let e' : i + suc (n - i) ≡ suc n = omega arith in
    rw (e, e') at (put-rows w i (n - i) s r (rw e fits) len)

pub cut-shut : (w n i : ℕ) (v s : Words) → i ≤ n → suc n * w ≤ length s → cut w n (shut_words w (suc n) i v s) ≡ take_at i (cut w (suc n) s)
cut-shut w n i v s h fits =
    let e : i + (n - i) ≡ n = omega arith in
    let e' : i + suc (n - i) ≡ suc n = omega arith in
    rw (e, e') at (shut-rows w i (n - i) s v (rw e' fits))

module _ (w n i : ℕ) (r : Row) (s : Words) (h : i * w ≤ n * w) (fits : n * w + w ≤ length s) (len : length r ≡ w) where
  pub put-length : length (put_words w n i r s) ≡ length s
  unfolding put_words
  put-length = simp (length-append, length-take, length-drop) (omega arith)

  pub put-behind : drop (n * w + w) (put_words w n i r s) ≡ drop (n * w + w) s
  unfolding put_words
  put-behind =
      let head : Words = take (i * w) s ++ (r ++ take (n * w - i * w) (drop (i * w) s)) in
      let hl : length head ≡ n * w + w = simp (length-append, length-take, length-drop) (omega arith) in
      let e : put_words w n i r s ≡ head ++ drop (n * w + w) s = simp append_assoc in
      rw (e, drop_at head (drop (n * w + w) s) (n * w + w) hl)

module _ (w n i : ℕ) (v s : Words) (h : i * w + w ≤ n * w) (fits : n * w ≤ length s) (len : length v ≡ w) where
  pub shut-length : length (shut_words w n i v s) ≡ length s
  unfolding shut_words
  shut-length = simp (length-append, length-take, length-drop) (omega arith)

  pub shut-behind : drop (n * w - w) (shut_words w n i v s) ≡ v ++ drop (n * w) s
  unfolding shut_words
  shut-behind =
      let head : Words = take (i * w) s ++ take (n * w - (i * w + w)) (drop (i * w + w) s) in
      let end : Words = v ++ drop (n * w) s in
      let hl : length head ≡ n * w - w = simp (length-append, length-take, length-drop) (omega arith) in
      let e : shut_words w n i v s ≡ head ++ end = simp append_assoc in
      rw (e, drop_at head end (n * w - w) hl)

-- The whole of `put_at` and of `take_at`
pub region-put : (w n i : ℕ) (r : Row) (s y z : Words) → Region w n s → n * w + w ≤ length s → length r ≡ w → i ≡ rank r (cut w n s)
    → y ≡ raised s (i * w) (n * w) w → z ≡ written y (i * w) r (length r) → Holds w (n + 1) (put_row r (cut w n s)) z
region-put w n i r s y z g fits len e opened over =
    let rows : Rows = cut w n s in
    let le : i ≤ n = place-le w n i r s e in
    let lew : i * w ≤ n * w = mul-le-mul_right w le in
    let ez : z ≡ put_words w n i r s = put_is w n i r s y z lew fits len opened over in
    let m : suc n * w ≡ n * w + w = suc-mul n w in
    let c : cut w (suc n) z ≡ put_row r rows = rw (ez, cut-put w n i r s le g.fits len, e) (put-at-rank r rows g.up) in
    let zl : length z ≡ length s = ap length ez ∙ put-length w n i r s lew fits len in
    let t : T (all (eqb 0) (drop (n * w + w) z)) =
    rw (ez, put-behind w n i r s lew fits len, ← drop-drop w (n * w) s) (all_drop (eqb 0) w (drop (n * w) s) g.zeros) in
    rw add-one (holds w (suc n) (put_row r rows) z c (record { fits = rw m (omega arith); up = rw c (rising-put r rows g.up); zeros = rw m t }))

pub region-take : (w n i : ℕ) (s y z : Words) → Region w n s → i < n → y ≡ lowered s (i * w) (i * w + w) (n * w - (i * w + w))
    → z ≡ written y (n * w - w) (replicate w 0) w → Holds w (n - 1) (take_at i (cut w n s)) z
region-take w zero i s y z g l moved cleared = absurd (not-suc-le-zero l)
region-take w (suc n) i s y z g l moved cleared =
    let rows : Rows = cut w (suc n) s in
    let h : i * w + w ≤ suc n * w = row_fits w (suc n) i (suc n * w) l (le_refl (suc n * w)) in
    let zs : Words = replicate w 0 in
    let len : length zs ≡ w = length-replicate w 0 in
    let ez : z ≡ shut_words w (suc n) i zs s = shut-is w (suc n) i zs s y z h g.fits len moved cleared in
    let c : cut w n z ≡ take_at i rows = rw (ez, cut-shut w n i zs s (omega arith) g.fits) in
    let m : suc n * w - w ≡ n * w = omega (arith, suc-mul n w) in
    let zl : length z ≡ length s = ap length ez ∙ shut-length w (suc n) i zs s h g.fits len in
    let t : T (all (eqb 0) (drop (suc n * w - w) z)) =
    rw (ez, shut-behind w (suc n) i zs s h g.fits len) (all_append (eqb 0) (replicate w 0) (drop (suc n * w) s) (all-zeros w) g.zeros) in
    let p : suc n - 1 ≡ n = omega arith in
    rw p (holds w n (take_at i rows) z c (record {
      fits = omega (arith, suc-mul n w, g.fits);
      up = rw c (rising-take_at rows i g.up);
      zeros = rw m at t;
    }))

-- The whole of `replace`
pub cut-written : (w n i : ℕ) (r : Row) (s : Words) → i < n → n * w ≤ length s → length r ≡ w → cut w n (written s (i * w) r w) ≡ set (cut w n s) i r
unfolding written
cut-written w n i r s l fits len =
    let f = i * w in
    let b = n - suc i in
    let e : i + suc b ≡ n = omega arith in
    let e' : suc i + b ≡ n = omega arith in
    let h : f + w ≤ length s = row_fits w n i (length s) l fits in
    let tail : Words = r ++ drop (f + w) s in
    let t : take f s ++ take w r ++ drop (f + w) s ≡ take f s ++ tail = rw (take_all w r (omega arith), append_assoc) in
    let front : cut w i (take f s ++ tail) ≡ cut w i s = cut-take w i s f tail refl (omega arith) in
    let back : drop f (take f s ++ tail) ≡ tail = drop_at (take f s) tail f (length-take-le f s (omega arith)) in
    let k : suc i * w ≡ f + w = suc-mul i w in
    let a : take i (cut w n s) ≡ cut w i s = rw e at (take-cut w i (suc b) s) in
    let d : drop (suc i) (cut w n s) ≡ cut w b (drop (f + w) s) = rw (e', k) at (drop-cut w (suc i) b s) in
    let c : cut w (i + suc b) (take f s ++ tail) ≡ cut w i s ++ (r ∷ cut w b (drop (f + w) s)) =
    rw (cut-split w i (suc b) (take f s ++ tail), front, back, cut-cons w b r (drop (f + w) s) len) in
    ap (cut w n) t ∙ (rw e at c) ∙ sym (rw (set_split (cut w n s) i r (rw cut-length l), a, d))

pub written_behind : (w n i : ℕ) (r : Row) (s : Words) → i < n → n * w ≤ length s → length r ≡ w
    → drop (n * w) (written s (i * w) r w) ≡ drop (n * w) s
unfolding written
written_behind w n i r s l fits len =
    let f = i * w in
    let h : f + w ≤ n * w = row_fits w n i (n * w) l (le_refl (n * w)) in
    let head : Words = take f s ++ take w r in
    let hl : length head ≡ f + w = simp (length-append, length-take) (omega arith) in
    let m : f + w + (n * w - (f + w)) ≡ n * w = omega arith in
    rw (← m, ← drop-drop (n * w - (f + w)) (f + w) (head ++ drop (f + w) s), ← drop-drop (n * w - (f + w)) (f + w) s, drop_at head (drop (f + w) s) (f + w) hl)

pub written-long : (w n i : ℕ) (r : Row) (s : Words) → i < n → n * w ≤ length s → length r ≡ w → length (written s (i * w) r w) ≡ length s
unfolding written
written-long w n i r s l fits len =
    let h : i * w + w ≤ n * w = row_fits w n i (n * w) l (le_refl (n * w)) in
    simp (length-append, length-take, length-drop) (omega arith)

pub region-replace : (w n i : ℕ) (r : Row) (s z : Words) → Region w n s → i < n → length r ≡ w → T (rising (set (cut w n s) i r))
    → z ≡ written s (i * w) r (length r) → Holds w n (set (cut w n s) i r) z
region-replace w n i r s z g l len u ez' =
    let ez : z ≡ written s (i * w) r w = ez' ∙ ap (written s (i * w) r) len in
    let c : cut w n z ≡ set (cut w n s) i r = rw ez (cut-written w n i r s l g.fits len) in
    let zl : length z ≡ length s = ap length ez ∙ written-long w n i r s l g.fits len in
    let d : drop (n * w) z ≡ drop (n * w) s = ap (drop (n * w)) ez ∙ written_behind w n i r s l g.fits len in
    holds w n (set (cut w n s) i r) z c (record { fits = omega (arith, g.fits); up = rw c u; zeros = rw d g.zeros })

-- `take`: by what `find` answered
module _ (w n : ℕ) (r : Row) (s : Words) (f : Option ℕ) (g : Region w n s) (e : f ≡ found_row r (cut w n s)) where
  pub found_below : (k : ℕ) → f ≡ Some k → k < n
  found_below k q = omega (arith, (found-row r (cut w n s) k g.up (sym q ∙ e)).below, cut-length w n s)

  pub take_found : (k : ℕ) (z : Words) → f ≡ Some k → Holds w (n - 1) (take_at k (cut w n s)) z → Holds w (n - 1) (take_row r (cut w n s)) z
  take_found k z q h =
      holds_same w (n - 1) (take_at k (cut w n s)) (take_row r (cut w n s)) z
      (sym (take-at-rank r (cut w n s) k g.up (found-row r (cut w n s) k g.up (sym q ∙ e)))) h

  pub take-missing : f ≡ None → Holds w n (take_row r (cut w n s)) s
  take-missing q =
      holds_same w n (cut w n s) (take_row r (cut w n s)) s (sym (take_none r (cut w n s) (missing-row r (cut w n s) (sym q ∙ e)))) (region-holds w n s g)
