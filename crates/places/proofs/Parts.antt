-- Where the parts lie: one behind the other from the ninth word on, none over another; and what is read of a store, or written into one, part by part.
-- Assumes nothing.
use Prim.Native.Nat.{ℕ, zero, suc, ◌+◌, ◌-◌, ◌<◌, ◌≤◌}
use mathlib.Core.Path.{◌≡◌, refl, sym, ap, ◌∙◌}
use mathlib.Core.Bool.{Bool, true, false, cond}
use mathlib.Core.List.{◌++◌, map}
use mathlib.Core.Logic.{◌⊎◌, inl, inr, ⊎_elim}
use native.Mathlib.Nat.{not-suc-le-zero}
use native.Mathlib.Omega.{arith}
use lib.Dec.{T, ltb, ltb→lt}
use lib.ListN.{length, take, drop, set, take-append-drop, length-drop}
use lib.Seq.{take_all, drop-set-lt, get_or-set_same, get_or-set_other}
use borrow.Author.Tests.{ltb-true, ltb-false, lt-ltb, le-ltb}
use Rattle.lists.specs.Lists.{Words, at, flat, sum}
use Rattle.lists.specs.Parts.{part, splice}
use Rattle.lists.proofs.Truth.{F→≡, decided}
use Rattle.lists.proofs.Parts.{length_part, part-after}
use Rattle.meaning.specs.Sheet.{Sheet}
use Rattle.meaning.specs.Plan.{size, start, store_length}
use Rattle.meaning.specs.Store.{parts_of, count, part_words}
use Rattle.laws.specs.Sheets.{Good}
use Rattle.laws.proofs.Lists.{here-or, blocks}
use Rattle.laws.proofs.Stores.{start-next, part-inside}
use Rattle.places.specs.Stands.{slot, stop}
use Rattle.places.proofs.Splices.{length-splice, part-splice, at-splice, part-before}

-- One behind the other: each ends where the next begins or before, and the last ends with the store
pub stop-inside : (s : Sheet) (part : ℕ) → part ≤ s.n → stop s part ≤ store_length s
stop-inside s part l = part-inside s part l

pub stop-before : (s : Sheet) (p q : ℕ) → p < q → stop s p ≤ start s q
stop-before s p zero l = absurd (not-suc-le-zero l)
stop-before s p (suc q) l =
    here-or (λ p. p < suc q → stop s p ≤ start s (suc q)) q p (λ l. omega (arith, start-next s q))
    (λ d l. omega (arith, start-next s q, stop-before s p q (omega arith))) l

-- none reaches into the nine counts
pub start-after : (s : Sheet) (part : ℕ) → 9 ≤ start s part
unfolding start
start-after s part = omega arith

-- nor over another: p and q are two parts
pub apart : (s : Sheet) (p q : ℕ) → (q ≡ p → ⊥) → (stop s p ≤ start s q) ⊎ (stop s q ≤ start s p)
apart s p q d = ⊎_elim (λ k. inl (stop-before s p q (ltb→lt p q k))) (λ k. inr (stop-before s q p (below k))) (decided (ltb p q))
  where
    below : (T (ltb p q) → ⊥) → q < p
    below k = let h : q ≤ p = ltb-false p q (F→≡ (ltb p q) k) in omega (arith, d)

-- Where the counts lie: each part's own, among the nine
pub slot-table : (s : Sheet) (t : ℕ) → t < s.n → slot s t ≡ t
slot-table s t l = rw (lt-ltb t s.n l)

pub slot-list : (s : Sheet) → slot s s.n ≡ 8
slot-list s = rw (le-ltb s.n s.n (omega arith))

module _ (s : Sheet) (g : Good s) where
  pub slot-nine : (part : ℕ) → slot s part < 9
  slot-nine part = go (ltb part s.n) refl
    where
      go : (b : Bool) → ltb part s.n ≡ b → cond b part 8 < 9
      go true e = omega (arith, ltb-true part s.n e, g.counts.eight)
      go false e = omega arith

  -- no absent table's
  pub slot-absent : (p t : ℕ) → s.n ≤ t → t < 8 → t ≡ slot s p → ⊥
  slot-absent p t a b = go (ltb p s.n) refl
    where
      go : (b : Bool) → ltb p s.n ≡ b → t ≡ cond b p 8 → ⊥
      go true e h = omega (arith, ltb-true p s.n e)
      go false e h = omega arith

  pub slots_apart : (p q : ℕ) → p ≤ s.n → q ≤ s.n → (q ≡ p → ⊥) → slot s q ≡ slot s p → ⊥
  slots_apart p q i j d = go (ltb q s.n) refl (ltb p s.n) refl
    where
      go : (a : Bool) → ltb q s.n ≡ a → (b : Bool) → ltb p s.n ≡ b → cond a q 8 ≡ cond b p 8 → ⊥
      go true e true f h = d h
      go true e false f h = omega (arith, ltb-true q s.n e, g.counts.eight)
      go false e true f h = omega (arith, ltb-true p s.n f, g.counts.eight)
      go false e false f h = d (omega (arith, ltb-false q s.n e, ltb-false p s.n f))

-- What is read
module _ (s : Sheet) (ws : Words) where
  -- a part's words are those from its place to its end
  pub words-part : (p : ℕ) → part_words s ws p ≡ part ws (start s p) (stop s p)
  unfolding part_words part
  words-part p = let e : stop s p - start s p ≡ size s p = omega arith in rw e

  pub words-length : length ws ≡ store_length s → (p : ℕ) → p ≤ s.n → length (part_words s ws p) ≡ size s p
  words-length long p i =
      ap length (words-part p) ∙ length_part ws (start s p) (stop s p) (omega (arith, stop-inside s p i)) ∙ omega arith

  -- the store is its nine counts and its parts
  pub pieces : length ws ≡ store_length s → take 9 ws ++ flat (map (part_words s ws) (parts_of s)) ≡ ws
  unfolding part_words store_length start
  pieces long =
      ap (λ (l : Words). take 9 ws ++ l)
      (blocks (start s) (size s) (start-next s) ws (s.n + 1) 0
      ∙ take_all (sum (map (size s) (parts_of s))) (drop 9 ws) (omega (arith, length-drop 9 ws)))
      ∙ take-append-drop 9 ws

-- What is written: p's words spliced anew, q any part
module _ (s : Sheet) (ws : Words) (long : length ws ≡ store_length s) (p : ℕ) (i : p ≤ s.n) (x : Words) (size-x : length x ≡ size s p) where
  inside : stop s p ≤ length ws
  inside = omega (arith, stop-inside s p i)

  size_is : length x ≡ stop s p - start s p
  size_is = omega arith

  pub spliced-length : length (splice ws (start s p) (stop s p) x) ≡ length ws
  spliced-length = length-splice ws (start s p) (stop s p) x (omega arith) inside size_is

  pub spliced-own : part_words s (splice ws (start s p) (stop s p) x) p ≡ x
  spliced-own = words-part s (splice ws (start s p) (stop s p) x) p ∙ part-splice ws (start s p) (stop s p) x (omega arith) inside size_is

  pub spliced-other : (q : ℕ) → (q ≡ p → ⊥) → part_words s (splice ws (start s p) (stop s p) x) q ≡ part_words s ws q
  spliced-other q d =
      words-part s (splice ws (start s p) (stop s p) x) q
      ∙ ⊎_elim (λ k. part-after ws (start s p) (stop s p) (start s q) (stop s q) x (omega arith) inside size_is k)
      (λ k. part-before ws (start s p) (stop s p) x (omega arith) inside (start s q) (stop s q) k) (apart s p q d)
      ∙ sym (words-part s ws q)

  pub spliced-count : (j : ℕ) → j < 9 → at (splice ws (start s p) (stop s p) x) j ≡ at ws j
  spliced-count j l = at-splice ws (start s p) (stop s p) x (omega arith) inside j (omega (arith, start-after s p))

-- and p's count set anew
module _ (s : Sheet) (g : Good s) (ws : Words) (p k : ℕ) where
  pub counted_words : (q : ℕ) → part_words s (set ws (slot s p) k) q ≡ part_words s ws q
  unfolding part_words
  counted_words q = ap (take (size s q)) (drop-set-lt (start s q) ws (slot s p) k (omega (arith, start-after s q, slot-nine s g p)))

  pub counted-own : 9 ≤ length ws → count s (set ws (slot s p) k) p ≡ k
  counted-own l = get_or-set_same ws (slot s p) k 0 (omega (arith, slot-nine s g p))

  pub counted-other : p ≤ s.n → (q : ℕ) → q ≤ s.n → (q ≡ p → ⊥) → count s (set ws (slot s p) k) q ≡ count s ws q
  counted-other i q j d = get_or-set_other ws (slot s p) (slot s q) k 0 (slots_apart s g p q i j d)
