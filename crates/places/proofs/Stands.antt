-- A sound store stands for its model; a store that stands for a model is that model's words; and a part written anew, with its count, leaves a store
-- that stands for the model with these rows in that part. So ends the proof of every write.
-- Assumes nothing.
use Prim.Native.Nat.{ℕ, ◌+◌, ◌<◌, ◌≤◌}
use mathlib.Core.Path.{◌≡◌, sym, ap, ap₂, ◌∙◌}
use mathlib.Core.List.{[], ◌∷◌, ◌++◌, map}
use mathlib.Core.Logic.{⊎_elim}
use native.Mathlib.Omega.{arith}
use lib.Dec.{T, ltb, ltb→lt}
use lib.ListN.{length, take, set, length-set, get_or-append, get_or-eq_default}
use lib.Seq.{ext_get_or, get_or-take, length-take-le, get_or-set_other}
use borrow.Author.Tests.{ltb-false}
use Rattle.lists.specs.Lists.{Words, at, flat, up_to}
use Rattle.lists.specs.Parts.{part, splice}
use Rattle.lists.proofs.Truth.{F→≡, map_same, up_to-mem, decided}
use Rattle.rows.specs.Rows.{Rows}
use Rattle.rows.specs.Regions.{laid, Region, Holds}
use Rattle.rows.proofs.Regions.{region-holds, holds_same, holds-count}
use Rattle.meaning.specs.Sheet.{Sheet}
use Rattle.meaning.specs.Plan.{columns, size, start, store_length}
use Rattle.meaning.specs.Base.{rows_of}
use Rattle.meaning.specs.Meaning.{Model}
use Rattle.meaning.specs.Store.{parts_of, part_rows, counts, padded, store_of, count, part_words, rows_at, model_of, sound}
use Rattle.laws.specs.Sheets.{Good}
use Rattle.laws.proofs.Lists.{here-or, at-up_to}
use Rattle.laws.proofs.Models.{part-side, part-list}
use Rattle.laws.proofs.Stores.{sound-get, model-many, model-part, count_fits, part-long}
use Rattle.places.specs.Stands.{slot, stop, Stands, with_part}
use Rattle.places.proofs.Parts.{slot-table, slot-list, slot-nine, slot-absent, pieces, words-length, spliced-length, spliced-own}
use Rattle.places.proofs.Parts.{spliced-other, spliced-count, counted_words, counted-own, counted-other}
use Rattle.places.proofs.Models.{with-many, with-own, with-other}

-- A sound store: each part is a region, and the whole stands for its model
module _ (s : Sheet) (g : Good s) (ws : Words) (h : T (sound s ws)) where
  pub sound-region : (part : ℕ) → part ≤ s.n → Region (columns s part) (count s ws part) (part_words s ws part)
  unfolding rows_at
  sound-region part l =
      let is = sound-get s ws h in
      record {
        fits = omega (arith, count_fits s g ws h part l, part-long s g ws h part l);
        up = is.in_order part l;
        zeros = is.unused part l;
      }

  pub sound-stands : Stands s ws (model_of s ws)
  unfolding rows_at
  sound-stands =
      let is = sound-get s ws h in
      record {
        long = is.long;
        many = model-many s ws;
        absent = is.absent;
        holds = λ part l. holds_same (columns s part) (count s ws part) (rows_at s ws part) (part_rows (model_of s ws) part) (part_words s ws part)
            (sym (model-part s ws part l)) (region-holds (columns s part) (count s ws part) (part_words s ws part) (sound-region part l));
      }

-- A store that stands for a model
module _ (s : Sheet) (g : Good s) (ws : Words) (m : Model) (st : Stands s ws m) where
  pub stands-nine : 9 ≤ length ws
  unfolding store_length start
  stands-nine = omega (arith, st.long)

  pub stands-count : (part : ℕ) → part ≤ s.n → count s ws part ≡ length (part_rows m part)
  stands-count part l = sym (holds-count (columns s part) (count s ws part) (part_rows m part) (part_words s ws part) (st.holds part l))

  pub stands-rows : (part : ℕ) → part ≤ s.n → rows_at s ws part ≡ part_rows m part
  unfolding rows_at
  stands-rows part l = (st.holds part l).rows

  -- its words are the model's
  counts-are : take 9 ws ≡ counts m
  unfolding counts
  counts-are = ext_get_or 0 (take 9 ws) (counts m) nine (λ i l. let k : i < 9 = omega (arith, nine) in get_or-take 9 ws i 0 k ∙ each i k)
    where
      rows : ℕ → ℕ
      rows t = length (rows_of m.sides t)

      nine : length (take 9 ws) ≡ 9
      nine = length-take-le 9 ws stands-nine

      -- a table's count, of a table that is there or absent
      table : (t : ℕ) → t < 8 → at ws t ≡ rows t
      table t l =
          ⊎_elim (λ k. let i : t < s.n = ltb→lt t s.n k in
          ap (at ws) (sym (slot-table s t i)) ∙ stands-count t (omega arith) ∙ ap length (part-side m s.n st.many t i))
          (λ k. let i : s.n ≤ t = ltb-false t s.n (F→≡ (ltb t s.n) k) in
          st.absent t i l ∙ sym (ap length (get_or-eq_default m.sides [] (omega (arith, st.many))))) (decided (ltb t s.n))

      each : (i : ℕ) → i < 9 → at ws i ≡ at (map rows (up_to 8) ++ (length m.list ∷ [])) i
      each i l =
          here-or (λ i. i < 9 → at ws i ≡ at (map rows (up_to 8) ++ (length m.list ∷ [])) i) 8 i
          (λ l. ap (at ws) (sym (slot-list s)) ∙ stands-count s.n (omega arith) ∙ ap length (part-list m s.n st.many))
          (λ d l. let k : i < 8 = omega arith in
          table i k ∙ sym (get_or-append (map rows (up_to 8)) (length m.list ∷ []) 0 i k ∙ at-up_to rows 0 8 i k)) l

  pub stands-words : ws ≡ store_of s m
  unfolding store_of laid
  stands-words =
      sym (pieces s ws st.long)
      ∙ ap₂ ◌++◌ counts-are (ap flat parts_are)
    where
      part-is : (part : ℕ) → part ≤ s.n → part_words s ws part ≡ padded (size s part) (flat (part_rows m part))
      part-is part l = (st.holds part l).words ∙ ap (λ (k : ℕ). laid k (part_rows m part)) (words-length s ws st.long part l)

      parts_are : map (part_words s ws) (parts_of s) ≡ map (λ part. padded (size s part) (flat (part_rows m part))) (parts_of s)
      parts_are =
          map_same (part_words s ws) (λ part. padded (size s part) (flat (part_rows m part))) (parts_of s)
          (λ part i. part-is part (omega (arith, up_to-mem (s.n + 1) part i)))

held-as : (w : ℕ) {n n' : ℕ} {rows rows' : Rows} {x x' : Words} → n' ≡ n → rows' ≡ rows → x' ≡ x → Holds w n rows x → Holds w n' rows' x'
held-as w e f q h = rw (e, f, q) h

-- A part written anew, x its words and k its count, into a store that stands for a model
module _ (s : Sheet) (g : Good s) (ws : Words) (m : Model) (st : Stands s ws m) (p : ℕ) (i : p ≤ s.n) (rows : Rows) (k : ℕ) (x : Words)
    (h : Holds (columns s p) k rows x) (size-x : length x ≡ size s p) where
  pub stands-written : Stands s (set (splice ws (start s p) (stop s p) x) (slot s p) k) (with_part m p rows)
  stands-written =
      record {
        long = length-set spliced (slot s p) k ∙ spliced-length s ws st.long p i x size-x ∙ st.long;
        many = with-many m s.n st.many rows p;
        absent =
            λ t a b. get_or-set_other spliced (slot s p) t k 0 (slot-absent s g p t a b) ∙ spliced-count s ws st.long p i x size-x t (omega arith)
            ∙ st.absent t a b;
        holds = λ q j. here-or Held p q own (λ d. other q j d);
      }
    where
      spliced : Words
      spliced = splice ws (start s p) (stop s p) x

      after : Words
      after = set spliced (slot s p) k

      nine : 9 ≤ length spliced
      nine = omega (arith, spliced-length s ws st.long p i x size-x, stands-nine s g ws m st)

      Held : ℕ → Type 0
      Held q = Holds (columns s q) (count s after q) (part_rows (with_part m p rows) q) (part_words s after q)

      own : Held p
      own =
          held-as (columns s p) (counted-own s g spliced p k nine) (with-own m s.n st.many rows p i)
          (counted_words s g spliced p k p ∙ spliced-own s ws st.long p i x size-x) h

      other : (q : ℕ) → q ≤ s.n → (q ≡ p → ⊥) → Held q
      other q j d =
          held-as (columns s q) (counted-other s g spliced p k i q j d ∙ spliced-count s ws st.long p i x size-x (slot s q) (slot-nine s g q))
          (with-other m s.n st.many rows p q i d) (counted_words s g spliced p k q ∙ spliced-other s ws st.long p i x size-x q d) (st.holds q j)
