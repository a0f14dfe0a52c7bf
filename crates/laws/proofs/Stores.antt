-- Sound stores: the model of a sound store is proper and fits, and its words are the store again. The meaning of lawful base tables is proper too.
-- Assumes nothing.
use Prim.Native.Nat.{ℕ, suc, ◌+◌, ◌*◌, ◌-◌, ◌<◌, ◌≤◌}
use mathlib.Core.Path.{◌≡◌, refl, sym, ap, ap₂, ◌∙◌, subst}
use mathlib.Core.List.{[], ◌∷◌, ◌++◌, map}
use mathlib.Core.Logic.{◌⊎◌, inl, inr, ⊎_elim}
use native.Mathlib.Nat.{zero-add, mul-le-mul_right}
use native.Mathlib.Omega.{arith}
use lib.Dec.{T, ltb, ltb→lt}
use lib.ListN.{length, take, drop, replicate, length-map, length-drop, take-append-drop, get_or-append, get_or-eq_default}
use lib.Seq.{ext_get_or, get_or-take, length-take-le, take_all}
use borrow.Author.Tests.{ltb-false}
use Rattle.lists.specs.Lists.{Words, at, flat, up_to, sum}
use Rattle.lists.proofs.Truth.{F→≡, map_same, up_to-mem, decided, cond-true, cond-false}
use Rattle.rows.specs.Rows.{Rows, Wide, pick, rising, sorted, no_key_twice}
use Rattle.rows.proofs.Sorted.{rising_none, rising-sorted}
use Rattle.rows.proofs.Cut.{cut-length, wide-cut, flat-cut}
use Rattle.rows.proofs.Regions.{zeros-are}
use Rattle.meaning.specs.Sheet.{Sheet, room}
use Rattle.meaning.specs.Plan.{kept, shown, columns, size, start, store_length}
use Rattle.meaning.specs.Base.{Tables, rows_of}
use Rattle.meaning.specs.Meaning.{qualified, ways, list_row, the_list, Model, meaning}
use Rattle.meaning.specs.Store.{parts_of, part_rows, counts, padded, store_of, count, part_words, rows_at, model_of, sound, fits}
use Rattle.laws.specs.Sheets.{Good}
use Rattle.laws.proofs.Lists.{here-or, at-up_to, length-up_to, sum-front, sum-last, blocks}
use Rattle.laws.proofs.Columns.{columns-side, columns-list, key-pick, list-row-length}
use Rattle.laws.proofs.Keys.{once-sorted, once-map, once-select, wide-map, wide-sorted}
use Rattle.laws.proofs.Qualified.{qualified_of, qualified-is, side-kept, side-unkept}
use Rattle.laws.proofs.Ways.{way_rows, list-rising}
use Rattle.laws.proofs.Meanings.{Lawful, meaning-many, meaning-side, meaning-list}
pub use Rattle.laws.proofs.Sound.{Sound, sound-get}
use Rattle.laws.proofs.Models.{part-side, by_part, Proper, fits-make}

-- where a part begins, and that it ends within the store
pub start-next : (s : Sheet) (part : ℕ) → start s (suc part) ≡ start s part + size s part
unfolding start
start-next s part = let e : size s (0 + part) ≡ size s part = ap (size s) (zero-add part) in omega (arith, sum-last (size s) part 0)

pub part-inside : (s : Sheet) (part : ℕ) → part ≤ s.n → start s part + size s part ≤ store_length s
unfolding store_length start
part-inside s part l =
    let e : size s (0 + part) ≡ size s part = ap (size s) (zero-add part) in
    let h : part < s.n + 1 = omega arith in
    omega (arith, sum-front (size s) (s.n + 1) 0 part h)

-- the model of a store
pub model-many : (s : Sheet) (ws : Words) → length (model_of s ws).sides ≡ s.n
unfolding model_of
model-many s ws = length-up_to (rows_at s ws) s.n

pub model-side : (s : Sheet) (ws : Words) (t : ℕ) → t < s.n → rows_of (model_of s ws).sides t ≡ rows_at s ws t
unfolding model_of
model-side s ws t l = at-up_to (rows_at s ws) [] s.n t l

pub model-part : (s : Sheet) (ws : Words) (part : ℕ) → part ≤ s.n → part_rows (model_of s ws) part ≡ rows_at s ws part
unfolding model_of
model-part s ws part l =
    by_part (model_of s ws) s.n (model-many s ws) (λ part rows. rows ≡ rows_at s ws part) (model-side s ws) refl part l

pub rows-count : (s : Sheet) (ws : Words) (part : ℕ) → length (rows_at s ws part) ≡ count s ws part
unfolding rows_at
rows-count s ws part = cut-length (columns s part) (count s ws part) (part_words s ws part)

module _ (s : Sheet) (g : Good s) (ws : Words) (h : T (sound s ws)) where
  is : Sound s ws
  is = sound-get s ws h

  pub part-long : (part : ℕ) → part ≤ s.n → length (part_words s ws part) ≡ size s part
  unfolding part_words
  part-long part l =
      length-take-le (size s part) (drop (start s part) ws) (omega (arith, length-drop (start s part) ws, is.long, part-inside s part l))

  pub count_fits : (part : ℕ) → part ≤ s.n → count s ws part * columns s part ≤ size s part
  unfolding size
  count_fits part l = mul-le-mul_right (columns s part) (is.within part l)

  pub rows-wide : (part : ℕ) → part ≤ s.n → Wide (columns s part) (rows_at s ws part)
  unfolding rows_at
  rows-wide part l = wide-cut (columns s part) (count s ws part) (part_words s ws part) (omega (arith, part-long part l, count_fits part l))

  pub sound-proper : Proper s (model_of s ws)
  sound-proper =
      record {
        many = model-many s ws;
        wide = λ part l. subst (λ (rows : Rows). Wide (columns s part) rows) (sym (model-part s ws part l)) (rows-wide part l);
        in_order = λ part l. subst (λ (rows : Rows). T (rising rows)) (sym (model-part s ws part l)) (is.in_order part l);
        once = λ t l. subst (λ (rows : Rows). T (no_key_twice rows)) (sym (model-part s ws t (omega arith))) (is.once t l);
        unkept = λ t l k. model-part s ws t (omega arith) ∙ none t (is.unkept t l k);
      }
    where
      nothing : (rows : Rows) → length rows ≡ 0 → rows ≡ []
      nothing [] e = refl
      nothing (r ∷ rows) e = absurd (omega arith)

      none : (t : ℕ) → count s ws t ≡ 0 → rows_at s ws t ≡ []
      none t e = nothing (rows_at s ws t) (rows-count s ws t ∙ e)

  pub sound-fits : T (fits s (model_of s ws))
  sound-fits =
      fits-make s (model_of s ws) (λ part l.
      subst (λ (n : ℕ). n ≤ room s part) (sym (ap length (model-part s ws part l) ∙ rows-count s ws part)) (is.within part l))

  -- a sound store is the words of its model: its counts, and the words of each part
  whole : length ws ≡ 9 + sum (map (size s) (parts_of s))
  unfolding store_length start
  whole = is.long

  counts-are : counts (model_of s ws) ≡ take 9 ws
  unfolding counts model_of
  counts-are = ext_get_or 0 (counts m) (take 9 ws) (sym (length-take-le 9 ws (omega (arith, whole)))) (λ i l. each i l ∙ sym (get_or-take 9 ws i 0 l))
    where
      m : Model
      m = model_of s ws

      rows : ℕ → ℕ
      rows t = length (rows_of m.sides t)

      table : (t : ℕ) → t < 8 → T (ltb t s.n) ⊎ (T (ltb t s.n) → ⊥) → rows t ≡ at ws t
      table t l (inl k) =
          ap length (model-side s ws t (ltb→lt t s.n k)) ∙ rows-count s ws t ∙ ap (at ws) (cond-true (ltb t s.n) t 8 k)
      table t l (inr k) =
          let out : s.n ≤ t = ltb-false t s.n (F→≡ (ltb t s.n) k) in
          ap length (get_or-eq_default m.sides [] (omega (arith, model-many s ws))) ∙ sym (is.absent t out l)

      each : (i : ℕ) → i < 9 → at (counts m) i ≡ at ws i
      each i l =
          here-or (λ i. i < 9 → at (counts m) i ≡ at ws i) 8 i
          (λ l. rows-count s ws s.n
          ∙ ap (at ws) (cond-false (ltb s.n s.n) s.n 8 (λ k. let d : s.n < s.n = ltb→lt s.n s.n k in omega arith)))
          (λ d l. let k : i < 8 = omega arith in
          get_or-append (map rows (up_to 8)) (length m.list ∷ []) 0 i k ∙ at-up_to rows 0 8 i k ∙ table i k (decided (ltb i s.n))) l

  part-back : (part : ℕ) → part ≤ s.n → padded (size s part) (flat (part_rows (model_of s ws) part)) ≡ part_words s ws part
  unfolding rows_at
  part-back part l =
      ap (padded (size s part)) (ap flat (model-part s ws part l) ∙ flat-cut (columns s part) (count s ws part) words)
      ∙ ap (λ zs. take k words ++ zs) (sym rest)
      ∙ take-append-drop k words
    where
      words : Words
      words = part_words s ws part

      k : ℕ
      k = count s ws part * columns s part

      rest : drop k words ≡ replicate (size s part - length (take k words)) 0
      rest =
          let e : length (drop k words) ≡ size s part - length (take k words) =
          omega (arith, length-drop k words, part-long part l, length-take-le k words (omega (arith, part-long part l, count_fits part l))) in
          zeros-are (drop k words) (is.unused part l) ∙ ap (λ n. replicate n 0) e

  pub store-back : store_of s (model_of s ws) ≡ ws
  unfolding store_of part_words start
  store-back =
      ap₂ ◌++◌ counts-are
      (ap flat (map_same (λ part. padded (size s part) (flat (part_rows (model_of s ws) part))) (part_words s ws) (parts_of s)
      (λ part i. part-back part (omega (arith, up_to-mem (s.n + 1) part i))))
      ∙ blocks (start s) (size s) (start-next s) ws (s.n + 1) 0
      ∙ take_all (sum (map (size s) (parts_of s))) (drop 9 ws) enough)
      ∙ take-append-drop 9 ws
    where
      enough : length (drop 9 ws) ≤ sum (map (size s) (parts_of s))
      enough = omega (arith, length-drop 9 ws, whole)

-- The meaning of lawful base tables is proper
module _ (s : Sheet) (g : Good s) (B : Tables) (law : Lawful s B) where
  side-proper : (P : Rows → Type 0) (t : ℕ) → t < s.n → (T (kept s t) → P (sorted (map (pick (shown s t)) (qualified_of s B t)))) → P []
      → P (rows_of (meaning s B).sides t)
  side-proper P t l h e =
      ⊎_elim (λ k. subst P (sym (meaning-side s B t l ∙ side-kept s B t k)) (h k)) (λ k. subst P (sym (meaning-side s B t l ∙ side-unkept s B t k)) e)
      (decided (kept s t))

  side-once : (t : ℕ) → t < s.n → T (no_key_twice (sorted (map (pick (shown s t)) (qualified_of s B t))))
  side-once t l =
      once-sorted (map (pick (shown s t)) (qualified_of s B t))
      (once-map (pick (shown s t)) (qualified_of s B t) (λ r m. key-pick s g t l r)
      (subst (λ (rows : Rows). T (no_key_twice rows)) (sym (qualified-is s g B t l))
      (once-select (qualified s (qualified_of s B) t) (rows_of B t) (law.keys t l))))

  pub meaning-proper : Proper s (meaning s B)
  unfolding the_list
  meaning-proper =
      let many = meaning-many s B in
      record {
        many = many;
        wide = by_part (meaning s B) s.n many (λ part rows. Wide (columns s part) rows)
            (λ t l. side-proper (λ rows. Wide (columns s t) rows) t l
            (λ k. wide-sorted (columns s t) (map (pick (shown s t)) (qualified_of s B t))
            (wide-map (columns s t) (pick (shown s t)) (qualified_of s B t) (λ r m. length-map (shown s t) (at r) ∙ sym (columns-side s t l k)))) tt)
            (subst (λ (rows : Rows). Wide (columns s s.n) rows) (sym (meaning-list s B)) (wide-sorted (columns s s.n) (way_rows s B)
            (wide-map (columns s s.n) (list_row s) (ways s B) (λ way m. list-row-length s way ∙ sym (columns-list s)))));
        in_order = by_part (meaning s B) s.n many (λ part rows. T (rising rows))
            (λ t l. side-proper (λ rows. T (rising rows)) t l (λ k. rising-sorted (map (pick (shown s t)) (qualified_of s B t))) rising_none)
            (subst (λ (rows : Rows). T (rising rows)) (sym (meaning-list s B)) (list-rising s B));
        once = λ t l. subst (λ (rows : Rows). T (no_key_twice rows)) (sym (part-side (meaning s B) s.n many t l))
            (side-proper (λ rows. T (no_key_twice rows)) t l (λ k. side-once t l) tt);
        unkept = λ t l k. part-side (meaning s B) s.n many t l ∙ meaning-side s B t l ∙ side-unkept s B t k;
      }
