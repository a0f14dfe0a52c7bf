-- Models as words: a proper model that fits is read back from its words, which are sound.
-- Assumes nothing.
use Prim.Native.Nat.{ℕ, ◌+◌, ◌*◌, ◌-◌, ◌<◌, ◌≤◌}
use mathlib.Core.Path.{◌≡◌, refl, sym, ap, ap₂, ◌∙◌, subst}
use mathlib.Core.Bool.{Bool, true, false, cond}
use mathlib.Core.List.{[], ◌∷◌, ◌++◌, map}
use mathlib.Core.Logic.{⊎_elim}
use native.Mathlib.Nat.{zero-add, mul-le-mul_right}
use native.Mathlib.Omega.{arith}
use lib.Dec.{T, ltb, leb, eqb, leb→le, le→leb}
use lib.ListN.{length, take, drop, replicate, length-append, length-replicate, get_or-append, get_or-eq_default}
use lib.Seq.{drop-append-add, get_or-append_seam, drop_at, take_at, take-take}
use borrow.Author.Tests.{ltb-true, ltb-false}
use Rattle.lists.specs.Lists.{Words, at, all, flat, up_to, sum}
use Rattle.lists.proofs.Truth.{all-get, all-make, map_same, mem-up_to, up_to-mem, decided}
use Rattle.lists.proofs.Places.{block, map-get_or}
use Rattle.rows.specs.Rows.{Rows, Wide, cut, rising, no_key_twice}
use Rattle.rows.proofs.Cut.{length-flat, cut-flat}
use Rattle.rows.proofs.Regions.{all-zeros}
use Rattle.meaning.specs.Sheet.{Sheet, tables, room}
use Rattle.meaning.specs.Plan.{kept, columns, size, start, store_length}
use Rattle.meaning.specs.Base.{rows_of}
use Rattle.meaning.specs.Meaning.{Model}
use Rattle.meaning.specs.Store.{parts_of, part_rows, counts, padded, store_of, count, part_words, rows_at, model_of, sound, fits, stretch_of}
use Rattle.laws.specs.Sheets.{Good}
use Rattle.laws.proofs.Lists.{here-or, at-up_to, length-flat-map}
use Rattle.laws.proofs.Sound.{sound-make}

-- The parts of a model with n side tables
module _ (m : Model) (n : ℕ) (many : length m.sides ≡ n) where
  pub part-side : (t : ℕ) → t < n → part_rows m t ≡ rows_of m.sides t
  part-side t l = get_or-append m.sides (m.list ∷ []) [] t (omega arith)

  pub part-list : part_rows m n ≡ m.list
  part-list = subst (λ (k : ℕ). part_rows m k ≡ m.list) many (get_or-append_seam m.sides m.list [] [])

  pub part_out : (part : ℕ) → n < part → part_rows m part ≡ []
  part_out part l = get_or-eq_default (m.sides ++ (m.list ∷ [])) [] (omega (arith, length-append m.sides (m.list ∷ [])))

  -- what holds of each side table and of the list holds of each part
  pub by_part : (P : ℕ → Rows → Type 0) → ((t : ℕ) → t < n → P t (rows_of m.sides t)) → P n m.list → (part : ℕ) → part ≤ n → P part (part_rows m part)
  by_part P a b part l =
      here-or (λ part. part ≤ n → P part (part_rows m part)) n part (λ l. subst (P n) (sym part-list) b)
      (λ d l. let k : part < n = omega arith in subst (P part) (sym (part-side part k)) (a part k)) l

-- what a model is whose words, if it fits, are a sound store
pub record Proper (s : Sheet) (m : Model) : Type 0 where
  pub many : length m.sides ≡ s.n
  pub wide : (part : ℕ) → part ≤ s.n → Wide (columns s part) (part_rows m part)
  pub in_order : (part : ℕ) → part ≤ s.n → T (rising (part_rows m part))
  pub once : (t : ℕ) → t < s.n → T (no_key_twice (part_rows m t))
  pub unkept : (t : ℕ) → t < s.n → (T (kept s t) → ⊥) → part_rows m t ≡ []

pub fits-get : (s : Sheet) (m : Model) → T (fits s m) → (part : ℕ) → part ≤ s.n → length (part_rows m part) ≤ room s part
unfolding fits
fits-get s m h part l =
    leb→le (length (part_rows m part)) (room s part)
    (all-get (λ part. leb (length (part_rows m part)) (room s part)) (parts_of s) h part (mem-up_to (s.n + 1) part (omega arith)))

pub fits-make : (s : Sheet) (m : Model) → ((part : ℕ) → part ≤ s.n → length (part_rows m part) ≤ room s part) → T (fits s m)
unfolding fits
fits-make s m h =
    all-make (λ part. leb (length (part_rows m part)) (room s part)) (parts_of s)
    (λ part i. le→leb (length (part_rows m part)) (room s part) (h part (omega (arith, up_to-mem (s.n + 1) part i))))

module _ (s : Sheet) (g : Good s) (m : Model) (p : Proper s m) (fit : T (fits s m)) where
  -- the words of a part, the whole of its room
  room-words : ℕ → Words
  room-words part = padded (size s part) (flat (part_rows m part))

  flat-long : (part : ℕ) → part ≤ s.n → length (flat (part_rows m part)) ≡ length (part_rows m part) * columns s part
  flat-long part l = length-flat (columns s part) (part_rows m part) (p.wide part l)

  pub part-fits : (part : ℕ) → part ≤ s.n → length (part_rows m part) * columns s part ≤ size s part
  unfolding size
  part-fits part l = mul-le-mul_right (columns s part) (fits-get s m fit part l)

  room-long : (part : ℕ) → length (room-words part) ≡ size s part
  unfolding room-words
  room-long part =
      length-append (flat (part_rows m part)) (replicate (size s part - length (flat (part_rows m part))) 0)
      ∙ (let h : length (flat (part_rows m part)) ≤ size s part = short in
      omega (arith, length-replicate {A = ℕ} (size s part - length (flat (part_rows m part))) 0))
    where
      short : length (flat (part_rows m part)) ≤ size s part
      short =
          ⊎_elim (λ l. omega (arith, flat-long part (leb→le part s.n l), part-fits part (leb→le part s.n l)))
          (λ d. subst (λ (rows : Rows). length (flat rows) ≤ size s part) (sym (part_out m s.n p.many part (out d))) (omega arith))
          (decided (leb part s.n))
        where
          out : (T (leb part s.n) → ⊥) → s.n < part
          out d = let h : part ≤ s.n → ⊥ = (λ l. d (le→leb part s.n l)) in omega arith

  pub part-words : (part : ℕ) → part ≤ s.n → part_words s (store_of s m) part ≡ padded (size s part) (flat (part_rows m part))
  unfolding part_words store_of start counts room-words
  part-words part l =
      ap (take (size s part)) (drop-append-add (counts m) (flat (map room-words (parts_of s))) (sum (map (size s) (up_to part))))
      ∙ subst (λ (j : ℕ). take (size s j) (drop (sum (map (size s) (up_to part))) (flat (map room-words (parts_of s)))) ≡ room-words j) (zero-add part)
      (block room-words (size s) room-long (s.n + 1) 0 part (omega arith))

  -- the counts
  pub count_at : (t : ℕ) → t < 8 → at (store_of s m) t ≡ length (rows_of m.sides t)
  unfolding store_of counts
  count_at t l =
      get_or-append (map rows (up_to 8)) (length m.list ∷ flat (map (λ part. padded (size s part) (flat (part_rows m part))) (parts_of s))) 0 t (omega arith)
      ∙ at-up_to rows 0 8 t l
    where
      rows : ℕ → ℕ
      rows t = length (rows_of m.sides t)

  pub part_count : (part : ℕ) → part ≤ s.n → count s (store_of s m) part ≡ length (part_rows m part)
  unfolding store_of counts
  part_count part l = go (ltb part s.n) refl
    where
      go : (b : Bool) → ltb part s.n ≡ b → at (store_of s m) (cond b part 8) ≡ length (part_rows m part)
      go true e =
          let k : part < s.n = ltb-true part s.n e in
          count_at part (omega (arith, g.counts.eight)) ∙ ap length (sym (part-side m s.n p.many part k))
      go false e =
          let last : s.n ≡ part = omega (arith, ltb-false part s.n e) in
          ap length (sym (ap (part_rows m) (sym last) ∙ part-list m s.n p.many))

  pub rows-at : (part : ℕ) → part ≤ s.n → rows_at s (store_of s m) part ≡ part_rows m part
  unfolding rows_at
  rows-at part l =
      ap₂ (cut (columns s part)) (part_count part l) (part-words part l)
      ∙ cut-flat (columns s part) (part_rows m part) (replicate (size s part - length (flat (part_rows m part))) 0) (p.wide part l)

  -- the words stand for the model
  pub model-back : model_of s (store_of s m) ≡ m
  unfolding model_of
  model-back = λ i. record { sides = sides i; list = list i }
    where
      sides : map (rows_at s (store_of s m)) (tables s) ≡ m.sides
      sides =
          map_same (rows_at s (store_of s m)) (part_rows m) (tables s) (λ t i. rows-at t (omega (arith, up_to-mem s.n t i)))
          ∙ ap (λ k. map (part_rows m) (up_to k)) (sym p.many) ∙ map-get_or [] m.sides (m.list ∷ [])

      list : rows_at s (store_of s m) s.n ≡ m.list
      list = rows-at s.n (omega arith) ∙ part-list m s.n p.many

  -- and show each part
  pub stretch-is : (part : ℕ) → part ≤ s.n → stretch_of s (store_of s m) part ≡ flat (part_rows m part)
  unfolding stretch_of part_words
  stretch-is part l =
      let k = length (part_rows m part) * columns s part in
      ap (λ n. take (n * columns s part) (drop (start s part) (store_of s m))) (part_count part l)
      ∙ sym (take-take k (size s part) (drop (start s part) (store_of s m)) (part-fits part l))
      ∙ ap (take k) (part-words part l)
      ∙ take_at (flat (part_rows m part)) (replicate (size s part - length (flat (part_rows m part))) 0) k (flat-long part l)

  -- they are sound
  pub store_long : length (store_of s m) ≡ store_length s
  unfolding store_of counts store_length start room-words
  store_long = length-append (counts m) (flat (map room-words (parts_of s))) ∙ ap (λ k. 9 + k) (length-flat-map room-words (size s) room-long (parts_of s))

  unused : (part : ℕ) → part ≤ s.n
      → drop (count s (store_of s m) part * columns s part) (part_words s (store_of s m) part) ≡ replicate (size s part - length (flat (part_rows m part))) 0
  unused part l =
      let words = flat (part_rows m part) in
      ap₂ (λ k w. drop (k * columns s part) w) (part_count part l) (part-words part l)
      ∙ drop_at words (replicate (size s part - length words) 0) (length (part_rows m part) * columns s part) (flat-long part l)

  pub store-sound : T (sound s (store_of s m))
  store-sound =
      sound-make s g.counts.eight (store_of s m)
      (record {
        long = store_long;
        absent = λ t l k. count_at t k ∙ ap length (get_or-eq_default m.sides [] (omega (arith, p.many)));
        within = λ part l. subst (λ (k : ℕ). k ≤ room s part) (sym (part_count part l)) (fits-get s m fit part l);
        in_order = λ part l. subst (λ (rows : Rows). T (rising rows)) (sym (rows-at part l)) (p.in_order part l);
        unused = λ part l. subst (λ (k : Words). T (all (eqb 0) k)) (sym (unused part l)) (all-zeros (size s part - length (flat (part_rows m part))));
        unkept = λ t l k. part_count t (omega arith) ∙ ap length (p.unkept t l k);
        once = λ t l. subst (λ (rows : Rows). T (no_key_twice rows)) (sym (rows-at t (omega arith))) (p.once t l);
      })
