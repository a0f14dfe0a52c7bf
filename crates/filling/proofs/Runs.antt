-- The base run, word by word: what its length and counts say, where each table begins, and the word at which a row's column stands.
-- Assumes nothing.
use Prim.Native.Nat.{ℕ, ◌+◌, ◌*◌, ◌-◌, ◌<◌, ◌≤◌}
use mathlib.Core.Path.{◌≡◌, refl, sym, ap, ◌∙◌}
use mathlib.Core.Bool.{Bool, true, false, ◌&&◌}
use mathlib.Core.List.{[], ◌∷◌}
use native.Mathlib.Nat.{zero-add, add-zero}
use native.Mathlib.Numerals.{add-one}
use native.Mathlib.Omega.{arith}
use lib.Dec.{eqb, leb→le}
use lib.ListN.{length, get_or, take, drop, take-append-drop}
use lib.Seq.{get_or-take, get_or-drop}
use Rattle.lists.specs.Lists.{Words, at, all}
use Rattle.lists.specs.Loops.{every}
use Rattle.lists.specs.Parts.{part}
use Rattle.lists.proofs.Truth.{is_t, all-get, mem-up_to, eqb→≡}
use Rattle.lists.proofs.Parts.{length_part}
use Rattle.rows.specs.Rows.{Row, Rows, cut}
use Rattle.rows.proofs.Cut.{row_fits, cut-length, cut_at, cut-front, row_at, row-length}
use Rattle.meaning.specs.Sheet.{Sheet, tables, width}
use Rattle.meaning.specs.Base.{rows_of, base_start, base_of, lawful, good_base}
use Rattle.laws.proofs.Lists.{at-up_to, sum-front, sum-last, facts}
use Rattle.sheet.proofs.Numbers.{all-up_to}
use Rattle.filling.specs.Runs.{few_rows, good_run, Run, table_words, row_no}

-- Where the tables begin: behind the counts, each behind the one before, the last ends with the run
module _ (s : Sheet) (run : Words) where
  abbrev table_size : ℕ → ℕ
  table_size t = at run t * width s t

  pub start_first : base_start s run 0 ≡ s.n
  unfolding base_start
  start_first = add-zero s.n

  pub start-next : (t : ℕ) → base_start s run (t + 1) ≡ base_start s run t + at run t * width s t
  unfolding base_start
  start-next t =
      let e : table_size (0 + t) ≡ table_size t = ap table_size (zero-add t) in
      rw add-one (omega (arith, sum-last table_size t 0))

  pub start-within : (t : ℕ) → t < s.n → base_start s run t + at run t * width s t ≤ base_start s run s.n
  unfolding base_start
  start-within t l =
      let e : table_size (0 + t) ≡ table_size t = ap table_size (zero-add t) in
      omega (arith, sum-front table_size s.n 0 t l)

  pub start-behind : (t : ℕ) → s.n ≤ base_start s run t
  unfolding base_start
  start-behind t = omega arith

  -- The run's length and counts
  pub base-good : good_base s run ≡ (good_run s run && lawful s (base_of s run))
  unfolding good_base good_run few_rows
  base-good = refl

  pub run-facts : good_run s run ≡ true → Run s run
  unfolding good_run few_rows
  run-facts h =
      let f = facts (eqb (length run) (base_start s run s.n) ∷ all (few_rows run) (tables s) ∷ []) (is_t h) in
      record {
        long = eqb→≡ (length run) (base_start s run s.n) f.0;
        few = λ t l. leb→le (at run t) 65535 (all-get (few_rows run) (tables s) f.1.0 t (mem-up_to s.n t l));
      }

  pub run_is : (k : ℕ) → k ≡ base_start s run s.n → every (few_rows run) s.n ≡ true → eqb (length run) k ≡ good_run s run
  unfolding good_run
  run_is k e h = rw (all-up_to (few_rows run) s.n, h, e) (alone (eqb (length run) (base_start s run s.n)))
    where
      alone : (b : Bool) → b ≡ (b && true)
      alone true = refl
      alone false = refl

-- The rows
module _ (s : Sheet) (run : Words) (r : Run s run) where
  next-within : (t : ℕ) → t < s.n → base_start s run (t + 1) ≤ length run
  next-within t l = omega (arith, start-next s run t, start-within s run t l, r.long)

  pub words_long : (t : ℕ) → t < s.n → length (table_words s run t) ≡ at run t * width s t
  unfolding table_words
  words_long t l = length_part run (base_start s run t) (base_start s run (t + 1)) (next-within t l) ∙ omega (arith, start-next s run t)

  pub rows_are : (t : ℕ) → t < s.n → rows_of (base_of s run) t ≡ cut (width s t) (at run t) (table_words s run t)
  unfolding base_of table_words part
  rows_are t l =
      let a = base_start s run t in
      let k = base_start s run (t + 1) - a in
      at-up_to (λ t. cut (width s t) (at run t) (drop (base_start s run t) run)) [] s.n t l
      ∙ ap (cut (width s t) (at run t)) (sym (take-append-drop k (drop a run)))
      ∙ cut-front (width s t) (at run t) (take k (drop a run)) (drop k (drop a run)) (omega (arith, words_long t l))

  pub rows-many : (t : ℕ) → t < s.n → length (rows_of (base_of s run) t) ≡ at run t
  rows-many t l = ap length (rows_are t l) ∙ cut-length (width s t) (at run t) (table_words s run t)

  -- row i of table t, of which there are as many as its count says
  module _ (t i : ℕ) (l : t < s.n) (h : i < at run t) where
    pub row_is : row_no (base_of s run) t i ≡ take (width s t) (drop (i * width s t) (table_words s run t))
    unfolding row_no
    row_is = ap (λ (rows : Rows). get_or rows i []) (rows_are t l) ∙ cut_at (width s t) (at run t) (table_words s run t) i h

    row_within : i * width s t + width s t ≤ at run t * width s t
    row_within = row_fits (width s t) (at run t) i (at run t * width s t) h (omega arith)

    pub row-wide : length (row_no (base_of s run) t i) ≡ width s t
    row-wide = ap length row_is ∙ row-length (width s t) i (table_words s run t) (omega (arith, row_within, words_long t l))

    -- where it ends
    pub row_inside : base_start s run t + i * width s t + width s t ≤ length run
    row_inside = omega (arith, row_within, start-within s run t l, r.long)

    -- the word of its column c
    pub cell-is : (c : ℕ) → c < width s t → at (row_no (base_of s run) t i) c ≡ at run (base_start s run t + i * width s t + c)
    unfolding table_words part
    cell-is c k =
        let a = base_start s run t in
        let j = i * width s t + c in
        ap (λ (row : Row). at row c) row_is
        ∙ row_at (width s t) i (table_words s run t) c k
        ∙ get_or-take (base_start s run (t + 1) - a) (drop a run) j 0 (omega (arith, row_within, start-next s run t))
        ∙ get_or-drop a run j 0
        ∙ ap (at run) (omega arith)
