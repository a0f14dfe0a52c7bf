-- The store's tests, turn by turn and whole: what each way through the code has found.
-- Assumes nothing.
use Prim.Native.Nat.{ℕ, zero, suc, ◌+◌, ◌-◌, ◌<◌, ◌≤◌}
use Rattle.std.specs.List.{list_all}
use mathlib.Core.Path.{◌≡◌, refl, ap, subst}
use mathlib.Core.Bool.{Bool, true, false, ◌&&◌, ◌||◌}
use mathlib.Core.Logic.{⊎_elim}
use mathlib.Core.List.{List, [], ◌∷◌}
use native.Mathlib.Nat.{mul-zero}
use native.Mathlib.Omega.{arith}
use lib.Dec.{T, eqb}
use lib.ListN.{length, take, drop}
use lib.Seq.{drop-cons}
use borrow.Author.Tests.{lt-ltb, le-ltb, le-leb}
use Rattle.lists.specs.Lists.{Words, at, all, from}
use Rattle.lists.specs.Loops.{every}
use Rattle.lists.proofs.Truth.{is_t, T→≡, F→≡, false→F, same_test, or_cases, and-fst, and-snd, and_both, all-get, all-make}
use Rattle.lists.proofs.Truth.{mem-up_to, up_to-mem, eq→eqb, eqb→≡}
use Rattle.lists.proofs.Loops.{no, every-from, every-at}
use Rattle.rows.specs.Rows.{cut, rising, no_key_twice}
use Rattle.rows.specs.Regions.{sound_region, sound_side}
use Rattle.meaning.specs.Sheet.{Sheet, tables, room}
use Rattle.meaning.specs.Plan.{kept, columns, size, store_length}
use Rattle.meaning.specs.Store.{parts_of, count, part_words, rows_at, sound_part, sound_table, sound}
use Rattle.laws.proofs.Lists.{here-or, Each, apart, together}
use Rattle.laws.proofs.Columns.{columns-unkept}
use Rattle.store.specs.Tests.{absent_zero, table_sound}

-- absent tables: the counts that stand there, read by their places
pub absent-is : (ws : Words) (n : ℕ) → n ≤ 8 → 8 ≤ length ws → list_all (λ c. eqb c 0) (take (8 - n) (drop n ws)) ≡ absent_zero n ws
unfolding absent_zero
absent-is ws n few long = go n (8 - n) (omega arith)
  where
    go : (i k : ℕ) → i + k ≤ length ws → list_all (λ c. eqb c 0) (take k (drop i ws)) ≡ all (λ t. eqb (at ws t) 0) (from i k)
    go i zero l = refl
    go i (suc k) l = rw (drop-cons ws i 0 (omega arith)) (ap (λ b. eqb (at ws i) 0 && b) (go (suc i) k (omega arith)))

-- A table by its part, and the list
module _ (s : Sheet) (ws : Words) (t : ℕ) (l : t < s.n) where
  count-table : count s ws t ≡ at ws t
  count-table = rw (lt-ltb t s.n l)

  -- a kept table: its count is within its room, its rows rise by key, the rest is zero
  pub table_kept : T (kept s t) → table_sound s ws t ≡ sound_side (columns s t) (room s t) (at ws t) (part_words s ws t)
  unfolding table_sound sound_part sound_table rows_at sound_side sound_region
  table_kept k = rw (T→≡ (kept s t) k, lt-ltb t s.n l)

  -- an unkept one: its count is 0
  pub table-unkept : (T (kept s t) → ⊥) → table_sound s ws t ≡ eqb (at ws t) 0
  unfolding table_sound sound_part sound_table rows_at part_words size cut rising
  table-unkept k = same_test (table_sound s ws t) (eqb (at ws t) 0) forth back
    where
      forth : T (table_sound s ws t) → T (eqb (at ws t) 0)
      forth h =
          let table = and-fst (kept s t || eqb (count s ws t) 0) (no_key_twice (rows_at s ws t)) (and-snd (sound_part s ws t) (sound_table s ws t) h) in
          ⊎_elim (λ i. absurd (k i)) (λ e. subst (λ (c : ℕ). T (eqb c 0)) count-table e) (or_cases (kept s t) (eqb (count s ws t) 0) table)

      back : T (eqb (at ws t) 0) → T (table_sound s ws t)
      back h =
          let none : at ws t ≡ 0 = eqb→≡ (at ws t) 0 h in
          let narrow : columns s t ≡ 0 = columns-unkept s t l k in
          rw (lt-ltb t s.n l, none, F→≡ (kept s t) k, narrow, mul-zero (room s t), le-leb 0 (room s t) (omega arith)) tt

pub list-part : (s : Sheet) (ws : Words) → sound_part s ws s.n ≡ sound_region (columns s s.n) (room s s.n) (at ws 8) (part_words s ws s.n)
unfolding sound_part rows_at sound_region
list-part s ws = rw (le-ltb s.n s.n (omega arith))

-- The whole test, by the tests that the code makes one after the other
module _ (s : Sheet) (ws : Words) where
  -- the tests behind the first
  abbrev others : List Bool
  others = absent_zero s.n ws ∷ all (sound_part s ws) (parts_of s) ∷ all (sound_table s ws) (tables s) ∷ []

  apart-sound : T (sound s ws) → Each (eqb (length ws) (store_length s) ∷ others)
  unfolding sound absent_zero
  apart-sound h = apart (eqb (length ws) (store_length s)) others h

  of-table : T (sound s ws) → (t : ℕ) → t < s.n → T (table_sound s ws t)
  unfolding table_sound
  of-table h t l =
      let each = apart-sound h in
      and_both (sound_part s ws t) (sound_table s ws t) (all-get (sound_part s ws) (parts_of s) each.1.1.0 t (mem-up_to (s.n + 1) t (omega arith)))
      (all-get (sound_table s ws) (tables s) each.1.1.1.0 t (mem-up_to s.n t l))

  pub sound-length : (length ws ≡ store_length s → ⊥) → false ≡ sound s ws
  sound-length d = no (sound s ws) (λ h. d (eqb→≡ (length ws) (store_length s) (apart-sound (is_t h)).0))

  pub sound-absent : absent_zero s.n ws ≡ false → false ≡ sound s ws
  sound-absent e = no (sound s ws) (λ h. false→F e (apart-sound (is_t h)).1.0)

  pub sound-sides : every (table_sound s ws) s.n ≡ false → false ≡ sound s ws
  sound-sides e = no (sound s ws) (λ h. false→F e (is_t (every-from (table_sound s ws) s.n (λ t l. T→≡ (table_sound s ws t) (of-table (is_t h) t l)))))

  -- all others passed, the list's part decides
  pub sound-list : length ws ≡ store_length s → absent_zero s.n ws ≡ true → every (table_sound s ws) s.n ≡ true → sound_part s ws s.n ≡ sound s ws
  unfolding sound absent_zero table_sound
  sound-list e a b = same_test (sound_part s ws s.n) (sound s ws) forth back
    where
      table : (t : ℕ) → t < s.n → T (table_sound s ws t)
      table t l = is_t (every-at (table_sound s ws) t s.n l b)

      back : T (sound s ws) → T (sound_part s ws s.n)
      back h = all-get (sound_part s ws) (parts_of s) (apart-sound h).1.1.0 s.n (mem-up_to (s.n + 1) s.n (omega arith))

      part : T (sound_part s ws s.n) → (j : ℕ) → j < s.n + 1 → T (sound_part s ws j)
      part h j =
          here-or (λ j. j < s.n + 1 → T (sound_part s ws j)) s.n j (λ k. h)
          (λ d k. and-fst (sound_part s ws j) (sound_table s ws j) (table j (omega arith)))

      forth : T (sound_part s ws s.n) → T (sound s ws)
      forth h =
          let parts = all-make (sound_part s ws) (parts_of s) (λ j i. part h j (up_to-mem (s.n + 1) j i)) in
          let all-tables = all-make (sound_table s ws) (tables s) (λ t i. and-snd (sound_part s ws t) (sound_table s ws t) (table t (up_to-mem s.n t i))) in
          together (eqb (length ws) (store_length s)) others (eq→eqb e, (is_t a, (parts, (all-tables, tt))))
