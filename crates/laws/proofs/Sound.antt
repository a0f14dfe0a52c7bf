-- A sound store as a record of facts, and the test from the facts.
-- Assumes nothing.
use Prim.Native.Nat.{ℕ, ◌+◌, ◌*◌, ◌-◌, ◌<◌, ◌≤◌}
use mathlib.Core.Path.{◌≡◌}
use mathlib.Core.Bool.{Bool, ◌||◌}
use mathlib.Core.List.{List, [], ◌∷◌}
use mathlib.Core.Logic.{⊎_elim}
use native.Mathlib.Omega.{arith}
use lib.Dec.{T, leb, eqb, leb→le, le→leb}
use lib.ListN.{length, drop}
use Rattle.lists.specs.Lists.{Words, at, Mem, all, from}
use Rattle.lists.proofs.Truth.{all-get, all-make, mem-from, from-mem, mem-up_to, up_to-mem, eq→eqb, eqb→≡, decided, or_inl, or_inr, or_cases}
use Rattle.rows.specs.Rows.{rising, no_key_twice}
use Rattle.meaning.specs.Sheet.{Sheet, tables, room}
use Rattle.meaning.specs.Plan.{kept, columns, store_length}
use Rattle.meaning.specs.Store.{parts_of, count, part_words, rows_at, sound_part, sound_table, sound}
use Rattle.laws.proofs.Lists.{Each, facts, facts-make}

pub record Sound (s : Sheet) (ws : Words) : Type 0 where
  pub long : length ws ≡ store_length s
  pub absent : (t : ℕ) → s.n ≤ t → t < 8 → at ws t ≡ 0
  pub within : (part : ℕ) → part ≤ s.n → count s ws part ≤ room s part
  pub in_order : (part : ℕ) → part ≤ s.n → T (rising (rows_at s ws part))
  pub unused : (part : ℕ) → part ≤ s.n → T (all (eqb 0) (drop (count s ws part * columns s part) (part_words s ws part)))
  pub unkept : (t : ℕ) → t < s.n → (T (kept s t) → ⊥) → count s ws t ≡ 0
  pub once : (t : ℕ) → t < s.n → T (no_key_twice (rows_at s ws t))

-- the tests, one by one: of the store, of a part, of a table
abbrev is_zero : Words → ℕ → Bool
is_zero ws t = eqb (at ws t) 0

abbrev store_tests : Sheet → Words → List Bool
store_tests s ws =
    eqb (length ws) (store_length s) ∷ all (is_zero ws) (from s.n (8 - s.n)) ∷ all (sound_part s ws) (parts_of s) ∷ all (sound_table s ws) (tables s) ∷ []

abbrev part_tests : Sheet → Words → ℕ → List Bool
part_tests s ws part =
    leb (count s ws part) (room s part) ∷ rising (rows_at s ws part) ∷ all (eqb 0) (drop (count s ws part * columns s part) (part_words s ws part)) ∷ []

abbrev table_tests : Sheet → Words → ℕ → List Bool
table_tests s ws t = (kept s t || eqb (count s ws t) 0) ∷ no_key_twice (rows_at s ws t) ∷ []

pub sound-get : (s : Sheet) (ws : Words) → T (sound s ws) → Sound s ws
unfolding sound sound_part sound_table
sound-get s ws h =
    record {
      long = eqb→≡ (length ws) (store_length s) tests.0;
      absent = λ t l k. eqb→≡ (at ws t) 0 (all-get (is_zero ws) (from s.n (8 - s.n)) tests.1.0 t (mem-from s.n (8 - s.n) t l (omega arith)));
      within = λ part l. leb→le (count s ws part) (room s part) (of_part part l).0;
      in_order = λ part l. (of_part part l).1.0;
      unused = λ part l. (of_part part l).1.1.0;
      unkept = λ t l k. eqb→≡ (count s ws t) 0 (⊎_elim (λ i. absurd (k i)) (λ e. e) (or_cases (kept s t) (eqb (count s ws t) 0) (of-table t l).0));
      once = λ t l. (of-table t l).1.0;
    }
  where
    tests : Each (store_tests s ws)
    tests = facts (store_tests s ws) h

    of_part : (part : ℕ) → part ≤ s.n → Each (part_tests s ws part)
    of_part part l = facts (part_tests s ws part) (all-get (sound_part s ws) (parts_of s) tests.1.1.0 part (mem-up_to (s.n + 1) part (omega arith)))

    of-table : (t : ℕ) → t < s.n → Each (table_tests s ws t)
    of-table t l = facts (table_tests s ws t) (all-get (sound_table s ws) (tables s) tests.1.1.1.0 t (mem-up_to s.n t l))

pub sound-make : (s : Sheet) → s.n ≤ 8 → (ws : Words) → Sound s ws → T (sound s ws)
unfolding sound sound_part sound_table
sound-make s eight ws h =
    let absent = all-make (is_zero ws) (from s.n (8 - s.n)) (λ t i.
    let b = from-mem s.n (8 - s.n) t i in eq→eqb (h.absent t b.0 (omega (arith, b.1)))) in
    let parts = all-make (sound_part s ws) (parts_of s) of_part in
    facts-make (store_tests s ws) (eq→eqb h.long, (absent, (parts, (all-make (sound_table s ws) (tables s) of-table, tt))))
  where
    of_part : (part : ℕ) → Mem part (parts_of s) → T (sound_part s ws part)
    of_part part i =
        let l : part ≤ s.n = omega (arith, up_to-mem (s.n + 1) part i) in
        facts-make (part_tests s ws part) (le→leb (count s ws part) (room s part) (h.within part l), (h.in_order part l, (h.unused part l, tt)))

    of-table : (t : ℕ) → Mem t (tables s) → T (sound_table s ws t)
    of-table t i =
        let l = up_to-mem s.n t i in
        let none = eqb (count s ws t) 0 in
        facts-make (table_tests s ws t)
        (⊎_elim (λ k. or_inl (kept s t) none k) (λ k. or_inr (kept s t) none (eq→eqb (h.unkept t l k))) (decided (kept s t)), (h.once t l, tt))
