-- The marks of the shown columns, and the columns they stand for.
-- Assumes nothing.
use Prim.Native.Nat.{ℕ, ◌+◌, ◌*◌, ◌/◌, ◌%◌, ◌<◌, ◌≤◌}
use mathlib.Core.Path.{◌≡◌, refl, sym, ap, ◌∙◌}
use mathlib.Core.Bool.{Bool, true, false, ◌&&◌}
use mathlib.Core.List.{List, map}
use native.Mathlib.Omega.{arith}
use lib.Dec.{eqb, ltb}
use lib.ListN.{get_or, replicate, length-map, get_or-eq_default}
use borrow.Author.Tests.{le-ltb, ltb-true, ltb-false}
use Rattle.lists.specs.Lists.{Words, at, up_to}
use Rattle.lists.specs.Totals.{one}
use Rattle.lists.proofs.Truth.{up_to-mem, select-same}
use Rattle.lists.specs.Loops.{filled}
use Rattle.lists.proofs.Loops.{length-filled, get_or-filled}
use Rattle.lists.proofs.Places.{length_from}
use Rattle.meaning.specs.Sheet.{sheet_of, width, has_column, table_count}
use Rattle.meaning.specs.Plan.{is_shown, shown}
use Rattle.sheet.specs.Rules.{Rules}
use Rattle.sheet.specs.Numbered.{width_no}
use Rattle.sheet.proofs.Words.{n-is, width_is, widths-are}
use Rattle.sheet_plan.specs.Marks.{has_mark, marked_in, marked_at, lists_of, UnmarkedFrom}
use Rattle.sheet_plan.specs.Plans.{shows_at, shows_of, shown_at, shown_of}
use Rattle.sheet_plan.proofs.Chosen.{select-narrow, filled-same}

-- a mark is 1 exactly if the test is passed
pub one-is : (b : Bool) → eqb (one b) 1 ≡ b
one-is true = refl
one-is false = refl

module _ (ws : Words) (r : Rules ws) where
  -- a table that is not there has no columns
  pub width-past : (t : ℕ) → table_count ws ≤ t → width (sheet_of ws) t ≡ 0
  width-past t h =
      ap (λ (l : List ℕ). at l t) (widths-are ws r.counts)
      ∙ get_or-eq_default (map (width_no ws) (up_to (table_count ws))) 0
      (omega (arith, length-map (up_to (table_count ws)) (width_no ws), length_from 0 (table_count ws)))

  pub width_small : (t : ℕ) → width (sheet_of ws) t ≤ 8
  width_small t = go (ltb t (table_count ws)) refl
    where
      go : (b : Bool) → ltb t (table_count ws) ≡ b → width (sheet_of ws) t ≤ 8
      go true e = let l = ltb-true t (table_count ws) e in omega (arith, width_is ws t l, (r.widths t l).high)
      go false e = omega (arith, width-past t (ltb-false t (table_count ws) e))

  pub has-column : (t c : ℕ) → has_column (sheet_of ws) t c ≡ ltb c (width (sheet_of ws) t)
  has-column t c = go (ltb t (table_count ws)) refl
    where
      go : (b : Bool) → ltb t (table_count ws) ≡ b → has_column (sheet_of ws) t c ≡ ltb c (width (sheet_of ws) t)
      go true e = ap (λ (b : Bool). b && ltb c (width (sheet_of ws) t)) (ap (ltb t) (n-is ws) ∙ e)
      go false e =
          ap (λ (b : Bool). b && ltb c (width (sheet_of ws) t)) (ap (ltb t) (n-is ws) ∙ e)
          ∙ sym (le-ltb c (width (sheet_of ws) t) (omega (arith, width-past t (ltb-false t (table_count ws) e))))

  -- the marks of table t
  pub marked-shows : (t c : ℕ) → t < 8 → c < 8 → has_mark (shows_of (sheet_of ws)) t c ≡ (ltb c (width (sheet_of ws) t) && is_shown (sheet_of ws) t c)
  unfolding has_mark shows_of shows_at
  marked-shows t c h l =
      let q : (8 * t + c) / 8 ≡ t = omega arith in
      let m : (8 * t + c) % 8 ≡ c = omega arith in
      rw (get_or-filled (shows_at (sheet_of ws)) 64 (8 * t + c) 0 (replicate 64 0) (omega arith) (omega arith), q, m, one-is, has-column t c)

  -- nothing is marked behind the tables
  pub shows-past : (m : List ℕ) (n : ℕ) → m ≡ shows_of (sheet_of ws) → n ≡ table_count ws → UnmarkedFrom (8 * n) m
  unfolding shows_of shows_at
  shows-past m n e q i h = ap (λ (l : List ℕ). get_or l i 0) e ∙ go (ltb i 64) refl
    where
      go : (b : Bool) → ltb i 64 ≡ b → get_or (filled (shows_at (sheet_of ws)) 64 (replicate 64 0)) i 0 ≡ 0
      go true z =
          get_or-filled (shows_at (sheet_of ws)) 64 i 0 (replicate 64 0) (ltb-true i 64 z) (omega arith)
          ∙ rw (ap (ltb (i / 8)) (n-is ws) ∙ le-ltb (i / 8) (table_count ws) (omega arith)) refl
      go false z =
          get_or-eq_default (filled (shows_at (sheet_of ws)) 64 (replicate 64 0)) 0
          (omega (arith, ltb-false i 64 z, length-filled (shows_at (sheet_of ws)) 64 (replicate 64 0)))

  pub marked-columns : (t : ℕ) → t < 8 → marked_in (shows_of (sheet_of ws)) t ≡ shown (sheet_of ws) t
  unfolding marked_in shown
  marked-columns t h =
      select-same (has_mark (shows_of (sheet_of ws)) t) (λ c. ltb c (width (sheet_of ws) t) && is_shown (sheet_of ws) t c) (up_to 8)
      (λ c m. marked-shows t c h (up_to-mem 8 c m))
      ∙ select-narrow (is_shown (sheet_of ws) t) (width (sheet_of ws) t) 8 (width_small t)

  pub lists-shown : lists_of (shows_of (sheet_of ws)) ≡ shown_of (sheet_of ws)
  unfolding lists_of shown_of shown_at marked_at
  lists-shown =
      filled-same (λ i. at (marked_in (shows_of (sheet_of ws)) (i / 8)) (i % 8)) (λ i. at (shown (sheet_of ws) (i / 8)) (i % 8)) 64 (replicate 64 0)
      (λ i l. ap (λ (cs : List ℕ). at cs (i % 8)) (marked-columns (i / 8) (omega arith)))
