-- A row's shown columns by the plan: each is a column of the row, and when all have been written the lent row is the side row.
-- Assumes nothing.
use Prim.Native.Nat.{ℕ, zero, suc, ◌+◌, ◌*◌, ◌<◌, ◌≤◌}
use mathlib.Core.Path.{◌≡◌, refl, sym, ap, ◌∙◌}
use mathlib.Core.List.{List, [], ◌∷◌, ◌++◌}
use native.Mathlib.Nat.{le_of_suc-le-suc, not-suc-le-zero}
use native.Mathlib.Omega.{arith}
use lib.ListN.{length, get_or, take, length-map}
use lib.Seq.{ext_get_or, take_at}
use Rattle.lists.specs.Lists.{Words, at}
use Rattle.lists.specs.Loops.{filled}
use Rattle.lists.proofs.Truth.{mem-get_or}
use Rattle.lists.proofs.Loops.{length-filled, get_or-filled, filled-end}
use Rattle.rows.specs.Rows.{Row, pick}
use Rattle.meaning.specs.Sheet.{Sheet, width}
use Rattle.meaning.specs.Plan.{shown}
use Rattle.laws.proofs.Columns.{shown-below}
use Rattle.sheet_plan.specs.declared.Plan.{Plan}
use Rattle.store.specs.Plans.{GoodPlan}

pub at-pick : (r : Row) (cols : List ℕ) (j : ℕ) → j < length cols → at (pick cols r) j ≡ at r (at cols j)
at-pick r [] j l = absurd (not-suc-le-zero l)
at-pick r (c ∷ cols) zero l = refl
at-pick r (c ∷ cols) (suc j) l = at-pick r cols j (le_of_suc-le-suc l)

-- the value of shown column j
unfoldable pub shown_value : Sheet → ℕ → Row → ℕ → ℕ
shown_value s t r j = at r (at (shown s t) j)

module _ {s : Sheet} {p : Plan} (plan : GoodPlan s p) (t : ℕ) (l : t < s.n) (j n : ℕ) (long : n ≡ length (shown s t)) (k : j < n) where
  -- its number stands in the plan
  pub shown-place : 8 * t + j < 64
  shown-place =
      omega (arith, plan.planned.tables-few, plan.planned.tables-are, plan.planned.shown-few t, long)

  pub shown-number : get_or p.shown (8 * t + j) 0 ≡ at (shown s t) j
  shown-number =
      plan.planned.shown-at t j (omega (arith, plan.planned.tables-few, plan.planned.tables-are)) (omega (arith, plan.planned.shown-few t, long))

  pub shown-column : (w c : ℕ) → w ≡ width s t → c ≡ get_or p.shown (8 * t + j) 0 → c < w
  shown-column w c q e = omega (arith, shown-number, shown-below s t (at (shown s t) j) (mem-get_or 0 (shown s t) j (omega arith)))

  pub shown-value : (r : Row) (c v : ℕ) → c ≡ get_or p.shown (8 * t + j) 0 → v ≡ at r c → v ≡ shown_value s t r j
  unfolding shown_value
  shown-value r c v e f = f ∙ ap (at r) (e ∙ shown-number)

-- the loop's end
pub shown-end : (s : Sheet) (t : ℕ) (r : Row) (k : ℕ) (old row : Words) → length old ≡ length (shown s t) → k ≤ length old → length old ≤ k
    → row ≡ filled (shown_value s t r) k old → row ≡ pick (shown s t) r
unfolding shown_value
shown-end s t r k old row len a b h =
    ext_get_or 0 row (pick (shown s t) r) many each
  where
    all : row ≡ filled (shown_value s t r) (length old) old
    all = filled-end (shown_value s t r) k (length old) old row a b h

    long : length row ≡ length old
    long = ap length all ∙ length-filled (shown_value s t r) (length old) old

    many : length row ≡ length (pick (shown s t) r)
    many = long ∙ len ∙ sym (length-map (shown s t) (at r))

    each : (i : ℕ) → i < length row → get_or row i 0 ≡ get_or (pick (shown s t) r) i 0
    each i l =
        ap (λ (w : Words). get_or w i 0) all ∙ get_or-filled (shown_value s t r) (length old) i 0 old (omega (arith, long)) (omega arith)
        ∙ sym (at-pick r (shown s t) i (omega (arith, long)))

-- in a row of eight words
pub shown-back : (n : ℕ) (x rest y : Words) → length x ≡ n → x ≡ y → take n (x ++ rest) ≡ y
shown-back n x rest y long e = take_at x rest n long ∙ e
