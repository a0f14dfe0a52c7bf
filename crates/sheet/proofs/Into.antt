-- The edges into a table, by number, and the walk from a table to the root.
-- Assumes nothing.
use Prim.Native.Nat.{ℕ, zero, suc, ◌-◌, ◌<◌, ◌≤◌}
use mathlib.Core.Path.{◌≡◌, refl, sym, ap, ◌∙◌}
use mathlib.Core.Bool.{Bool, true, false, or-false}
use mathlib.Core.List.{List, [], ◌∷◌}
use native.Mathlib.Numerals.{sub-one}
use native.Mathlib.Omega.{arith}
use lib.Dec.{eqb-suc-zero}
use lib.ListN.{length}
use borrow.Author.Tests.{leb-true}
use Rattle.lists.specs.Lists.{Words, select}
use Rattle.lists.specs.Loops.{every, first}
use Rattle.lists.proofs.Loops.{every-at}
use Rattle.meaning.specs.Sheet.{Edge, sheet_of, goes_into, edges_into, table_count, edge_count}
use Rattle.sheet.specs.Counted.{counted}
use Rattle.sheet.specs.Numbered.{edge_no}
use Rattle.sheet.specs.Rules.{Rules}
use Rattle.sheet.proofs.Numbers.{length_up, select-none, select-first, found, not_found}
use Rattle.sheet.proofs.Words.{edges_are}
use Rattle.sheet.specs.Tree.{goes_no, one_into, reached_no, Joined}

-- how many there are
pub into-many : (ws : Words) (t : ℕ) → length (edges_into (sheet_of ws) t) ≡ counted (goes_no ws t) (edge_count ws)
unfolding goes_no
into-many ws t = ap (λ (l : List Edge). length (select (goes_into t) l)) (edges_are ws) ∙ length_up (goes_into t) (edge_no ws) (edge_count ws)

-- the first of them, or none
module _ (ws : Words) (t i : ℕ) (e : i ≡ first (goes_no ws t) (edge_count ws)) where
  pub into-none : edge_count ws ≤ i → edges_into (sheet_of ws) t ≡ []
  unfolding goes_no
  into-none h = ap (select (goes_into t)) (edges_are ws) ∙ select-none (goes_into t) (edge_no ws) (edge_count ws) (not_found _ _ i e h)

  pub into-first : i < edge_count ws → (rest : List Edge) × (edges_into (sheet_of ws) t ≡ edge_no ws i ∷ rest)
  unfolding goes_no
  into-first h =
      let x = select-first (goes_into t) (edge_no ws) (edge_count ws) (found _ _ i e h) in
      (x.0, ap (select (goes_into t)) (edges_are ws) ∙ x.1 ∙ ap (λ (k : ℕ). edge_no ws k ∷ x.0) (sym e))

  pub into-only : length (edges_into (sheet_of ws) t) ≤ 1 → i < edge_count ws → edges_into (sheet_of ws) t ≡ edge_no ws i ∷ []
  into-only l h = let x = into-first h in go x.0 x.1
    where
      go : (rest : List Edge) → edges_into (sheet_of ws) t ≡ edge_no ws i ∷ rest → edges_into (sheet_of ws) t ≡ edge_no ws i ∷ []
      go [] q = q
      go (y ∷ rest) q = absurd (omega (arith, ap length q))

  -- the ways through `is_reached`
  pub reached-root : (left : ℕ) → edge_count ws ≤ i → true ≡ reached_no ws left t
  unfolding reached_no
  reached-root zero h = rw (into-none h)
  reached-root (suc left) h = rw (into-none h)

  pub reached-stop : (left : ℕ) → left ≡ 0 → i < edge_count ws → false ≡ reached_no ws left t
  unfolding reached_no
  reached-stop left z h = rw (z, (into-first h).1, eqb-suc-zero)

  pub reached-on : (left : ℕ) (b : Bool) → (left ≡ 0 → ⊥) → length (edges_into (sheet_of ws) t) ≤ 1 → i < edge_count ws
      → b ≡ reached_no ws (left - 1) (edge_no ws i).child → b ≡ reached_no ws left t
  unfolding reached_no
  reached-on zero b z l h q = absurd (z refl)
  reached-on (suc left) b z l h q = rw (into-only l h, or-false, ← sub-one (suc left)) q

pub joined : (ws : Words) → Rules ws → every (one_into ws) (table_count ws) ≡ true → Joined ws
unfolding one_into
joined ws r h = record { rules = r; one-into = λ t l. leb-true _ _ (every-at (one_into ws) t _ l h) }
