-- An update that leaves the key and the tied columns as they were: what the test of it says, and that old and new row are qualified together.
-- Assumes nothing.
use Prim.Native.Nat.{ℕ, ◌<◌}
use mathlib.Core.Path.{◌≡◌, refl, ap, ap₂, subst}
use mathlib.Core.Bool.{not, ◌&&◌, ◌||◌}
use mathlib.Core.Logic.{⊎_elim}
use lib.Dec.{T, eqb}
use Rattle.lists.specs.Lists.{at, up_to}
use Rattle.lists.proofs.Truth.{not→F, all-get, all_same, any-make, mem-select, select-mem, mem-up_to, eq→eqb, eqb→≡, or_inl, or_inr, or_cases}
use Rattle.rows.specs.Rows.{Row, Rows, key, has_key}
use Rattle.meaning.specs.Sheet.{Sheet, width, leaves, edges_from}
use Rattle.meaning.specs.Plan.{promised, is_child_column, conditions_on, in_condition}
use Rattle.meaning.specs.Base.{has_parent_in, tied, same_tied}
use Rattle.meaning.specs.Meaning.{within, meets, qualified}
use Rattle.laws.specs.Sheets.{Good}
use Rattle.laws.specs.Updates.{Tied}
use Rattle.laws.proofs.Trees.{promised-is}

-- what `same_tied` says
pub tied-get : (s : Sheet) → Good s → (t : ℕ) (r r' : Row) → key r ≡ key r' → T (same_tied s t r r') → Tied s t r r'
unfolding tied same_tied
tied-get s g t r r' k h =
    record {
      keys = k;
      conditions = λ d m q. column d.column (subst (λ (u : ℕ). d.column < width s u) q (g.condition-column d m))
          (or_inl (in_condition s t d.column) (is_child_column s t d.column)
          (any-make (λ c. eqb c.column d.column) (conditions_on s t) d (select-mem (λ d. eqb d.table t) s.conditions d m (eq→eqb q))
          (eq→eqb {m = d.column} refl)));
      children = λ e m q. column e.column (subst (λ (u : ℕ). e.column < width s u) q (g.column-in e m))
          (or_inr (in_condition s t e.column) (is_child_column s t e.column)
          (any-make (λ c. eqb c.column e.column) (edges_from s t) e (select-mem (leaves t) s.edges e m (eq→eqb q)) (eq→eqb {m = e.column} refl)));
    }
  where
    column : (c : ℕ) → c < width s t → T (tied s t c) → at r c ≡ at r' c
    column c l q =
        ⊎_elim (λ n. absurd (not→F (tied s t c) n q)) (λ e. eqb→≡ (at r c) (at r' c) e)
        (or_cases (not (tied s t c)) (eqb (at r c) (at r' c))
        (all-get (λ c. not (tied s t c) || eqb (at r c) (at r' c)) (up_to (width s t)) h c (mem-up_to (width s t) c l)))

-- so the new row is qualified exactly if the old one is
pub tied-qualified : (s : Sheet) (t : ℕ) (r r' : Row) → Tied s t r r' → (F : ℕ → Rows) → qualified s F t r ≡ qualified s F t r'
unfolding qualified meets
tied-qualified s t r r' tie F =
    ap₂ ◌&&◌
    (all_same (λ d. within d (at r d.column)) (λ d. within d (at r' d.column)) (conditions_on s t) (λ d m.
    let w = mem-select (λ d. eqb d.table t) s.conditions d m in
    ap (within d) (tie.conditions d w.0 (eqb→≡ d.table t w.1))))
    (all_same (has_parent_in F r) (has_parent_in F r') (promised s t)
    (λ e m. let p = promised-is s t e m in ap (λ k. has_key k (F e.parent)) (tie.children e p.edge p.child)))
