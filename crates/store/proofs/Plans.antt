-- The plan of a good sheet holds what the definitions say, part by part.
-- Assumes nothing.
use Prim.Native.Nat.{ℕ, ◌+◌, ◌<◌, ◌≤◌}
use mathlib.Core.Path.{◌≡◌, refl, sym, ap, ◌∙◌, subst}
use mathlib.Core.Bool.{cond}
use mathlib.Core.Logic.{⊎_elim}
use native.Mathlib.Omega.{arith}
use borrow.Author.Tests.{lt-ltb, le-ltb}
use lib.Dec.{T, ltb}
use lib.ListN.{length, get_or}
use Rattle.lists.specs.Lists.{Words}
use Rattle.lists.proofs.Truth.{decided, cond-true, cond-false}
use Rattle.meaning.specs.Sheet.{Sheet}
use Rattle.meaning.specs.Plan.{kept, store_length}
use Rattle.laws.proofs.Columns.{columns-side, shown-first}
use Rattle.sheet_plan.specs.declared.Plan.{Plan}
use Rattle.places.proofs.Parts.{start-after}
use Rattle.store.specs.declared.Part.{Part}
use Rattle.store.specs.Parts.{Lies, Within}
use Rattle.store.specs.Plans.{GoodPlan, OfSheet, part_at, part_of}
use Rattle.store.proofs.Lying.{lies_within}

-- a part by the plan's arrays: a table's, and the list's
pub table_at : (p : Plan) (t : ℕ) → t < p.tables → part_at p.starts p.columns p.rooms t t ≡ part_of p t
unfolding part_of
table_at p t l = rw (lt-ltb t p.tables l)

pub list_at : (p : Plan) (number : ℕ) → p.tables ≤ number → part_at p.starts p.columns p.rooms 8 number ≡ part_of p number
unfolding part_of
list_at p number l = rw (le-ltb number p.tables l)

module _ (s : Sheet) (p : Plan) (plan : GoodPlan s p) where
  pub tables-is : p.tables ≡ s.n
  tables-is = plan.planned.tables-are

  pub store_is : p.store ≡ store_length s
  store_is = plan.planned.store_is

  pub marked : (t : ℕ) → t < s.n → (get_or p.kept t 0 ≡ 0 → ⊥) → T (kept s t)
  marked t l d = ⊎_elim (λ k. k) (λ k. absurd (d (plan.planned.kept-at t l ∙ cond-false (kept s t) 1 0 k))) (decided (kept s t))

  pub unmarked : (t : ℕ) → t < s.n → get_or p.kept t 0 ≡ 0 → T (kept s t) → ⊥
  unmarked t l e k = let one-is : get_or p.kept t 0 ≡ 1 = plan.planned.kept-at t l ∙ cond-true (kept s t) 1 0 k in omega arith

  -- the parts lie where it says
  pub part_lies : (number : ℕ) → number ≤ s.n → (q : Part) → q ≡ part_of p number → Lies s number q
  unfolding part_of
  part_lies number l q e =
      subst (Lies s number) (sym e)
      (record {
        number_in = l;
        slot_is = ap (λ (n : ℕ). cond (ltb number n) number 8) tables-is;
        start_is = plan.planned.starts-at number (omega arith);
        columns-is = plan.planned.columns-at number l;
        room-is = plan.planned.rooms-at number l;
      })

  pub list-lies : (q : Part) → q ≡ part_of p p.tables → Lies s s.n q
  list-lies q e = part_lies s.n (omega arith) q (e ∙ ap (part_of p) tables-is)

  -- a kept table has columns
  pub kept-columns : (t : ℕ) → t < s.n → T (kept s t) → 0 < (part_of p t).columns
  unfolding part_of
  kept-columns t l k =
      let e = shown-first s plan.good t l in
      omega (arith, (part_lies t (omega arith) (part_of p t) refl).columns-is, columns-side s t l k, ap length e.1)

-- What the code needs to know to be safe
module _ (p : Plan) (of : OfSheet p) where
  pub few : p.tables ≤ 8
  few = of.is.planned.tables-few

  pub nine : 9 ≤ p.store
  unfolding store_length
  nine = omega (arith, store_is of.sheet p of.is, start-after of.sheet (of.sheet.n + 1))

  pub within-store : (number : ℕ) (q : Part) (ws : Words) → number ≤ p.tables → q ≡ part_of p number → length ws ≡ p.store → Within q ws
  within-store number q ws l e long =
      let s = of.sheet in
      lies_within s number q (part_lies s p of.is number (omega (arith, tables-is s p of.is)) q e) of.is.good ws (long ∙ store_is s p of.is)

  pub has-columns : (t : ℕ) (q : Part) → t < p.tables → (get_or p.kept t 0 ≡ 0 → ⊥) → q ≡ part_of p t → 0 < q.columns
  has-columns t q l d e =
      let i : t < of.sheet.n = omega (arith, tables-is of.sheet p of.is) in
      rw e (kept-columns of.sheet p of.is t i (marked of.sheet p of.is t i d))
