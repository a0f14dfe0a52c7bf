-- The part of a kept table in a store that stands for a model, as the plan says where it lies: its columns, its rows, and what a call leaves that
-- writes it, or that leaves an unkept table as it was.
-- Assumes nothing.
use Prim.Native.Nat.{ℕ, ◌<◌, ◌≤◌}
use mathlib.Core.Path.{◌≡◌, sym, ap, ◌∙◌, subst}
use native.Mathlib.Omega.{arith}
use lib.Dec.{T}
use lib.ListN.{length, get_or, take, length-map}
use Rattle.lists.specs.Lists.{Words, at}
use Rattle.rows.specs.Rows.{Row, Rows, pick}
use Rattle.meaning.specs.Sheet.{Sheet}
use Rattle.meaning.specs.Plan.{kept, shown}
use Rattle.meaning.specs.Store.{rows_at}
use Rattle.laws.specs.Sheets.{Good}
use Rattle.laws.proofs.Columns.{columns-side, shown-first}
use Rattle.sheet_plan.specs.declared.Plan.{Plan}
use Rattle.places.specs.Stands.{Stands, with_part}
use Rattle.store.specs.declared.Part.{Part}
use Rattle.store.specs.Parts.{rows_in, Lies, Kept, Wrote}
use Rattle.store.specs.Plans.{GoodPlan, part_of}
use Rattle.store.proofs.Lying.{rows_is, lies-kept, wrote-stands, lies-rows}
use Rattle.store.proofs.Plans.{marked, part_lies}
use Rattle.side_table.specs.declared.Entry.{Entry}
use Rattle.side_table.specs.Sides.{Begins, IsEntry, Modelled, Sided}

-- q is the part of table t, a kept one of a good sheet
pub record Side (s : Sheet) (t : ℕ) (q : Part) : Type 0 where
  pub good : Good s
  pub there : t < s.n
  pub is-kept : T (kept s t)
  pub few : length (shown s t) ≤ 8
  pub lies : Lies s t q

-- so it is where the plan says
pub side-planned : (s : Sheet) (p : Plan) → GoodPlan s p → (t : ℕ) → t < s.n → T (kept s t) → (q : Part) → q ≡ part_of p t → Side s t q
side-planned s p plan t l k q e =
    record { good = plan.good; there = l; is-kept = k; few = plan.planned.shown-few t; lies = part_lies s p plan t (omega arith) q e }

-- or where a row for it belongs
pub entry-side : (s : Sheet) (p : Plan) → GoodPlan s p → (t : ℕ) → t < s.n → {r : Row} {e : Entry} → IsEntry s t r e → Side s t e.part
entry-side s p plan t l is = record { good = plan.good; there = l; is-kept = is.is-kept; few = plan.planned.shown-few t; lies = is.lies }

-- and its mark says that t is kept
pub side-marked : (s : Sheet) (p : Plan) → GoodPlan s p → (t : ℕ) → t < s.n → (get_or p.kept t 0 ≡ 0 → ⊥) → (q : Part) → q ≡ part_of p t → Side s t q
side-marked s p plan t l d q e = side-planned s p plan t l (marked s p plan t l d) q e

module _ {s : Sheet} {t : ℕ} {q : Part} (side : Side s t q) where
  -- its rows have a column for each that is shown, at most eight
  pub side-columns : q.columns ≡ length (shown s t)
  side-columns = side.lies.columns-is ∙ columns-side s t side.there side.is-kept

  pub side-some : 0 < q.columns
  side-some = omega (arith, side-columns, ap length (shown-first s side.good t side.there).1)

  pub side-narrow : q.columns ≤ 8
  side-narrow = omega (arith, side-columns, side.few)

  pub side-rows : (ws : Words) → rows_in q ws ≡ rows_at s ws t
  side-rows ws = rows_is s t q side.lies ws

  module _ {ws : Words} (m : Modelled s ws) where
    pub side-kept : Kept q ws
    side-kept = lies-kept s t q side.lies side.good ws m.model m.stands

    -- what is written in it stands for the model with these rows
    pub side-wrote : (f : Rows → Rows) (rows : Rows) (after : Words) → Wrote q rows ws after → rows ≡ f (rows_in q ws) → Sided s t f ws after
    side-wrote f rows after w is =
        record {
          stands = λ n st. subst (λ (r : Rows). Stands s after (with_part n t r)) (is ∙ ap f (lies-rows s t q side.lies side.good ws n st))
              (wrote-stands s t q side.lies side.good ws n st rows after w);
        }

  -- r's shown columns, at the head of a row of eight words
  pub side-head : {row r : Row} → Begins s t r row → take q.columns row ≡ pick (shown s t) r
  side-head {row} b = ap (λ (w : ℕ). take w row) side-columns ∙ b.head

  pub side-long : {row r : Row} → Begins s t r row → length (take q.columns row) ≡ q.columns
  side-long {row} {r} b = ap length (side-head b) ∙ length-map (shown s t) (at r) ∙ sym side-columns
