-- A ready store, and what stands in it when its list's part is written and its changed table's is not yet, and when both are.
-- Assumes nothing.
use Prim.Native.Nat.{ℕ, ◌<◌, ◌≤◌}
use mathlib.Core.Path.{◌≡◌, ◌∙◌, subst}
use native.Mathlib.Omega.{arith}
use Rattle.lists.specs.Lists.{Words}
use Rattle.rows.specs.Rows.{Row, Rows}
use Rattle.meaning.specs.Answers.{Outcome}
use Rattle.meaning.specs.Sheet.{sheet_of}
use Rattle.meaning.specs.Store.{part_rows, rows_at, model_of}
use Rattle.laws.specs.Sheets.{Good}
use Rattle.laws.proofs.Stores.{model-many, model-part}
use Rattle.sheet.proofs.Words.{n-is}
use Rattle.places.specs.Stands.{Stands, with_part}
use Rattle.places.proofs.Models.{with-other}
use Rattle.places.proofs.Stands.{sound-stands, stands-rows}
use Rattle.effects.specs.Applied.{done}
use Rattle.effects.proofs.Written.{done-words}
use Rattle.sheet_plan.specs.declared.Plan.{Plan}
use Rattle.walk.specs.Routes.{route_of}
use Rattle.walk.specs.Grounds.{Ground, Lent}
use Rattle.walk.proofs.Grounds.{ground}
use Rattle.store.specs.declared.Part.{Part}
use Rattle.store.specs.Answers.{accepts, Says}
use Rattle.store.specs.Parts.{rows_in, Lies, Wrote}
use Rattle.store.specs.Plans.{part_of}
use Rattle.store.proofs.Lying.{rows_is, wrote-stands}
use Rattle.store.proofs.Plans.{list-lies}
use Rattle.side_table.specs.Sides.{Modelled, Sided}
use Rattle.change_laws.specs.Ready.{Ready}
use Rattle.change_laws.proofs.Answers.{says_all}

module _ {ws store : Words} {plan : Plan} (rd : Ready ws store plan) where
  pub ready-good : Good (sheet_of ws)
  ready-good = rd.planned.good

  pub ready-ground : Ground ws store (route_of plan)
  ready-ground = ground ws store (route_of plan) rd.sheet.not-refused rd.routed rd.sound

  pub ready-tables : (plan.tables ≤ 8) × (plan.tables ≤ plan.tables)
  ready-tables = (rd.planned.planned.tables-few, omega arith)

  pub ready-list : (list : Part) → list ≡ part_of plan plan.tables → Lies (sheet_of ws) (sheet_of ws).n list
  ready-list = list-lies (sheet_of ws) plan rd.planned

  pub ready-stands : Stands (sheet_of ws) store (model_of (sheet_of ws) store)
  ready-stands = sound-stands (sheet_of ws) ready-good store rd.sound

  pub ready-table : {t : ℕ} {r : Row} → Lent ws t r → t < (sheet_of ws).n
  ready-table lent = rw (n-is ws) lent.table

  -- the list has got its rows
  module _ (list : Part) (lies : Lies (sheet_of ws) (sheet_of ws).n list) (rows : Rows) (mid : Words) (w : Wrote list rows store mid) where
    half-stands : Stands (sheet_of ws) mid (with_part (model_of (sheet_of ws) store) (sheet_of ws).n rows)
    half-stands = wrote-stands (sheet_of ws) (sheet_of ws).n list lies ready-good store (model_of (sheet_of ws) store) ready-stands rows mid w

    pub half-modelled : Modelled (sheet_of ws) mid
    half-modelled = record { model = with_part (model_of (sheet_of ws) store) (sheet_of ws).n rows; stands = half-stands }

    -- the side tables are as they were
    module _ (t : ℕ) (l : t < (sheet_of ws).n) where
      half-part : part_rows (with_part (model_of (sheet_of ws) store) (sheet_of ws).n rows) t ≡ rows_at (sheet_of ws) store t
      half-part =
          let s = sheet_of ws in
          with-other (model_of s store) s.n (model-many s store) rows s.n t (omega arith) (omega arith) ∙ model-part s store t (omega arith)

      pub half-side : rows_at (sheet_of ws) mid t ≡ rows_at (sheet_of ws) store t
      half-side = stands-rows (sheet_of ws) ready-good mid (with_part (model_of (sheet_of ws) store) (sheet_of ws).n rows) half-stands t (omega arith)
          ∙ half-part

      -- and then table t's
      both_words : (f : Rows → Rows) (exit : Words) → Sided (sheet_of ws) t f mid exit → (taken added : ℕ)
          → exit ≡ (done (sheet_of ws) store t taken added (f (rows_at (sheet_of ws) store t)) rows).words
      both_words f exit si taken added =
          let s = sheet_of ws in
          let m = model_of s store in
          done-words s ready-good store exit t taken added l (f (rows_at s store t)) rows
          (subst (λ (side : Rows). Stands s exit (with_part (with_part m s.n rows) t (f side))) half-part (si.stands (with_part m s.n rows) half-stands))

  -- what a change answers that is done: the list's rows are g of what they were, and table t's side rows f of what they were
  module _ (list : Part) (lies : Lies (sheet_of ws) (sheet_of ws).n list) (g f : Rows → Rows) (mid exit : Words)
      (w : Wrote list (g (rows_in list store)) store mid) (t : ℕ) (l : t < (sheet_of ws).n) (si : Sided (sheet_of ws) t f mid exit) where
    pub says_both : (k j taken added : ℕ) (o : Outcome)
        → o ≡ done (sheet_of ws) store t k j (f (rows_at (sheet_of ws) store t)) (g (rows_at (sheet_of ws) store (sheet_of ws).n))
        → taken ≡ k → added ≡ j → Says o (accepts taken added) exit
    says_both k j taken added o e p q =
        let s = sheet_of ws in
        let listed = g (rows_at s store s.n) in
        let wrote = subst (λ (rows : Rows). Wrote list (g rows) store mid) (rows_is s s.n list lies store) w in
        says_all s store t k j (f (rows_at s store t)) listed o taken added exit e p q (both_words list lies listed mid wrote t l f exit si k j)
