-- A side table's count against its room.
-- Assumes nothing.
use Prim.Native.Nat.{ℕ, ◌<◌}
use mathlib.Core.Path.{◌≡◌, sym, ap, ap₂, ◌∙◌}
use mathlib.Core.Bool.{Bool, true, false}
use mathlib.Core.List.{List}
use native.Mathlib.Omega.{arith}
use lib.Dec.{T, leb}
use lib.ListN.{length, get_or}
use borrow.Author.Tests.{le-leb}
use Rattle.lists.specs.Lists.{Words, at}
use Rattle.rows.specs.Rows.{Rows}
use Rattle.meaning.specs.Sheet.{room, sheet_of, table_count}
use Rattle.meaning.specs.Plan.{kept}
use Rattle.laws.proofs.Qualified.{side-unkept}
use Rattle.sheet.specs.Counted.{counted}
use Rattle.sheet.proofs.Words.{n-is}
use Rattle.sheet_plan.specs.declared.Plan.{Plan}
use Rattle.store.specs.Plans.{GoodPlan}
use Rattle.store.proofs.Plans.{marked, unmarked}
use Rattle.filling.specs.Runs.{row_no}
use Rattle.filling.specs.Qualifies.{passing}
use Rattle.filling.specs.Written.{side_fits}
use Rattle.filling.proofs.Sides.{side-count}
use Rattle.base_run.specs.Bases.{tables_of}
use Rattle.base_run.proofs.Steps.{good_of}
use Rattle.base_run.proofs.Tests.{rows-count}
use Rattle.base_qualified.specs.Qualifying.{passes_no, passing_count}
use Rattle.base_qualified.proofs.Bases.{Based}
use Rattle.fill_sides.specs.Sides.{side_of, fits_no}

-- with all tables left on the path
pub passes-all : (ws run : Words) (n t i : ℕ) → n ≡ table_count ws
    → passes_no ws run false n t i ≡ passing (sheet_of ws) (tables_of ws run) false (sheet_of ws).n t (row_no (tables_of ws run) t i)
unfolding passes_no
passes-all ws run n t i all = ap (λ (k : ℕ). passing (sheet_of ws) (tables_of ws run) false k t (row_no (tables_of ws run) t i)) (all ∙ sym (n-is ws))

-- the rows that pass are as many as the side table's
pub count-is : {ws run : Words} {starts order : List ℕ} → Based ws run starts order → {t : ℕ} → t < table_count ws → T (kept (sheet_of ws) t)
    → (many : ℕ) → many ≡ passing_count ws run false t → many ≡ length (side_of ws run t)
unfolding side_of passes_no passing_count
count-is {ws} {run} b {t} l k many e =
    let passed : ℕ → ℕ → Bool = λ n i. passing (sheet_of ws) (tables_of ws run) false n t (row_no (tables_of ws run) t i) in
    e
    ∙ ap (λ (n : ℕ). counted (passed n) (at run t)) (sym (n-is ws))
    ∙ ap (counted (passed (sheet_of ws).n)) (sym (rows-count b.laid t l))
    ∙ sym (side-count (sheet_of ws) (good_of ws b.laid.good) (tables_of ws run) t (omega (arith, n-is ws)) k)

module _ (ws : Words) {p : Plan} (plan : GoodPlan (sheet_of ws) p) {t : ℕ} (l : t < table_count ws) where
  inside : t < (sheet_of ws).n
  inside = omega (arith, n-is ws)

  pub kept_here : (get_or p.kept t 0 ≡ 0 → ⊥) → T (kept (sheet_of ws) t)
  kept_here d = marked (sheet_of ws) p plan t inside d

  pub unkept-here : get_or p.kept t 0 ≡ 0 → T (kept (sheet_of ws) t) → ⊥
  unkept-here e = unmarked (sheet_of ws) p plan t inside e

  pub fits-unkept : (run : Words) → get_or p.kept t 0 ≡ 0 → true ≡ fits_no ws run t
  unfolding fits_no side_fits
  fits-unkept run e =
      sym (ap (λ (rows : Rows). leb (length rows) (room (sheet_of ws) t)) (side-unkept (sheet_of ws) (tables_of ws run) t (unkept-here e))
      ∙ le-leb 0 (room (sheet_of ws) t) (omega arith))

  room-is : get_or p.rooms t 0 ≡ room (sheet_of ws) t
  room-is = plan.planned.rooms-at t (omega (arith, n-is ws))

  pub fits-kept : (run : Words) (many : ℕ) → many ≡ length (side_of ws run t) → leb many (get_or p.rooms t 0) ≡ fits_no ws run t
  unfolding fits_no side_fits side_of
  fits-kept run many e = ap₂ leb e room-is
