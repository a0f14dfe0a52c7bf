-- What the check of a sheet says to the calls that go on from it.
-- Assumes nothing.
use mathlib.Core.Path.{◌≡◌}
use Rattle.std.specs.Prelude.{Ok}
use Rattle.lists.specs.Lists.{Words}
use Rattle.meaning.specs.Sheet.{sheet_of}
use Rattle.laws.proofs.Sheets.{good-sheet}
use Rattle.sheet_plan.specs.declared.Plan.{Plan}
use Rattle.sheet_plan.specs.Plans.{checked_of}
use Rattle.sheet_plan.proofs.Planning.{checked-zero, planned}
use Rattle.store.specs.Plans.{GoodPlan, OfSheet}

module _ (ws : Words) (p : Plan) (e : Ok p ≡ checked_of ws) where
  pub check-plan : GoodPlan (sheet_of ws) p
  check-plan = record { good = good-sheet ws (checked-zero ws p e); planned = planned ws p e }

  pub check-of : OfSheet p
  check-of = record { sheet = sheet_of ws; is = check-plan }
