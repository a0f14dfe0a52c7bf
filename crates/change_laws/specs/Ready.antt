-- All that a change below its tests rests on: a good sheet, its plan, by which its walks go, and a store that is sound for it.
-- Assumes nothing.
use Rattle.std.specs.Prelude.{T}
use Rattle.lists.specs.Lists.{Words}
use Rattle.meaning.specs.Sheet.{sheet_of}
use Rattle.meaning.specs.Store.{sound}
use Rattle.sheet.specs.Tree.{GoodSheet}
use Rattle.sheet_plan.specs.declared.Plan.{Plan}
use Rattle.walk.specs.Routes.{route_of}
use Rattle.walk.specs.Grounds.{Routed}
use Rattle.store.specs.Plans.{GoodPlan}

pub record Ready (ws store : Words) (plan : Plan) : Type 0 where
  -- its words are within their rules (.joined .rules), and it is not refused (.not-refused)
  pub sheet : GoodSheet ws
  pub planned : GoodPlan (sheet_of ws) plan
  pub routed : Routed ws (route_of plan)
  pub sound : T (sound (sheet_of ws) store)
