-- What fill has tested before it goes on to the base tables: the sheet and the store's length.
-- Assumes nothing.
use Rattle.std.specs.Prelude.{◌≡◌, length}
use Rattle.lists.specs.Lists.{Words}
use Rattle.meaning.specs.Sheet.{sheet_of}
use Rattle.meaning.specs.Plan.{store_length}
use Rattle.sheet.specs.Tree.{GoodSheet}
use Rattle.sheet_plan.specs.declared.Plan.{Plan}
use Rattle.store.specs.Plans.{GoodPlan}

-- a good sheet with its plan, and a store of the right length
pub record Stored (ws : Words) (plan : Plan) (store : Words) : Type 0 where
  pub good : GoodSheet ws
  pub planned : GoodPlan (sheet_of ws) plan
  pub long : length store ≡ store_length (sheet_of ws)
