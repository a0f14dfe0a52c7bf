-- The plan of a good sheet, and what functions say that are given the plan and not the sheet.
-- Assumes nothing.
use Rattle.std.specs.Prelude.{ℕ, ◌≡◌, Bool, cond, ltb, get_or}
use Rattle.lists.specs.Lists.{Words}
use Rattle.lists.specs.Loops.{every}
use Rattle.meaning.specs.Limits.{list_count}
use Rattle.meaning.specs.Sheet.{Sheet}
use Rattle.meaning.specs.Store.{sound}
use Rattle.laws.specs.Sheets.{Good}
use Rattle.sheet_plan.specs.declared.Plan.{Plan}
use Rattle.sheet_plan.specs.Planned.{IsPlan}
use Rattle.store.specs.declared.Part.{Part}
use Rattle.store.specs.Tests.{table_sound}

-- p is the plan of s, a good sheet
pub record GoodPlan (s : Sheet) (p : Plan) : Type 0 where
  pub good : Good s
  pub planned : IsPlan s p

-- p is the plan of some good sheet
pub record OfSheet (p : Plan) : Type 0 where
  pub sheet : Sheet
  pub is : GoodPlan sheet p

-- where part `number` lies by the plan's arrays, and by the plan
abbrev pub part_at : Words → Words → Words → ℕ → ℕ → Part
part_at starts columns rooms slot number =
    record {
      slot = slot;
      start = get_or starts number 0;
      columns = get_or columns number 0;
      room = get_or rooms number 0;
    }

unfoldable pub part_of : Plan → ℕ → Part
part_of p number = part_at p.starts p.columns p.rooms (cond (ltb number p.tables) number list_count) number

-- b says, for the sheet of which p is the plan, whether table t of a store is sound, all its tables are, the whole store is
pub record TableIs (p : Plan) (ws : Words) (t : ℕ) (b : Bool) : Type 0 where
  pub is : (s : Sheet) → GoodPlan s p → b ≡ table_sound s ws t

pub record SidesIs (p : Plan) (ws : Words) (b : Bool) : Type 0 where
  pub is : (s : Sheet) → GoodPlan s p → b ≡ every (table_sound s ws) s.n

pub record SoundIs (p : Plan) (ws : Words) (b : Bool) : Type 0 where
  pub is : (s : Sheet) → GoodPlan s p → b ≡ sound s ws
