-- The side tables by a sheet's and a run's words, and what stands in a side table's part while its rows are written.
-- Assumes nothing.
use Rattle.std.specs.Prelude.{ℕ, ◌*◌, ◌<◌, ◌≤◌, ◌≡◌, Bool, true, List, T, length, take, replicate}
use Rattle.lists.specs.Lists.{Words}
use Rattle.rows.specs.Rows.{Rows}
use Rattle.rows.specs.Regions.{laid}
use Rattle.meaning.specs.Sheet.{sheet_of, table_count}
use Rattle.meaning.specs.Plan.{kept, shown}
use Rattle.meaning.specs.Meaning.{Model, side_table}
use Rattle.places.specs.Stands.{Stands}
use Rattle.sheet_plan.specs.declared.Plan.{Plan}
use Rattle.store.specs.Plans.{GoodPlan}
use Rattle.filling.specs.Qualifies.{side_rows}
use Rattle.filling.specs.Written.{partly, side_fits}
use Rattle.base_run.specs.Bases.{tables_of, numbers_of}

-- table t's side table, and whether it has room
unfoldable pub side_of : Words → Words → ℕ → Rows
side_of ws run t = side_table (sheet_of ws) (tables_of ws run) t

unfoldable pub fits_no : Words → Words → ℕ → Bool
fits_no ws run t = side_fits (sheet_of ws) (tables_of ws run) t

-- the model whose side tables before t stand, and nothing else
unfoldable pub partly_of : Words → Words → ℕ → Model
partly_of ws run t = partly (sheet_of ws) (tables_of ws run) t

-- a store in which they stand
abbrev pub SidesStand : Words → Words → ℕ → Words → Type 0
SidesStand ws run t store = Stands (sheet_of ws) store (partly_of ws run t)

-- the side rows of the qualified ones among the first j rows of table t in key order
unfoldable pub rows_to : Words → Words → List ℕ → ℕ → ℕ → Rows
rows_to ws run order t j = side_rows (sheet_of ws) (tables_of ws run) t (take j (numbers_of run order t))

-- table t's side table can be written into a part that is all zeros: its rows have room there
pub record PartReady (ws run : Words) (t : ℕ) (columns : List ℕ) (part : Words) : Type 0 where
  pub table : t < table_count ws
  pub is-kept : T (kept (sheet_of ws) t)
  pub columns-are : columns ≡ shown (sheet_of ws) t
  pub zeros : part ≡ replicate (length part) 0
  pub room : length (side_of ws run t) * length columns ≤ length part

-- the same into its part of a store in which those of the tables before t stand
pub record SideReady (ws run : Words) (plan : Plan) (t : ℕ) (store : Words) : Type 0 where
  pub planned : GoodPlan (sheet_of ws) plan
  pub table : t < table_count ws
  pub is-kept : T (kept (sheet_of ws) t)
  pub fits : fits_no ws run t ≡ true
  pub stands : SidesStand ws run t store

-- many rows stand at the front of a part: these, and zeros after them
pub record Front (rows : Rows) (size many : ℕ) (part : Words) : Type 0 where
  pub many-are : many ≡ length rows
  pub words : part ≡ laid size rows
  pub long : length part ≡ size
