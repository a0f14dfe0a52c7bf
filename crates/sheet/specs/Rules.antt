-- The rules of refusals 1 and 2 as facts about the words, by number.
-- Assumes nothing.
use Rattle.std.specs.Prelude.{ℕ, ◌+◌, ◌*◌, ◌<◌, ◌≤◌, ◌≡◌, false, length}
use Rattle.lists.specs.Lists.{Words}
use Rattle.lists.specs.Loops.{some}
use Rattle.meaning.specs.Limits.{most_tables, most_columns, most_conditions, most_listed, most_room}
use Rattle.meaning.specs.Sheet.{table_count, edge_count, condition_count, listed_count}
use Rattle.sheet.specs.Numbered.{width_no, edge_no, condition_no, listing_no, room_no}
use Rattle.sheet.specs.Tests.{listing_names}

-- the counts are in range, e is n - 1, and the length is right
pub record Counts (ws : Words) : Type 0 where
  pub tables-some : 1 ≤ table_count ws
  pub tables-few : table_count ws ≤ most_tables
  pub edges-right : edge_count ws + 1 ≡ table_count ws
  pub conditions-few : condition_count ws ≤ most_conditions
  pub listed-some : 1 ≤ listed_count ws
  pub listed-few : listed_count ws ≤ most_listed
  pub length-right : length ws ≡ 4 + 2 * table_count ws + 1 + 4 * edge_count ws + 4 * condition_count ws + 2 * listed_count ws

-- both ends included
pub record InRange (lowest highest x : ℕ) : Type 0 where
  pub low : lowest ≤ x
  pub high : x ≤ highest

-- table t is there and has this column
pub record Column (ws : Words) (t column : ℕ) : Type 0 where
  pub table : t < table_count ws
  pub within : column < width_no ws t

pub record EdgeRules (ws : Words) (i : ℕ) : Type 0 where
  pub there : Column ws (edge_no ws i).child (edge_no ws i).column
  pub not_key : 1 ≤ (edge_no ws i).column
  pub parent_in : (edge_no ws i).parent < table_count ws
  pub promise-small : (edge_no ws i).promise ≤ 1

pub record ConditionRules (ws : Words) (i : ℕ) : Type 0 where
  pub there : Column ws (condition_no ws i).table (condition_no ws i).column
  pub ordered : (condition_no ws i).lowest ≤ (condition_no ws i).highest

-- no listing before listing i names the same column
pub record ListingRules (ws : Words) (i : ℕ) : Type 0 where
  pub there : Column ws (listing_no ws i).table (listing_no ws i).column
  pub new : some (listing_names ws (listing_no ws i).table (listing_no ws i).column) i ≡ false

-- all of refusals 1 and 2
pub record Rules (ws : Words) : Type 0 where
  pub counts : Counts ws
  pub widths : (t : ℕ) → t < table_count ws → InRange 1 most_columns (width_no ws t)
  pub edges : (i : ℕ) → i < edge_count ws → EdgeRules ws i
  pub conditions : (i : ℕ) → i < condition_count ws → ConditionRules ws i
  pub listings : (i : ℕ) → i < listed_count ws → ListingRules ws i
  pub rooms : (t : ℕ) → t < table_count ws + 1 → InRange 0 most_room (room_no ws t)
