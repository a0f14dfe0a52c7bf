-- The tests of refusal 3 by number: which edges go into a table, which table is a root, which is reached.
-- Assumes nothing.
use Rattle.std.specs.Prelude.{ℕ, ◌<◌, ◌≤◌, ◌≡◌, Bool, true, leb, length}
use Rattle.lists.specs.Lists.{Words}
use Rattle.meaning.specs.Sheet.{sheet_of, goes_into, edges_into, is_root, reached, sheet_refusal, table_count}
use Rattle.meaning.specs.Plan.{root}
use Rattle.sheet.specs.Numbered.{edge_no}
use Rattle.sheet.specs.Rules.{Rules}

-- edge i goes into table t
unfoldable pub goes_no : Words → ℕ → ℕ → Bool
goes_no ws t i = goes_into t (edge_no ws i)

-- at most one edge goes into table t
unfoldable pub one_into : Words → ℕ → Bool
one_into ws t = leb (length (edges_into (sheet_of ws) t)) 1

-- table t has no edge into it
unfoldable pub root_no : Words → ℕ → Bool
root_no ws t = is_root (sheet_of ws) t

-- table t is reached in at most k edges
unfoldable pub reached_no : Words → ℕ → ℕ → Bool
reached_no ws k t = reached (sheet_of ws) k t

-- the words are within their rules, and at most one edge goes into each table: there is one path to walk
pub record Joined (ws : Words) : Type 0 where
  pub rules : Rules ws
  pub one-into : (t : ℕ) → t < table_count ws → length (edges_into (sheet_of ws) t) ≤ 1

-- a sheet that is not refused: besides, one table is the root, and each that has no edge into it is that one
pub record GoodSheet (ws : Words) : Type 0 where
  pub joined : Joined ws
  pub root_in : root (sheet_of ws) < table_count ws
  pub root_is : is_root (sheet_of ws) (root (sheet_of ws)) ≡ true
  pub one-root : (t : ℕ) → t < table_count ws → is_root (sheet_of ws) t ≡ true → t ≡ root (sheet_of ws)
  pub not-refused : sheet_refusal ws ≡ 0
