-- The base run as code reads it: its length and counts, where each table's words lie, and the base tables' rows by number.
-- Assumes nothing.
use Rattle.std.specs.Prelude.{ℕ, ◌+◌, ◌<◌, ◌≤◌, ◌≡◌, Bool, ◌&&◌, [], leb, eqb, length, get_or}
use Rattle.lists.specs.Lists.{Words, at, all}
use Rattle.lists.specs.Parts.{part}
use Rattle.rows.specs.Rows.{Row}
use Rattle.meaning.specs.Limits.{most_rows}
use Rattle.meaning.specs.Sheet.{Sheet, tables}
use Rattle.meaning.specs.Base.{Tables, rows_of, base_start}

-- a table's count is at most 65,535
unfoldable pub few_rows : Words → ℕ → Bool
few_rows run t = leb (at run t) most_rows

-- refusal 10 but for the tables' laws: "base run of the wrong length, a count above 65,535"
unfoldable pub good_run : Sheet → Words → Bool
good_run s run = eqb (length run) (base_start s run s.n) && all (few_rows run) (tables s)

pub record Run (s : Sheet) (run : Words) : Type 0 where
  pub long : length run ≡ base_start s run s.n
  pub few : (t : ℕ) → t < s.n → at run t ≤ most_rows

-- table t's words
unfoldable pub table_words : Sheet → Words → ℕ → Words
table_words s run t = part run (base_start s run t) (base_start s run (t + 1))

-- row i of table t
unfoldable pub row_no : Tables → ℕ → ℕ → Row
row_no base t i = get_or (rows_of base t) i []
