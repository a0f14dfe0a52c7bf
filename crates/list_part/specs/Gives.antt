-- A list row with one table's columns from another row, read from the sheet's words, whether it shows them already, and which way it then moves.
-- Assumes nothing.
use Rattle.std.specs.Prelude.{ℕ, ◌*◌, ◌<◌, ◌≡◌, Bool, true, false, cond, List, [], ◌∷◌, ◌++◌, T, eqb, length, get_or, drop}
use Rattle.lists.specs.Lists.{Words, at, flat}
use Rattle.std.specs.declared.cmp.Ordering.{Ordering}
use Rattle.std.specs.declared.cmp.Ordering.TheVariants.{Equal}
use Rattle.rows.specs.Rows.{Row, Rows, word_order, then_by, smaller, same_row, cut}
use Rattle.rows.specs.Words.{row, written}
use Rattle.rows.specs.Marks.{altered, is_marked}
use Rattle.meaning.specs.Sheet.{Listed, sheet_of, table_count, listed_count}
use Rattle.meaning.specs.Change.{with_columns}
use Rattle.sheet.specs.Numbered.{width_no}

-- the list row with r's values in table t's columns
unfoldable pub gives : Words → ℕ → Row → Row → Row
gives ws t r row = with_columns (sheet_of ws).listed t r row

-- it shows them
unfoldable pub shows : Words → ℕ → Row → Row → Bool
shows ws t r row = same_row row (gives ws t r row)

-- row i of a run of words shows them, that row given, and the words with it given
abbrev pub row_shows : Words → ℕ → Row → ℕ → Words → Bool
row_shows ws t r i s = shows ws t r (row (listed_count ws) i s)

abbrev pub row_with : Words → ℕ → Row → ℕ → Words → Row
row_with ws t r i s = gives ws t r (row (listed_count ws) i s)

abbrev pub row_given : Words → ℕ → Row → ℕ → Words → Words
row_given ws t r i s = written s (i * listed_count ws) (row_with ws t r i s) (listed_count ws)

-- the first n rows of a run, those that are marked with r's values, and the words behind them
unfoldable pub given : Words → ℕ → Row → Words → ℕ → Words → Words
given ws t r numbers n s = flat (altered (is_marked numbers) (gives ws t r) (cut (listed_count ws) n s)) ++ drop (n * listed_count ws) s

-- how a list row with old's values in table t's columns stands, with new's there, to what it was
unfoldable pub turn_of : List Listed → ℕ → Row → Row → Ordering
turn_of [] t old new = Equal
turn_of (l ∷ ls) t old new =
    cond (eqb l.table t) (then_by (word_order (at new l.column) (at old l.column)) (turn_of ls t old new)) (turn_of ls t old new)

-- the rows at these numbers show r's values
pub record AllShow (ws : Words) (t : ℕ) (r : Row) (numbers : Words) (rows : Rows) : Type 0 where
  pub each : (j : ℕ) → j < length numbers → T (shows ws t r (get_or rows (at numbers j) []))

-- a row becomes greater (up), or smaller, where another stands for it
abbrev pub goes : Bool → Row → Row → Bool
goes up row new = cond up (smaller row new) (smaller new row)

-- they all do, by r's values
pub record AllGo (ws : Words) (t : ℕ) (r : Row) (up : Bool) (numbers : Words) (rows : Rows) : Type 0 where
  pub each : (j : ℕ) → j < length numbers → goes up (get_or rows (at numbers j) []) (gives ws t r (get_or rows (at numbers j) [])) ≡ true

-- upward, and downward
abbrev pub Upward : Words → ℕ → Row → Words → Rows → Type 0
Upward ws t r = AllGo ws t r true

abbrev pub Downward : Words → ℕ → Row → Words → Rows → Type 0
Downward ws t r = AllGo ws t r false

-- r is a row for table t
pub record Fits (ws : Words) (t : ℕ) (r : Row) : Type 0 where
  pub table : t < table_count ws
  pub wide : length r ≡ width_no ws t
