-- Values for one table's columns of the list's rows: that they fit the sheet, and list rows with them.
-- Assumes nothing.
use Rattle.std.specs.Prelude.{ℕ}
use Rattle.std.specs.declared.cmp.Ordering.{Ordering}
use Rattle.lists.specs.Lists.{Words}
use Rattle.rows.specs.Rows.{Row}
use Rattle.meaning.specs.Sheet.{sheet_of, listed_count}
use Rattle.sheet.specs.Rules.{Rules}
use Rattle.list_part.specs.declared.columns.Values.{Values}
use Rattle.list_part.specs.Gives.{gives, row_with, row_given, given, turn_of, Fits}

-- the sheet is in order, and the row that has the values is one for the table
pub record FitValues (v : Values) : Type 0 where
  pub rules : Rules v.sheet.now
  pub fits : Fits v.sheet.now v.table v.row.now

-- how many words a list row has
abbrev pub width_of : Values → ℕ
width_of v = listed_count v.sheet.now

-- a list row with the values, and row i of a run with them
abbrev pub with_values : Values → Row → Row
with_values v = gives v.sheet.now v.table v.row.now

abbrev pub with_row : Values → ℕ → Words → Row
with_row v = row_with v.sheet.now v.table v.row.now

-- the run with row i given them, and with the rows at these numbers of its first n
abbrev pub given_one : Values → ℕ → Words → Words
given_one v = row_given v.sheet.now v.table v.row.now

abbrev pub given_at : Values → Words → ℕ → Words → Words
given_at v = given v.sheet.now v.table v.row.now

-- how a list row with the values stands to what it was, where it showed old's
abbrev pub turn_from : Values → Row → Ordering
turn_from v old = turn_of (sheet_of v.sheet.now).listed v.table old v.row.now
