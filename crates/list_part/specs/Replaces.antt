-- List rows to be replaced where they stand, by one table's new values, and the list when they are.
-- Assumes nothing.
use Rattle.std.specs.Prelude.{ℕ, ◌≤◌, ◌≡◌}
use Rattle.lists.specs.Lists.{Words}
use Rattle.rows.specs.Rows.{Row, sorted}
use Rattle.rows.specs.Marks.{altered, is_marked, Numbers}
use Rattle.meaning.specs.Sheet.{listed_count}
use Rattle.sheet.specs.Rules.{Rules}
use Rattle.store.specs.declared.Part.{Part}
use Rattle.store.specs.Parts.{count_in, rows_in, Kept, Wrote}
use Rattle.list_part.specs.Gives.{gives, Fits}

-- the part is a list in order, r is a row for table t, and the numbers are of the part's rows
pub record Replaceable (ws : Words) (p : Part) (t : ℕ) (r : Row) (numbers store : Words) : Type 0 where
  pub rules : Rules ws
  pub fits : Fits ws t r
  pub kept : Kept p store
  pub room : count_in p store ≤ p.room
  pub columns : p.columns ≡ listed_count ws
  pub run : Numbers (count_in p store) numbers

-- the list is written anew: its rows at these numbers have r's values in table t's columns, and all are in order
abbrev pub RowsReplaced : Words → ℕ → Row → Words → Part → Words → Words → Type 0
RowsReplaced ws t r numbers list before after = Wrote list (sorted (altered (is_marked numbers) (gives ws t r) (rows_in list before))) before after
