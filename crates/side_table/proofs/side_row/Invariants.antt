-- `side_table::side_row` meets its contract. The invariant: the first j shown columns are written.
-- Assumes nothing.
use mathlib.Core.Path.{◌≡◌}
use Rattle.lists.specs.Loops.{filled}
use Rattle.meaning.specs.Sheet.{sheet_of}
use Rattle.side_table.proofs.Shown.{shown_value}
use Rattle.side_table.proofs.side_row.Given as goal

abbrev pub invariant-loop-j : goal.invariant-loop-j
invariant-loop-j l = l.row ≡ filled (shown_value (sheet_of l.sheet) l.t l.r) l.j l.initial.row
