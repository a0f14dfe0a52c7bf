-- `write_row` meets its contract. The loop's invariant: the first k columns are written.
-- Assumes nothing.
use mathlib.Core.Path.{◌≡◌}
use Rattle.rows.specs.Rows.{pick}
use Rattle.rows.specs.Words.{written}
use Rattle.fill_sides.proofs.write_row.Given as goal

abbrev pub invariant-loop-k : goal.invariant-loop-k
invariant-loop-k l = l.part ≡ written l.initial.part l.place (pick l.columns l.row) l.k
