-- `Values::given_row` meets its contract. The loop's invariant: the words before k are given.
-- Assumes nothing.
use mathlib.Core.Path.{◌≡◌}
use lib.ListN.{length, take}
use Rattle.list_part.specs.Gives.{row_with}
use Rattle.list_part.proofs.columns.Values.given_row.Given as goal

abbrev pub invariant-loop-k : goal.invariant-loop-k
invariant-loop-k l = (length l.row ≡ 16) × (take l.k l.row ≡ take l.k (row_with l.self.sheet.now l.self.table l.self.row.now l.i l.s))
