-- `Values::turn` meets its contract. The loop's invariant: the listed columns before k do not say which way.
-- Assumes nothing.
use mathlib.Core.Path.{◌≡◌}
use lib.ListN.{drop}
use Rattle.meaning.specs.Sheet.{sheet_of}
use Rattle.list_part.specs.Gives.{turn_of}
use Rattle.list_part.proofs.columns.Values.turn.Given as goal

abbrev pub invariant-loop-k : goal.invariant-loop-k
invariant-loop-k l = turn_of (sheet_of l.self.sheet.now).listed l.self.table l.old l.self.row.now
    ≡ turn_of (drop l.k (sheet_of l.self.sheet.now).listed) l.self.table l.old l.self.row.now
