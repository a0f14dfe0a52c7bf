-- The loop's invariant: no edge before k goes into table t.
-- Assumes nothing.
use Rattle.std.proofs.Common.{◌≡◌, false}
use Rattle.lists.specs.Loops.{some}
use Rattle.sheet.specs.Tree.{goes_no}
use Rattle.sheet.proofs.tree.edge_into.Given as goal

abbrev pub invariant-loop-k : goal.invariant-loop-k
invariant-loop-k l = some (goes_no l.sheet l.t) l.k ≡ false
