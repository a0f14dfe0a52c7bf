-- The measures of `passes` and `lets`: the number of tables left falls with each step to a parent. The loop's invariant: each edge before e lets the row
-- pass.
-- Assumes nothing.
use Prim.Native.Nat.{◌+◌, ◌*◌, ◌-◌}
use mathlib.Core.Path.{◌≡◌}
use mathlib.Core.Bool.{true}
use Rattle.lists.specs.Loops.{every}
use Rattle.base_qualified.specs.Qualifying.{lets_no}
use Rattle.base_qualified.proofs.+rows.Given as goal

abbrev pub decreases-passes : goal.decreases-passes
decreases-passes l = 2 * l.k

abbrev pub decreases-lets : goal.decreases-lets
decreases-lets l = 2 * l.k + 1

abbrev pub invariant-passes-loop-e : goal.invariant-passes-loop-e
invariant-passes-loop-e l =
    every (lets_no l.base.ordered.tables.sheet.now l.base.ordered.tables.run.now l.unpromised (l.k - 1) l.t l.i) l.e ≡ true
