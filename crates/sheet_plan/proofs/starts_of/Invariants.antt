-- The loop's invariant: the parts before have their starts, and this one begins at `at`.
-- Assumes nothing.
use Rattle.std.proofs.Common.{◌≡◌}
use lib.ListN.{replicate}
use Rattle.lists.specs.Loops.{filled}
use Rattle.meaning.specs.Sheet.{sheet_of}
use Rattle.meaning.specs.Plan.{start}
use Rattle.sheet_plan.proofs.starts_of.Given as goal

abbrev pub invariant-loop-part : goal.invariant-loop-part
invariant-loop-part l =
    record {
      starts-are : l.r ≡ filled (start (sheet_of l.sheet)) l.part (replicate 10 0);
      at_is : l.at ≡ start (sheet_of l.sheet) l.part;
    }
