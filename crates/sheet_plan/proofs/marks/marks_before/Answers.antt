-- `marks_before` meets its contract.
-- Assumes nothing.
use Rattle.std.proofs.Common.{rules, tests}
use Rattle.sheet_plan.specs.Marks.{has_mark}
use Rattle.sheet_plan.proofs.Counting.{counted-from_count}
use Rattle.sheet_plan.proofs.marks.marks_before.Goals as goal

pub returns : goal.returns
unfolding has_mark
returns c =
    counted-from_count (has_mark _ _) _ _ c.count.ensures.ran c.filter.ensures.source c.filter.ensures.closure (λ x b q k. search (rules, tests))
