-- `is_tied` meets its contract. The two tests are those of `tied`, in order.
-- Assumes nothing.
use Rattle.std.proofs.Common.{rules, tests}
use Rattle.change_asked.proofs.Tests.{tied_is}
use Rattle.change_asked.proofs.is_tied.Goals as goal

pub returns-then-in_condition : goal.returns-then-in_condition
returns-then-in_condition c = rw (tied_is, ← c.in_condition.ensures) (search (rules, tests))

pub returns-else-in_condition : goal.returns-else-in_condition
returns-else-in_condition c = rw (tied_is, ← c.in_condition.ensures) (search (rules, tests))
