-- `condition_ok` meets its contract.
-- Assumes nothing.
use Rattle.std.proofs.Common.{rules, tests}
use Rattle.sheet.proofs.Steps.{condition-test}
use Rattle.sheet.proofs.rules.condition_ok.Goals as goal

pub returns-then-has_column : goal.returns-then-has_column
returns-then-has_column c = rw (condition-test _ _ c.condition_no-d.ensures, ← c.has_column.ensures) (search (rules, tests))

pub returns-else-has_column : goal.returns-else-has_column
returns-else-has_column c = rw (condition-test _ _ c.condition_no-d.ensures, ← c.has_column.ensures) (search (rules, tests))
