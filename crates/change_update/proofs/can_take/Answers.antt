-- `can_take` meets its contract.
-- Assumes nothing.
use Rattle.change_update.proofs.Replaced.{takes-root, takes-kept}
use Rattle.change_update.proofs.can_take.Goals as goal

pub returns-then-table-plan : goal.returns-then-table-plan
returns-then-table-plan c = takes-root _ _ c.if-table-plan.true

pub returns-else-table-plan : goal.returns-else-table-plan
returns-else-table-plan c = takes-kept _ _ c.if-table-plan.false
