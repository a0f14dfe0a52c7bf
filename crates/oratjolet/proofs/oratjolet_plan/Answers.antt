-- `oratjolet_plan` says what the plan call says.
-- Assumes nothing.
use Rattle.oratjolet.proofs.Plans.{planned-is}
use Rattle.oratjolet.proofs.oratjolet_plan.Goals as goal

pub returns : goal.returns
returns c = planned-is _ _ _ c.plan_of-a.ensures c.put_answer.ensures
