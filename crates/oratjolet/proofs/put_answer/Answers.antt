-- `put_answer` meets its contract: a plan is written field by field, and a refusal's number over zeros.
-- Assumes nothing.
use Rattle.oratjolet.proofs.Plans.{put-good, put-refused}
use Rattle.oratjolet.proofs.put_answer.Goals as goal

pub returns-in-Ok : goal.returns-in-Ok
returns-in-Ok c = rw c.in-Ok.is (put-good _ _ _ _ c.requires c.put_plan.ensures.put_at c.put_plan.ensures.value)

pub returns-in-Err : goal.returns-in-Err
returns-in-Err c = rw c.in-Err.is (put-refused _ _ _ _ (c.fill.ensures.after (λ y h. h)) c.requires c.from.ensures)
