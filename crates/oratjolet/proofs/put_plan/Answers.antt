-- `put_plan` meets its contract: field after field.
-- Assumes nothing.
use Rattle.text.proofs.Writes.{wrote_then}
use Rattle.oratjolet.specs.Exports.{plan_words}
use Rattle.oratjolet.proofs.put_plan.Goals as goal

pub returns-clause-put_at : goal.returns-clause-put_at
unfolding plan_words
returns-clause-put_at c =
    wrote_then (wrote_then (wrote_then c.put-a.ensures c.put-b.ensures) c.put_sets-c.ensures.put_at) c.put_parts.ensures.put_at
