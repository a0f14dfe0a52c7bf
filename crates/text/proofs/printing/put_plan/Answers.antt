-- `put_plan` meets its contract: the head and the lines.
-- Assumes nothing.
use Rattle.text.specs.Laid.{answer_text}
use Rattle.text.proofs.Writes.{wrote_then}
use Rattle.text.proofs.printing.put_plan.Goals as goal

pub returns-clause-put_at : goal.returns-clause-put_at
unfolding answer_text
returns-clause-put_at c = wrote_then c.put_head-end.ensures.put_at c.put_lines.ensures.put_at
