-- `put_head` meets its contract.
-- Assumes nothing.
use Rattle.text.proofs.Writes.{wrote_then}
use Rattle.text.specs.Printing.{head_text}
use Rattle.text.proofs.printing.put_head.Goals as goal

pub returns-clause-put_at : goal.returns-clause-put_at
unfolding head_text
returns-clause-put_at c = wrote_then (wrote_then c.put_field-a.ensures.put_at c.put_field-b.ensures.put_at) c.put.ensures
