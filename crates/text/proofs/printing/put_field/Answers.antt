-- `put_field` meets its contract.
-- Assumes nothing.
use Rattle.text.proofs.Writes.{wrote_then}
use Rattle.text.proofs.printing.put_field.Goals as goal

pub returns-clause-put_at : goal.returns-clause-put_at
returns-clause-put_at c = wrote_then c.put-end.ensures c.put_number.ensures.put_at
