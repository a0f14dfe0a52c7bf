-- `put_named` meets its contract.
-- Assumes nothing.
use Rattle.text.proofs.Writes.{wrote_then}
use Rattle.text.proofs.printing.put_named.Goals as goal

pub returns-clause-put_at : goal.returns-clause-put_at
returns-clause-put_at c = wrote_then c.put-end.ensures c.put_set.ensures.put_at
