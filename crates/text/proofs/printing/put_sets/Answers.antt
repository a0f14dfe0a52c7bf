-- `put_sets` meets its contract.
-- Assumes nothing.
use Rattle.text.proofs.Writes.{wrote_then}
use Rattle.text.specs.Printing.{sets_text}
use Rattle.text.proofs.printing.put_sets.Goals as goal

pub returns-clause-put_at : goal.returns-clause-put_at
unfolding sets_text
returns-clause-put_at c = wrote_then (wrote_then c.put_named-a.ensures.put_at c.put_named-b.ensures.put_at) c.put_named.ensures.put_at
