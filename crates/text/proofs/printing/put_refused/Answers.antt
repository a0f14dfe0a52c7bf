-- `put_refused` meets its contract.
-- Assumes nothing.
use Rattle.text.proofs.Writes.{wrote_then}
use Rattle.text.specs.Printing.{refused_text}
use Rattle.text.proofs.printing.put_refused.Goals as goal

pub returns-clause-put_at : goal.returns-clause-put_at
unfolding refused_text
returns-clause-put_at c = wrote_then c.put_field-a.ensures.put_at c.put.ensures
