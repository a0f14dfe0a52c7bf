-- `put_line` meets its contract.
-- Assumes nothing.
use Rattle.text.proofs.Writes.{wrote_then}
use Rattle.text.specs.Laid.{line_of}
use Rattle.text.specs.Printing.{line_text}
use Rattle.text.proofs.printing.put_line.Goals as goal

pub returns-clause-put_at : goal.returns-clause-put_at
unfolding line_of line_text
returns-clause-put_at c =
    wrote_then (wrote_then (wrote_then c.put_number-a.ensures.put_at c.put_field-b.ensures.put_at) c.put_sets-c.ensures.put_at) c.put.ensures
