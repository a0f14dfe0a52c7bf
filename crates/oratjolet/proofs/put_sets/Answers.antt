-- `put_sets` meets its contract: words after words.
-- Assumes nothing.
use Rattle.text.proofs.Writes.{wrote_then}
use Rattle.oratjolet.proofs.put_sets.Goals as goal

pub returns-clause-put_at : goal.returns-clause-put_at
returns-clause-put_at c = wrote_then (wrote_then c.put-a.ensures c.put-b.ensures) c.put.ensures
