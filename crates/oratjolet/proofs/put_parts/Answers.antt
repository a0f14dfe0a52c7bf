-- `put_parts` meets its contract: a number's words are the number.
-- Assumes nothing.
use Rattle.std.proofs.Common.{rules}
use Rattle.text.proofs.Writes.{wrote_as, wrote_then}
use Rattle.oratjolet.proofs.Plans.{mapped-same}
use Rattle.oratjolet.proofs.put_parts.Goals as goal

pub returns-clause-put_at : goal.returns-clause-put_at
returns-clause-put_at c =
    wrote_then (wrote_as (mapped-same _ _ _ _ 8 c.map.ensures.items (search rules) (λ x r p q s. search rules)) c.put-a.ensures)
    (wrote_as (mapped-same _ _ _ _ 8 c.map-2.ensures.items (search rules) (λ x r p q s. search rules)) c.put.ensures)
