-- `put_behind` meets its contract. The part is lent on, and comes back with the row written over its place.
-- Assumes nothing.
use Rattle.std.proofs.Common.{◌*◌}
use Rattle.rows.specs.Words.{written}
use Rattle.store.proofs.Parts.{lent-back}
use Rattle.list_part.proofs.rewriting.put_behind.Goals as goal

pub returns : goal.returns
returns c = lent-back _ _ c.end.ensures (λ x. written x (c.args.k * c.args.p.columns) c.args.r.now c.args.p.columns)
    (rw c.requires.r_len at c.write_over.ensures)
