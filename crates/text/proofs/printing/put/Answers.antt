-- `put` meets its contract.
-- Assumes nothing.
use Rattle.std.proofs.Common.{refl}
use Rattle.text.proofs.Writes.{wrote-part}
use Rattle.text.proofs.printing.put.Goals as goal

pub returns : goal.returns
returns g c = rw c.copy_from_slice.ensures.after (wrote-part _ _ _ _ refl c.requires)
