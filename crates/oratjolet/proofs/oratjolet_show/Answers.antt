-- `oratjolet_show` says what the show call says.
-- Assumes nothing.
use mathlib.Core.Path.{◌≡◌}
use Rattle.std.proofs.Common.{rules}
use Rattle.store.specs.Shows.{stretch_in}
use Rattle.oratjolet.proofs.Shows.{stretch-left}
use Rattle.oratjolet.proofs.oratjolet_show.Goals as goal

pub returns : goal.returns
returns c =
    let same : c.unwrap_or_default-s.result ≡ stretch_in c.find_stretch-found.result = search rules in
    rw (same, c.number_of.ensures) (stretch-left _ _ _ _ c.find_stretch-found.ensures)
