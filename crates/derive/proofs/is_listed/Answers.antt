-- `is_listed` meets its contract.
-- Assumes nothing.
use Rattle.derive.proofs.Steps.{listed-test}
use Rattle.derive.proofs.is_listed.Goals as goal

pub returns : goal.returns
returns c = listed-test _ _ _ _ _ c.listed-p.ensures c.listing_of.ensures
