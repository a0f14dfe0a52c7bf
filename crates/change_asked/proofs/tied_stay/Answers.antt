-- `tied_stay` meets its contract.
-- Assumes nothing.
use Rattle.std.proofs.Common.{rules, tests, refl}
use Rattle.lists.proofs.Chains.{every-from_all}
use Rattle.change_asked.specs.Asked.{stays_at}
use Rattle.change_asked.proofs.tied_stay.Goals as goal

pub returns : goal.returns
unfolding stays_at
returns c = every-from_all _ _ _ _ refl c.all.ensures.ran (λ x b q k. search (rules, tests))
