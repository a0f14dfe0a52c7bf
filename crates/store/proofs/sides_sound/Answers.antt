-- `store::sides_sound` meets its contract: each table is tested.
-- Assumes nothing.
use Rattle.std.proofs.Common.{rules}
use Rattle.store.proofs.Whole.{sides-all}
use Rattle.store.proofs.sides_sound.Goals as goal

pub returns : goal.returns
returns c = sides-all _ _ _ _ _ c.all.ensures.ran (λ x b q k. search rules)
