-- `rooms_ok` meets its contract.
-- Assumes nothing.
use Rattle.std.proofs.Common.{rules, tests, ap, ◌+◌}
use Rattle.lists.proofs.Chains.{every-from_all}
use Rattle.sheet.specs.Tests.{room_passes}
use Rattle.sheet.proofs.rules.rooms_ok.Goals as goal

pub returns : goal.returns
unfolding room_passes
returns c = every-from_all _ _ _ _ (ap (λ n. n + 1) c.tables.ensures) c.all.ensures.ran (λ x b q k. search (rules, tests))
