-- `widths_ok` meets its contract.
-- Assumes nothing.
use Rattle.std.proofs.Common.{rules, tests}
use Rattle.lists.proofs.Chains.{every-from_all}
use Rattle.sheet.specs.Tests.{width_passes}
use Rattle.sheet.proofs.rules.widths_ok.Goals as goal

pub returns : goal.returns
unfolding width_passes
returns c = every-from_all _ _ _ _ c.tables.ensures c.all.ensures.ran (λ x b q k. search (rules, tests))
