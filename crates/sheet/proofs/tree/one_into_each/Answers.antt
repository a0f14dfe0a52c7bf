-- `one_into_each` meets its contract.
-- Assumes nothing.
use Rattle.std.proofs.Common.{rules, tests}
use Rattle.lists.proofs.Chains.{every-from_all}
use Rattle.sheet.specs.Tree.{one_into}
use Rattle.sheet.proofs.Into.{into-many}
use Rattle.sheet.proofs.tree.one_into_each.Goals as goal

pub returns : goal.returns
unfolding one_into
returns c =
    every-from_all _ _ _ _ c.tables.ensures c.all.ensures.ran (λ x b q k. rw (into-many c.args.sheet.now x) (search (rules, tests)))
