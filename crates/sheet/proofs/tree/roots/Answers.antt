-- `roots` meets its contract.
-- Assumes nothing.
use Rattle.std.proofs.Common.{rules, tests}
use Rattle.sheet.proofs.Chains.{counted-from_count}
use Rattle.sheet.specs.Tree.{root_no}
use Rattle.sheet.proofs.Into.{into-many}
use Rattle.sheet.proofs.tree.roots.Goals as goal

pub returns : goal.returns
unfolding root_no
returns c =
    counted-from_count _ _ c.tables.ensures c.filter.ensures.source c.filter.ensures.closure c.count.ensures.ran
    (λ x b q k. rw (into-many c.args.sheet.now x) (search (rules, tests)))
