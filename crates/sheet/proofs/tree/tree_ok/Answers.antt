-- `tree_ok` meets its contract: the three tests are those of `good_tree`, in order.
-- Assumes nothing.
use Rattle.std.proofs.Common.{arith, rules, tests}
use Rattle.std.proofs.lemmas.Bool.Decides.{nat_tests}
use Rattle.sheet.proofs.Into.{joined}
use Rattle.sheet.proofs.Good.{tree-are}
use Rattle.sheet.proofs.tree.tree_ok.Goals.{then-roots-eq1, else-roots-eq1}
use Rattle.sheet.proofs.tree.tree_ok.Goals as goal

pub all_reached-requires : goal.all_reached-requires
all_reached-requires c = joined _ c.requires (search (rules, tests))

pub returns-then-one_into_each : goal.returns-then-one_into_each
returns-then-one_into_each c = rw (tree-are _ c.requires, ← c.roots.ensures) (search (rules, tests))

pub returns-else-one_into_each : goal.returns-else-one_into_each
returns-else-one_into_each c = rw (tree-are _ c.requires, ← c.roots.ensures) (grind (arith, nat_tests))
