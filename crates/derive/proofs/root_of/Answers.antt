-- `root_of` meets its contract.
-- Assumes nothing.
use Rattle.std.proofs.Common.{rules, tests, refl, ap, ◌∙◌}
use Rattle.lists.specs.Loops.{first}
use Rattle.lists.proofs.Chains.{first-from_find}
use Rattle.sheet.specs.Tree.{root_no}
use Rattle.derive.proofs.Steps.{root-test, first-root}
use Rattle.derive.proofs.root_of.Goals as goal

pub returns : goal.returns
returns c =
    c.unwrap_or.ensures
    ∙ first-from_find (root_no c.args.sheet.now) _ _ _ refl c.find.ensures.ran
    (λ x b q k. rw (← root-test c.args.sheet.now x _ _ refl c.edges-e.ensures) (search (rules, tests)))
    ∙ ap (first _) c.tables-n.ensures ∙ first-root _ c.requires
