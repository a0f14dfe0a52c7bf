-- `starts_of` meets its contract.
-- Assumes nothing.
use Rattle.std.proofs.Common.{refl, sym, arith}
use Rattle.lists.specs.Loops.{filled}
use Rattle.lists.proofs.Loops.{filled_more}
use Rattle.sheet_plan.proofs.Sizes.{start_first, start-more, start_small}
use Rattle.sheet_plan.proofs.Steps.{starts-filled}
use Rattle.sheet_plan.proofs.starts_of.Goals as goal

pub loop-part-init : goal.loop-part-init
unfolding filled
loop-part-init c = record { starts-are = refl; at_is = sym (start_first _) }

pub overflow_add-at : goal.overflow_add-at
overflow_add-at c =
    let l = start_small _ c.requires.0 c.loop-part.part (omega arith) in
    omega (arith, c.size_of-at.ensures.1, c.loop-part.invariant.at_is)

pub loop-part-preserved : goal.loop-part-preserved
loop-part-preserved c =
    let l = c.loop-part.invariant in
    record { starts-are = filled_more _ _ _ _ _ l.starts-are l.at_is; at_is = start-more _ _ _ _ l.at_is c.size_of-at.ensures.0 }

pub returns : goal.returns
returns c =
    starts-filled _ _ _ _ _ (omega arith) (omega arith) (omega arith) c.loop-part.invariant.starts-are c.loop-part.invariant.at_is
