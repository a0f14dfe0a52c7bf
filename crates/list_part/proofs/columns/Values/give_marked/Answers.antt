-- `Values::give_marked` meets its contract. The loop's invariant: the rows at the numbers so far are given, and the rest is as it was.
-- Assumes nothing.
use Rattle.std.proofs.Common.{refl}
use Rattle.list_part.proofs.Given.{giving-start, giving-next, giving-end}
use Rattle.list_part.proofs.columns.Values.give_marked.Goals as goal

pub loop-i-init : goal.loop-i-init
loop-i-init c = giving-start _ _ _ _ _ _

pub loop-i-preserved : goal.loop-i-preserved
loop-i-preserved c =
    giving-next _ _ _ _ _ _ c.requires.s_in_bounds c.requires.numbers _ c.loop-i-test.true _ refl _ c.loop-i.invariant _ c.give_row.ensures

pub returns : goal.returns
returns c = giving-end _ _ _ _ _ _ _ _ c.loop-i-test.false c.loop-i.invariant
