-- `side_fits` meets its contract, for an unkept table and for a kept one.
-- Assumes nothing.
use mathlib.Core.Path.{◌∙◌}
use borrow.Author.Tests.{eq-eqb}
use Rattle.fill_sides.proofs.Counts.{kept_here, fits-unkept, fits-kept}
use Rattle.fill_sides.proofs.side_fits.Goals as goal

pub returns-then-plan-t-eq0 : goal.returns-then-plan-t-eq0
returns-then-plan-t-eq0 c = eq-eqb _ _ c.if-plan-t-eq0.true ∙ fits-unkept _ c.requires.good_plan c.requires.t_bound _ c.if-plan-t-eq0.true

pub count_side-requires-clause-t : goal.count_side-requires-clause-t
count_side-requires-clause-t c = kept_here _ c.requires.good_plan c.requires.t_bound c.if-plan-t-eq0.false

pub returns-else-plan-t-eq0 : goal.returns-else-plan-t-eq0
returns-else-plan-t-eq0 c = fits-kept _ c.requires.good_plan c.requires.t_bound _ _ c.count_side.ensures
