-- `side_table::side_row` meets its contract. The invariant: the first j shown columns are written.
-- Assumes nothing.
use mathlib.Core.Path.{refl}
use Rattle.lists.specs.Loops.{filled}
use Rattle.lists.proofs.Loops.{filled_more}
use Rattle.side_table.proofs.Shown.{shown-column, shown-value, shown-end}
use native.Mathlib.Omega.{arith}
use Rattle.side_table.proofs.side_row.Goals as goal

pub loop-j-init : goal.loop-j-init
unfolding filled
loop-j-init c = refl

pub offset_bounds-r-plan : goal.offset_bounds-r-plan
offset_bounds-r-plan c =
    omega (arith, shown-column c.requires.good_plan _ c.requires.t_bound _ _ c.requires.row_len c.loop-j-test.true _ _ c.requires.r_len refl)

pub bounds-r-plan : goal.bounds-r-plan
bounds-r-plan c =
    omega (arith, shown-column c.requires.good_plan _ c.requires.t_bound _ _ c.requires.row_len c.loop-j-test.true _ _ c.requires.r_len refl)

pub loop-j-preserved : goal.loop-j-preserved
loop-j-preserved c =
    let value = shown-value c.requires.good_plan _ c.requires.t_bound _ _ c.requires.row_len c.loop-j-test.true _ _ _ refl refl in
    filled_more _ _ _ _ _ c.loop-j.invariant value

pub returns : goal.returns
returns c = shown-end _ _ _ _ _ _ c.requires.row_len c.loop-j.auto.j-end c.loop-j-test.false c.loop-j.invariant
