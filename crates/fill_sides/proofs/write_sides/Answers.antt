-- `write_sides` meets its contract.
-- Assumes nothing.
use Rattle.lists.proofs.Loops.{every-at}
use Rattle.fill_sides.proofs.Counts.{kept_here}
use Rattle.fill_sides.proofs.Stores.{store-unkept, store-end}
use native.Mathlib.Omega.{arith}
use Rattle.fill_sides.proofs.write_sides.Goals.{then-plan-t-ne0, else-plan-t-ne0}
use Rattle.fill_sides.proofs.write_sides.Goals as goal

pub write_side-requires : goal.write_side-requires
write_side-requires c =
    let l = rw c.tables-t-end.ensures at c.loop-t-test.true in
    record {
      planned = c.requires.good_plan;
      table = l;
      is-kept = kept_here _ c.requires.good_plan l c.if-plan-t-ne0.true;
      fits = every-at _ _ _ l c.requires.sheet_value;
      stands = c.loop-t.invariant;
    }

pub loop-t-preserved : goal.loop-t-preserved
loop-t-preserved c =
    let l = rw c.tables-t-end.ensures at c.loop-t-test.true in
    elim c.if-plan-t-ne0.branch [
      | then-plan-t-ne0 w ↦ rw w.store-is w.write_side.ensures
      | else-plan-t-ne0 w ↦ rw w.store-is (store-unkept _ _ c.requires.good_plan l c.loop-t.invariant w.if-plan-t-ne0.false)
    ]

pub returns : goal.returns
returns c = store-end _ _ _ _ _ (omega arith) (omega arith) c.loop-t.invariant
