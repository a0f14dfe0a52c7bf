-- `lay_row` meets its contract.
-- Assumes nothing.
use Rattle.std.proofs.Common.{refl, arith}
use Rattle.sheet.specs.Counted.{counted}
use Rattle.sheet.proofs.Numbers.{counted-hit, counted-miss}
use Rattle.sheet_plan.specs.Marks.{lists_to, places_to}
use Rattle.sheet_plan.proofs.Steps.{marked-yes, marked-no}
use Rattle.sheet_plan.proofs.Laying.{row-begins, row_ends, lists-hit, lists-miss, places-more}
use Rattle.sheet_plan.proofs.marks.lay_row.Goals as goal
use Rattle.sheet_plan.proofs.marks.lay_row.Goals.{then-marks-t-eq1, else-marks-t-eq1}

pub loop-c-init : goal.loop-c-init
unfolding counted
loop-c-init c =
    record {
      few = omega arith;
      many-is = refl;
      lists-are = row-begins (lists_to _) _ _ c.requires.lists_value;
      places-are = row-begins (places_to _) _ _ c.requires.places_value;
    }

pub loop-c-preserved : goal.loop-c-preserved
loop-c-preserved c =
    let l = c.loop-c.invariant in
    elim c.if-marks-t-eq1.branch [
      | then-marks-t-eq1 w ↦
          rw (w.lists-is, w.many-is)
          (record {
            few = omega arith;
            many-is = counted-hit _ _ _ l.many-is (marked-yes _ _ _ w.if-marks-t-eq1.true);
            lists-are = lists-hit _ _ _ _ c.loop-c-test.true l.many-is _ w.if-marks-t-eq1.true l.lists-are;
            places-are = places-more _ _ _ _ c.loop-c-test.true l.many-is _ l.places-are;
          })
      | else-marks-t-eq1 w ↦
          rw (w.lists-is, w.many-is)
          (record {
            few = omega arith;
            many-is = counted-miss _ _ _ l.many-is (marked-no _ _ _ w.if-marks-t-eq1.false);
            lists-are = lists-miss _ _ _ _ c.loop-c-test.true l.many-is _ w.if-marks-t-eq1.false l.lists-are;
            places-are = places-more _ _ _ _ c.loop-c-test.true l.many-is _ l.places-are;
          })
    ]

pub returns : goal.returns
returns c =
    record {
      lists_after = row_ends (lists_to _) _ _ _ (omega arith) c.loop-c-test.false c.loop-c.invariant.lists-are;
      places_after = row_ends (places_to _) _ _ _ (omega arith) c.loop-c-test.false c.loop-c.invariant.places-are;
    }
