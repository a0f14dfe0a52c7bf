-- `find_stretch` meets its contract: one law for each way through it.
-- Assumes nothing.
use Rattle.std.proofs.lemmas.Result.{err_from_is_err_and}
use Rattle.store.proofs.Plans.{few, within-store}
use Rattle.store.proofs.Checks.{check-of}
use Rattle.store.proofs.Shows.{none-stand}
use Rattle.store.proofs.Showing.{stretch-ends, part-stands, show-refused, show-length, show-number, show-unsound, show-part}
use native.Mathlib.Omega.{arith}
use Rattle.store.proofs.find_stretch.Goals as goal

pub returns-in_err-plan : goal.returns-in_err-plan
returns-in_err-plan c =
    let p = err_from_is_err_and c.from_residual.result c.from_residual.ensures.1 in
    rw (p.1, p.2) (none-stand _ (show-refused _ _ _ _ c.in_err-plan.ensures))

pub returns-then-store-plan : goal.returns-then-store-plan
returns-then-store-plan c = none-stand _ (show-length _ _ _ _ c.in_ok-plan.ensures c.if-store-plan.true)

pub returns-then-n-number : goal.returns-then-n-number
returns-then-n-number c = none-stand _ (show-number _ _ _ _ c.in_ok-plan.ensures c.if-store-plan.false c.if-n-number.true)

pub is_sound-requires : goal.is_sound-requires
is_sound-requires c = check-of _ _ c.in_ok-plan.ensures

pub returns-then-not-is_sound : goal.returns-then-not-is_sound
returns-then-not-is_sound c =
    none-stand _ (show-unsound _ _ _ _ c.in_ok-plan.ensures c.if-store-plan.false c.if-n-number.false _
    c.is_sound.ensures c.if-not-is_sound.true)

pub part_of-p-requires : goal.part_of-p-requires
part_of-p-requires c =
    record {
      number_le_tables = c.if-n-number.false;
      tables_le_most_tables = few _ (check-of _ _ c.in_ok-plan.ensures);
    }

pub count-requires : goal.count-requires
count-requires c = within-store _ (check-of _ _ c.in_ok-plan.ensures) _ _ _ c.if-n-number.false c.part_of-p.ensures c.if-store-plan.false

pub overflow_mul-result : goal.overflow_mul-result
overflow_mul-result c =
    let shown = show-part _ _ _ _ c.in_ok-plan.ensures c.if-store-plan.false c.if-n-number.false _
    c.is_sound.ensures c.if-not-is_sound.false _ c.part_of-p.ensures in
    rw c.count.ensures (omega (arith, stretch-ends _ _ shown.kept))

pub returns : goal.returns
returns c =
    rw c.count.ensures
    (part-stands _ _ _ _ (show-part _ _ _ _ c.in_ok-plan.ensures c.if-store-plan.false c.if-n-number.false _
    c.is_sound.ensures c.if-not-is_sound.false _ c.part_of-p.ensures))
