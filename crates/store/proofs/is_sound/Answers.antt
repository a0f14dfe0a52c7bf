-- `store::is_sound` meets its contract, test by test.
-- Assumes nothing.
use Rattle.store.proofs.Plans.{few, nine, within-store}
use Rattle.store.proofs.Whole.{long-fails, absent-fails, sides-fails, list-decides}
use mathlib.Core.Path.{sym, ◌∙◌}
use mathlib.Core.Bool.{false≢true}
use native.Mathlib.Nat.{le_refl}
use native.Mathlib.Omega.{arith}
use Rattle.store.proofs.is_sound.Goals as goal

pub returns-then-store-plan : goal.returns-then-store-plan
returns-then-store-plan c = long-fails _ _ c.if-store-plan.true

pub absent_zero-requires : goal.absent_zero-requires
absent_zero-requires c = record { few = few _ c.requires; long = omega (arith, nine _ c.requires) }

pub returns-then-not-absent_zero : goal.returns-then-not-absent_zero
returns-then-not-absent_zero c = absent-fails _ _ (sym c.absent_zero.ensures ∙ c.if-not-absent_zero.true)

pub returns-then-not-sides_sound : goal.returns-then-not-sides_sound
returns-then-not-sides_sound c = sides-fails _ _ _ c.sides_sound.ensures c.if-not-sides_sound.true

pub part_of-requires : goal.part_of-requires
part_of-requires c = record { number_le_tables = le_refl _; tables_le_most_tables = few _ c.requires }

pub part_sound-requires : goal.part_sound-requires
part_sound-requires c =
    record {
      within = within-store _ c.requires _ _ _ (omega arith) c.part_of.ensures c.if-store-plan.false;
      columns_nonzero = λ keyed. absurd (false≢true keyed);
    }

pub returns : goal.returns
returns c =
    let absent = sym c.absent_zero.ensures ∙ c.if-not-absent_zero.false in
    let sides = c.if-not-sides_sound.false in
    list-decides _ _ _ _ _ c.if-store-plan.false absent c.sides_sound.ensures sides c.part_of.ensures c.part_sound.ensures
