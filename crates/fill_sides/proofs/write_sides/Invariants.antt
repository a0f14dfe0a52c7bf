-- `write_sides` meets its contract. The loop's invariant: the store stands for the model whose side tables before t stand.
-- Assumes nothing.
use Rattle.fill_sides.specs.Sides.{SidesStand}
use Rattle.fill_sides.proofs.write_sides.Given as goal

abbrev pub invariant-loop-t : goal.invariant-loop-t
invariant-loop-t l = SidesStand l.base.ordered.tables.sheet.now l.base.ordered.tables.run.now l.t l.store
