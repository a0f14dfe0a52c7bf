-- `write_part` meets its contract.
-- Assumes nothing.
use mathlib.Core.Path.{sym, ap, ◌∙◌}
use Rattle.base_run.proofs.Steps.{row_long}
use Rattle.base_qualified.proofs.Bases.{based}
use Rattle.fill_sides.proofs.Numbers.{order-long, number_turn, number_is, number_in}
use Rattle.fill_sides.proofs.Rows.{column-in, front-none, front-end, front-miss, front-room, front-hit}
use lib.ListN.{length}
use native.Mathlib.Omega.{arith}
use Rattle.fill_sides.proofs.write_part.Goals.{then-passes, else-passes}
use Rattle.fill_sides.proofs.write_part.Goals as goal

pub loop-r-init : goal.loop-r-init
loop-r-init c = (omega arith, front-none (based c.args.base.now) c.requires)

pub passes-requires-clause-i_bound : goal.passes-requires-clause-i_bound
passes-requires-clause-i_bound c =
    number_in (based c.args.base.now) c.requires.table c.numbers_of-r-items.ensures c.loop-r-test.true c.from-i.ensures

pub row-row-requires-clause-i_bound : goal.row-row-requires-clause-i_bound
row-row-requires-clause-i_bound c =
    number_in (based c.args.base.now) c.requires.table c.numbers_of-r-items.ensures c.loop-r-test.true c.from-i.ensures

pub overflow_mul-many : goal.overflow_mul-many
overflow_mul-many c =
    let b = based c.args.base.now in
    let turn = number_turn b c.requires.table c.numbers_of-r-items.ensures c.loop-r-test.true c.from-i.ensures in
    let is = number_is b c.requires.table c.numbers_of-r-items.ensures c.loop-r-test.true c.from-i.ensures in
    let room = front-room b c.requires _ _ _ _ _ c.loop-r.invariant.1 turn is c.tables-n.ensures (sym c.passes.ensures ∙ c.if-passes.true) in
    omega (arith, room, c.well_formed, c.ranges)

pub write_row-requires : goal.write_row-requires
write_row-requires c =
    let b = based c.args.base.now in
    let turn = number_turn b c.requires.table c.numbers_of-r-items.ensures c.loop-r-test.true c.from-i.ensures in
    let is = number_is b c.requires.table c.numbers_of-r-items.ensures c.loop-r-test.true c.from-i.ensures in
    let in_table = number_in b c.requires.table c.numbers_of-r-items.ensures c.loop-r-test.true c.from-i.ensures in
    let long = row_long b.laid c.requires.table in_table c.row-row.ensures in
    let room = front-room b c.requires _ _ _ _ _ c.loop-r.invariant.1 turn is c.tables-n.ensures (sym c.passes.ensures ∙ c.if-passes.true) in
    record {
      columns_bound = λ k h. rw long (column-in _ _ _ _ c.requires.columns-are h);
      columns_in_bounds = omega (arith, c.loop-r.invariant.1.long, room);
    }

pub loop-r-preserved : goal.loop-r-preserved
loop-r-preserved c =
    let b = based c.args.base.now in
    let turn = number_turn b c.requires.table c.numbers_of-r-items.ensures c.loop-r-test.true c.from-i.ensures in
    let is = number_is b c.requires.table c.numbers_of-r-items.ensures c.loop-r-test.true c.from-i.ensures in
    elim c.if-passes.branch [
      | then-passes w ↦
          rw (w.part-is, w.many-is) (
            omega (arith, c.loop-r.invariant.0),
            front-hit b c.requires _ _ _ _ _ c.loop-r.invariant.1 turn is c.tables-n.ensures (sym c.passes.ensures ∙ w.if-passes.true)
                w.row-row.ensures _ w.write_row.auto.part w.write_row.ensures,
          )
      | else-passes w ↦
          rw (w.part-is, w.many-is) (
            omega (arith, c.loop-r.invariant.0),
            front-miss b c.requires _ _ _ _ _ c.loop-r.invariant.1 turn is c.tables-n.ensures (sym c.passes.ensures ∙ w.if-passes.false),
          )
    ]

pub returns : goal.returns
returns c =
    let many = ap length c.numbers_of-r-items.ensures ∙ order-long (based c.args.base.now) c.requires.table in
    front-end (based c.args.base.now) c.requires _ _ _ (omega (arith, many)) c.loop-r.invariant.1
