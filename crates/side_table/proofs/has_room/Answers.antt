-- `side_table::has_room` meets its contract, for an unkept table and for a kept one.
-- Assumes nothing.
use Rattle.store.proofs.Plans.{marked, unmarked}
use Rattle.side_table.proofs.Tests.{asked-planned, room-unkept, room-is}
use Rattle.places.proofs.Stands.{sound-stands, stands-nine}
use native.Mathlib.Omega.{arith}
use Rattle.side_table.proofs.has_room.Goals as goal

pub returns-then-plan-t-eq0 : goal.returns-then-plan-t-eq0
returns-then-plan-t-eq0 c =
    let asked = asked-planned c.requires.good_plan c.requires.t_bound c.requires.t in
    room-unkept asked (unmarked _ _ c.requires.good_plan _ c.requires.t_bound c.if-plan-t-eq0.true)

pub bounds-store-t : goal.bounds-store-t
bounds-store-t c =
    let nine = stands-nine _ c.requires.good_plan.good _ _ (sound-stands _ c.requires.good_plan.good _ c.requires.t) in
    omega (arith, c.requires.good_plan.planned.tables-few, c.requires.good_plan.planned.tables-are, nine)

pub returns : goal.returns
returns c =
    let k = marked _ _ c.requires.good_plan _ c.requires.t_bound c.if-plan-t-eq0.false in
    room-is (asked-planned c.requires.good_plan c.requires.t_bound c.requires.t) k _ (c.requires.good_plan.planned.rooms-at _ (omega arith))
