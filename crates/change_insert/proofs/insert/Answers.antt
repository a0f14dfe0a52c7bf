-- `insert` meets its contract.
-- Assumes nothing.
use Rattle.change_laws.proofs.Answers.{refused-by}
use Rattle.change_laws.proofs.Halves.{ready-ground, ready-list, ready-table, half-modelled}
use Rattle.change_insert.proofs.Inserting.{inserts-contradicts, inserts-none, inserts-no-room-side, inserts-no-room-list}
use Rattle.change_insert.proofs.Inserting.{insertable, half_room, inserts-done}
use mathlib.Core.Path.{ap}
use Rattle.std.proofs.lemmas.Result.{err_from_is_err_and}
use mathlib.Core.Bool.{not}
use Rattle.change_insert.proofs.insert.Goals as goal

pub new_key-requires : goal.new_key-requires
new_key-requires c =
    record {
      good_plan = c.requires.ready.planned;
      t_bound = ready-table c.requires.ready c.requires.lent;
      r_len = c.requires.lent.wide;
      t = c.requires.ready.sound;
    }

pub returns-then-not-new_key : goal.returns-then-not-new_key
returns-then-not-new_key c =
    inserts-contradicts c.requires.ready c.requires.lent _ c.new_key.ensures (ap not c.if-not-new_key.true)

pub is_qualified-requires : goal.is_qualified-requires
is_qualified-requires c =
    record {
      laid = (ready-ground c.requires.ready).legible.laid;
      lent = c.requires.lent;
    }

pub returns-then-not-is_qualified : goal.returns-then-not-is_qualified
returns-then-not-is_qualified c =
    inserts-none c.requires.ready c.requires.lent _ c.new_key.ensures (ap not c.if-not-new_key.false) _ c.is_qualified.ensures
    (ap not c.if-not-is_qualified.true)

pub has_room-requires : goal.has_room-requires
has_room-requires c =
    record {
      good_plan = c.requires.ready.planned;
      t_bound = ready-table c.requires.ready c.requires.lent;
      t = c.requires.ready.sound;
    }

pub returns-then-not-has_room : goal.returns-then-not-has_room
returns-then-not-has_room c =
    inserts-no-room-side c.requires.ready c.requires.lent _ c.new_key.ensures (ap not c.if-not-new_key.false) _
    c.is_qualified.ensures (ap not c.if-not-is_qualified.false) _ c.has_room.ensures (ap not c.if-not-has_room.true)

pub add_ways-count-requires : goal.add_ways-count-requires
add_ways-count-requires c =
    record {
      ground = ready-ground c.requires.ready;
      lent = c.requires.lent;
      adding = record { sound = c.requires.ready.sound; lies = ready-list c.requires.ready _ c.part_of-list.ensures };
    }

pub put_side-requires : goal.put_side-requires
put_side-requires c =
    let gained = rw c.in_ok-added.ensures.ok_part at c.add_ways-count.ensures in
    let p = insertable c.requires.ready c.requires.lent _ c.new_key.ensures (ap not c.if-not-new_key.false) _ c.is_qualified.ensures
    (ap not c.if-not-is_qualified.false) _ c.has_room.ensures (ap not c.if-not-has_room.false) _ (ready-list c.requires.ready _ c.part_of-list.ensures) _
    gained.0 gained.1 in
    record {
      good_plan = p.ready.planned;
      t_bound = ready-table p.ready p.lent;
      r_len = p.lent.wide;
      modelled = half-modelled p.ready _ p.lies _ _ gained.2;
      t = half_room p _ gained.2;
    }

pub returns : goal.returns
returns c =
    let gained = rw c.in_ok-added.ensures.ok_part at c.add_ways-count.ensures in
    let p = insertable c.requires.ready c.requires.lent _ c.new_key.ensures (ap not c.if-not-new_key.false) _ c.is_qualified.ensures
    (ap not c.if-not-is_qualified.false) _ c.has_room.ensures (ap not c.if-not-has_room.false) _ (ready-list c.requires.ready _ c.part_of-list.ensures) _
    gained.0 gained.1 in
    inserts-done p _ gained.2 _ c.put_side.ensures

pub returns-in_err-added : goal.returns-in_err-added
returns-in_err-added c =
    let refused = rw c.in_err-added.ensures.ok_part at c.add_ways-count.ensures in
    let p = err_from_is_err_and c.from_residual.result c.from_residual.ensures.1 in
    rw (p.1, p.2, refused-by _ _ _ c.in_err-added.ensures.value c.in_err-added.ensures.ok_part)
    (inserts-no-room-list c.requires.ready c.requires.lent _ c.new_key.ensures (ap not c.if-not-new_key.false) _
    c.is_qualified.ensures (ap not c.if-not-is_qualified.false) _ c.has_room.ensures (ap not c.if-not-has_room.false) _
    (ready-list c.requires.ready _ c.part_of-list.ensures) refused.0 _ refused.1)
