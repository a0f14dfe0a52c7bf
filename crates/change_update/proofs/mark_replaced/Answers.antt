-- `mark_replaced` meets its contract.
-- Assumes nothing.
use Rattle.walk.proofs.Treks.{root-few}
use Rattle.change_laws.proofs.Halves.{ready-ground}
use Rattle.change_update.proofs.Replaced.{by-plan, no_way, by_key}
use native.Mathlib.Omega.{arith}
use Rattle.change_update.proofs.mark_replaced.Goals as goal

pub can_take-requires : goal.can_take-requires
can_take-requires c = omega (arith, root-few (ready-ground c.requires.ready))

pub mark_ways-requires : goal.mark_ways-requires
mark_ways-requires c =
    record {
      ground = ready-ground c.requires.ready;
      t = c.requires.ready.sound;
      lies = c.requires.lies;
      lent = c.requires.lent;
      marked_len = c.requires.marked_len;
    }

pub returns-then-can_take : goal.returns-then-can_take
returns-then-can_take c =
    by-plan c.requires.ready _ _ _ _ c.can_take.ensures c.if-can_take.true c.mark_ways.result c.mark_ways.ensures

pub mark_found-requires : goal.mark_found-requires
mark_found-requires c =
    record {
      legible = (ready-ground c.requires.ready).legible;
      t = c.requires.ready.sound;
      lies = c.requires.lies;
      lent = c.requires.lent;
      by_key = no_way c.requires.ready _ c.args.row.now c.args.marked.now _ c.can_take.ensures c.if-can_take.false;
      marked_len = c.requires.marked_len;
    }

pub returns : goal.returns
returns c =
    by_key c.requires.ready _ _ _ _ c.can_take.ensures c.if-can_take.false c.mark_found.result c.mark_found.ensures
