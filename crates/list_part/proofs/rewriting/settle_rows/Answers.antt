-- `settle_rows` meets its contract. The part is lent on, comes back in order, and its count is set.
-- Assumes nothing.
use Rattle.store.proofs.Parts.{lent-words}
use Rattle.list_part.specs.Loose.{loose_rows}
use Rattle.list_part.proofs.Rewrites.{rows-room, settled}
use Rattle.list_part.proofs.rewriting.settle_rows.Goals as goal

pub settle-requires : goal.settle-requires
unfolding loose_rows
settle-requires c =
    rw (lent-words c.args.p c.args.store.now c.end.ensures)
    (record {
      w_nonzero = c.requires.columns_nonzero;
      w_bound = c.requires.columns_le_most_listed;
      w_in_bounds = rows-room _ _ c.requires.loose.within _ c.requires.loose.fits;
      stand_le_count = c.requires.standing.fits;
      t = c.requires.standing.up;
    })

pub returns : goal.returns
returns c = settled _ _ _ _ c.requires.loose c.end.ensures c.settle.auto.s c.settle.ensures.rows c.settle.ensures.above
