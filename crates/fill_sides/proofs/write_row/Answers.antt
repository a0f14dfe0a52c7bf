-- `write_row` meets its contract.
-- Assumes nothing.
use Rattle.rows.proofs.Moves.{written_start}
use Rattle.fill_sides.proofs.Rows.{column-more}
use Rattle.fill_sides.proofs.write_row.Goals as goal

pub loop-k-init : goal.loop-k-init
loop-k-init c = written_start _ _ _

pub loop-k-preserved : goal.loop-k-preserved
loop-k-preserved c = column-more _ _ _ _ _ _ c.requires.columns_in_bounds c.loop-k-test.true c.loop-k.invariant
