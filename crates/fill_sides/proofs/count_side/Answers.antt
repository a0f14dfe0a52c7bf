-- `count_side` meets its contract.
-- Assumes nothing.
use Rattle.base_qualified.proofs.Bases.{based}
use Rattle.fill_sides.proofs.Counts.{count-is}
use Rattle.fill_sides.proofs.count_side.Goals as goal

pub returns : goal.returns
returns c = count-is (based c.args.base.now) c.requires.t_bound c.requires.t _ c.count_passing.ensures
