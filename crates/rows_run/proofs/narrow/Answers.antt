-- `rows_run::narrow` lends rows of which none needs to stand.
use Rattle.rows.specs.Rows.{cut, rising}
use Rattle.rows_run.proofs.narrow.Goals as goal

pub settle-requires-clause-t : goal.settle-requires-clause-t
unfolding rising cut
settle-requires-clause-t g c = tt

pub settle-requires-2-clause-t : goal.settle-requires-2-clause-t
unfolding rising cut
settle-requires-2-clause-t g c = tt

pub settle-requires-3-clause-t : goal.settle-requires-3-clause-t
unfolding rising cut
settle-requires-3-clause-t g c = tt
