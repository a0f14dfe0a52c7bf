-- `rows_run::by_merge` lends rows of which the first three rise.
use Rattle.rows.specs.Rows.{cut, rising, smaller, row_order, word_order, then_by, is_less}
use Rattle.rows_run.proofs.by_merge.Goals as goal

pub settle-requires-clause-t : goal.settle-requires-clause-t
unfolding rising cut smaller row_order word_order then_by is_less
settle-requires-clause-t g c = tt
