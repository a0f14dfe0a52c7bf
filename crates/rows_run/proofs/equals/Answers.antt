-- `rows_run::equals` lends a run of zeros, which is a region without rows.
use Rattle.std.proofs.Common.{arith}
use Rattle.rows.specs.Rows.{cut, rising}
use Rattle.rows_run.proofs.equals.Goals as goal

pub put_equals-requires-clause-region : goal.put_equals-requires-clause-region
unfolding cut rising
put_equals-requires-clause-region g c = record { fits = omega arith; up = tt; zeros = tt }
