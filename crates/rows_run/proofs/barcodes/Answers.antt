-- `rows_run::barcodes` lends a run of zeros, which is a region without rows.
use Rattle.std.proofs.Common.{arith}
use Rattle.rows.specs.Rows.{cut, rising}
use Rattle.rows_run.proofs.barcodes.Goals as goal

pub put_barcodes-requires-clause-region : goal.put_barcodes-requires-clause-region
unfolding cut rising
put_barcodes-requires-clause-region g c = record { fits = omega arith; up = tt; zeros = tt }
