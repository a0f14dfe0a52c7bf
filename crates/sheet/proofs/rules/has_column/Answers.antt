-- `has_column` meets its contract.
-- Assumes nothing.
use Rattle.std.proofs.Common.{arith}
use Rattle.std.proofs.lemmas.Bool.Decides.{nat_tests}
use Rattle.sheet.proofs.Words.{n-is, width_is}
use Rattle.sheet.proofs.rules.has_column.Goals as goal

pub returns-then-t-tables : goal.returns-then-t-tables
returns-then-t-tables c = rw (n-is c.args.sheet.now, width_is c.args.sheet.now c.args.t (omega arith)) (grind (arith, nat_tests))

pub returns-else-t-tables : goal.returns-else-t-tables
returns-else-t-tables c = rw (n-is c.args.sheet.now) (grind (arith, nat_tests))
