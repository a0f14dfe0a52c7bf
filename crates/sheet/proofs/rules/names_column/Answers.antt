-- `names_column` meets its contract.
-- Assumes nothing.
use Rattle.std.proofs.Common.{arith}
use Rattle.std.proofs.lemmas.Bool.Decides.{nat_tests}
use Rattle.sheet.specs.Tests.{listing_names}
use Rattle.sheet.proofs.rules.names_column.Goals as goal

pub returns-then-l-t : goal.returns-then-l-t
unfolding listing_names
returns-then-l-t c = grind (arith, nat_tests, c.listing_no-l.ensures.table_is, c.listing_no-l.ensures.column-is)

pub returns-else-l-t : goal.returns-else-l-t
unfolding listing_names
returns-else-l-t c = grind (arith, nat_tests, c.listing_no-l.ensures.table_is, c.listing_no-l.ensures.column-is)
