-- `edge_ok` meets its contract.
-- Assumes nothing.
use Rattle.std.proofs.Common.{arith, rules, tests}
use Rattle.std.proofs.lemmas.Bool.Decides.{nat_tests}
use Rattle.sheet.proofs.Steps.{edge-test}
use Rattle.sheet.proofs.rules.edge_ok.Goals as goal

pub returns-then-e-tables : goal.returns-then-e-tables
returns-then-e-tables c = rw (edge-test _ _ c.edge_no-e.ensures, ← c.has_column.ensures) (search (rules, tests))

pub returns-else-e-tables : goal.returns-else-e-tables
returns-else-e-tables c = rw (edge-test _ _ c.edge_no-e.ensures, ← c.has_column.ensures) (grind (arith, nat_tests))
