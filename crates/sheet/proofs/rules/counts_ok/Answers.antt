-- `counts_ok` meets its contract.
-- Assumes nothing.
use Rattle.std.proofs.Common.{arith}
use Rattle.std.proofs.lemmas.Bool.Decides.{nat_tests}
use Rattle.lists.proofs.Loops.{no}
use Rattle.sheet.proofs.Facts.{counts-facts}
use Rattle.meaning.specs.Sheet.{good_counts}
use Rattle.sheet.proofs.rules.counts_ok.Goals as goal

pub returns-in_default : goal.returns-in_default
returns-in_default c = no _ (λ h. let f = counts-facts _ h in omega arith)

pub returns-then-contains-2 : goal.returns-then-contains-2
unfolding good_counts
returns-then-contains-2 c = grind (arith, nat_tests)

pub returns-else-contains-2 : goal.returns-else-contains-2
unfolding good_counts
returns-else-contains-2 c = grind (arith, nat_tests)
