-- `words_ok` meets its contract.
-- Assumes nothing.
use Rattle.std.proofs.Common.{arith}
use Rattle.std.proofs.lemmas.Bool.Decides.{nat_tests}
use Rattle.sheet.proofs.Facts.{words_are}
use Rattle.sheet.proofs.rules.words_ok.Goals as goal

pub returns-then-listings_ok : goal.returns-then-listings_ok
returns-then-listings_ok c = rw (words_are _ c.requires) (grind (arith, nat_tests))

pub returns-else-listings_ok : goal.returns-else-listings_ok
returns-else-listings_ok c = rw (words_are _ c.requires) (grind (arith, nat_tests))
