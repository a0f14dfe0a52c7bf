-- The loop's invariant: no listing before k names the column.
-- Assumes nothing.
use Rattle.std.proofs.Common.{◌≡◌, false}
use Rattle.lists.specs.Loops.{some}
use Rattle.sheet.specs.Tests.{listing_names}
use Rattle.sheet.proofs.rules.listing_of.Given as goal

abbrev pub invariant-loop-k : goal.invariant-loop-k
invariant-loop-k l = some (listing_names l.sheet l.t l.c) l.k ≡ false
