-- `listing_ok` meets its contract.
-- Assumes nothing.
use Rattle.std.proofs.Common.{rules, tests, refl}
use Rattle.lists.proofs.Chains.{some-from_any}
use Rattle.sheet.specs.Tests.{listing_names}
use Rattle.sheet.proofs.Steps.{listing-test}
use Rattle.sheet.proofs.rules.listing_ok.Goals as goal

pub returns-then-has_column : goal.returns-then-has_column
returns-then-has_column c =
    rw (
      listing-test _ _ c.listing_no-l.ensures,
      ← c.has_column.ensures,
      c.if-has_column.true,
      some-from_any (listing_names c.args.sheet.now c.listing_no-l.result.table c.listing_no-l.result.column) _ _ _ refl c.any.ensures.ran
          (λ x b q k. search (rules, tests)),
    )

pub returns-else-has_column : goal.returns-else-has_column
returns-else-has_column c = rw (listing-test _ _ c.listing_no-l.ensures, ← c.has_column.ensures) (search (rules, tests))
