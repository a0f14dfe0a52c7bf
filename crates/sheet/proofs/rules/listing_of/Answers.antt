-- `listing_of` meets its contract.
-- Assumes nothing.
use Rattle.std.proofs.Common.{refl, sym, ◌∙◌, arith}
use Rattle.lists.proofs.Loops.{some_more, first-at, first-end}
use Rattle.lists.specs.Loops.{some}
use Rattle.sheet.proofs.rules.listing_of.Goals as goal

pub loop-k-init : goal.loop-k-init
unfolding some
loop-k-init c = refl

pub returns-then-names_column : goal.returns-then-names_column
returns-then-names_column c =
    sym (first-at _ _ _ c.loop-k-test.true c.loop-k.invariant (sym c.names_column.ensures ∙ c.if-names_column.true)).1

pub loop-k-preserved : goal.loop-k-preserved
loop-k-preserved c = some_more _ _ c.loop-k.invariant (sym c.names_column.ensures ∙ c.if-names_column.false)

pub returns : goal.returns
returns c = sym (first-end _ _ _ (omega arith) (omega arith) c.loop-k.invariant)
