-- `one_row` meets its contract. Each return says one of the two tests.
-- Assumes nothing.
use borrow.Author.Tests.{eq-eqb, ne_eqb}
use Rattle.change_asked.specs.Asked.{one_row}
use Rattle.change_asked.proofs.one_row.Goals as goal

pub returns-then-unused-ne0 : goal.returns-then-unused-ne0
unfolding one_row
returns-then-unused-ne0 c = rw (ne_eqb _ _ c.if-unused-ne0.true)

pub returns-then-row-w : goal.returns-then-row-w
unfolding one_row
returns-then-row-w c = rw (eq-eqb _ _ c.if-unused-ne0.false, ne_eqb _ _ c.if-row-w.true)

pub returns : goal.returns
unfolding one_row
returns c = rw (eq-eqb _ _ c.if-unused-ne0.false, eq-eqb _ _ c.if-row-w.false)
