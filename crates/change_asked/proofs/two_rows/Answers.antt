-- `two_rows` meets its contract. Each return says one of the four tests.
-- Assumes nothing.
use mathlib.Core.Path.{sym, ◌∙◌}
use borrow.Author.Tests.{eq-eqb, ne_eqb}
use Rattle.change_asked.specs.Asked.{two_rows}
use Rattle.change_asked.proofs.two_rows.Goals as goal

pub returns-then-old-w : goal.returns-then-old-w
unfolding two_rows
returns-then-old-w c = rw (ne_eqb _ _ c.if-old-w.true)

pub returns-then-new-w : goal.returns-then-new-w
unfolding two_rows
returns-then-new-w c = rw (eq-eqb _ _ c.if-old-w.false, ne_eqb _ _ c.if-new-w.true)

pub returns-then-old-new : goal.returns-then-old-new
unfolding two_rows
returns-then-old-new c =
    rw (eq-eqb _ _ c.if-old-w.false, eq-eqb _ _ c.if-new-w.false, ne_eqb _ _ c.if-old-new.true)

pub returns-then-not-tied_stay : goal.returns-then-not-tied_stay
unfolding two_rows
returns-then-not-tied_stay c =
    rw (
      eq-eqb _ _ c.if-old-w.false,
      eq-eqb _ _ c.if-new-w.false,
      eq-eqb _ _ c.if-old-new.false,
      sym c.tied_stay.ensures ∙ c.if-not-tied_stay.true,
    )

pub returns : goal.returns
unfolding two_rows
returns c =
    rw (
      eq-eqb _ _ c.if-old-w.false,
      eq-eqb _ _ c.if-new-w.false,
      eq-eqb _ _ c.if-old-new.false,
      sym c.tied_stay.ensures ∙ c.if-not-tied_stay.false,
    )
