-- `Values::word` meets its contract.
-- Assumes nothing.
use Rattle.list_part.proofs.Given.{word-own, word-other}
use Rattle.list_part.proofs.columns.Values.word.Goals as goal

pub returns-then-l-self : goal.returns-then-l-self
returns-then-l-self c =
    word-own _ _ _ _ _ c.requires.s_in_bounds _ c.requires.k_bound _ c.listing_no-l.ensures c.if-l-self.true

pub returns : goal.returns
returns c =
    word-other _ _ _ _ _ c.requires.s_in_bounds _ c.requires.k_bound _ c.listing_no-l.ensures c.if-l-self.false _ c.listed.ensures
