-- `put_member` meets its contract: after a comma, or as the first.
-- Assumes nothing.
use Rattle.text.proofs.Sets.{member-first, member-next}
use Rattle.text.proofs.printing.put_member.Goals as goal

pub returns-then-from-at : goal.returns-then-from-at
returns-then-from-at c = member-next _ _ _ _ c.requires.x_bound c.if-from-at.true

pub returns : goal.returns
returns c = member-first _ _ _ _ c.requires.x_bound c.if-from-at.false
