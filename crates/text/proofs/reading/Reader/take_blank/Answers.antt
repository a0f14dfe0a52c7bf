-- `Reader::take_blank` meets its contract: nothing in hand, no room left, or one word more.
-- Assumes nothing.
use Rattle.text.specs.Readers.{emptied}
use Rattle.text.proofs.Bytes.{blank_none, blank-full, blank-kept}
use Rattle.text.proofs.reading.Reader.take_blank.Goals as goal

pub returns-in_default : goal.returns-in_default
returns-in_default c = blank_none _ c.in_default.is

pub returns-then-many-ge-HELD : goal.returns-then-many-ge-HELD
unfolding emptied
returns-then-many-ge-HELD c = blank-full c.args.self _ c.in-Some.is c.if-many-ge-HELD.true

pub returns : goal.returns
returns c = blank-kept c.args.self _ c.in-Some.is c.if-many-ge-HELD.false
