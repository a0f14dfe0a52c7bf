-- `Reader::take_digit` meets its contract: the number in hand grows as long as it has 64 bits.
-- Assumes nothing.
use Rattle.std.proofs.Common.{◌∙◌, rules}
use Rattle.text.proofs.Bytes.{digit-fits, digit-too-large}
use Rattle.text.proofs.reading.Reader.take_digit.Goals as goal

pub returns-then-d-number : goal.returns-then-d-number
returns-then-d-number c = c.broken.ensures ∙ digit-too-large _ _ _ c.unwrap_or-number.ensures c.if-d-number.true

pub returns : goal.returns
returns c = digit-fits c.args.self _ _ c.unwrap_or-number.ensures (search rules) c.if-d-number.false
