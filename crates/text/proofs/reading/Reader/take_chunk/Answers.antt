-- `Reader::take_chunk` meets its contract.
-- Assumes nothing.
use Rattle.std.proofs.Common.{refl, ap, ◌∙◌}
use lib.Seq.{take_all}
use Rattle.text.specs.Readers.{after_bytes}
use Rattle.text.proofs.Bytes.{bytes-more}
use Rattle.text.proofs.reading.Reader.take_chunk.Goals as goal

pub loop-byte-init : goal.loop-byte-init
unfolding after_bytes
loop-byte-init c = refl

pub loop-byte-preserved : goal.loop-byte-preserved
loop-byte-preserved c = c.take_byte-self.ensures ∙ bytes-more _ _ _ _ c.loop-byte-test.true c.loop-byte.invariant

pub returns : goal.returns
returns c = c.loop-byte.invariant ∙ ap (after_bytes _) (take_all _ _ c.loop-byte-test.false)
