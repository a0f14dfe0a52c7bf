-- `Reader::finish` meets its contract: a newline more says the same.
-- Assumes nothing.
use Rattle.text.specs.Readers.{finished}
use Rattle.text.proofs.reading.Reader.finish.Goals as goal

pub returns : goal.returns
unfolding finished
returns c = c.take_byte.ensures
