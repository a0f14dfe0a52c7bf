-- `Reader::broken` meets its contract, by the definition of a broken reader.
-- Assumes nothing.
use mathlib.Core.Path.{refl}
use Rattle.text.specs.Readers.{broken}
use Rattle.text.proofs.reading.Reader.broken.Goals as goal

pub returns : goal.returns
unfolding broken
returns c = refl
