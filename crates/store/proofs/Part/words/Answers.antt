-- `Part::words` meets its contract: the words up to the end that `end` gives.
-- Assumes nothing.
use Rattle.store.proofs.Parts.{lent-words}
use Rattle.store.proofs.Part.words.Goals as goal

pub returns : goal.returns
returns c = lent-words _ _ c.end.ensures
