-- `store::mark_row` meets its contract: what `rows` marks of the part's rows.
-- Assumes nothing.
use Rattle.store.proofs.Parts.{read-rows}
use Rattle.store.proofs.mark_row.Goals as goal

pub returns : goal.returns
returns c = rw (read-rows c.requires.kept c.count.ensures c.words.ensures) at c.mark.ensures.marking
