-- `store::find_row` meets its contract: what `rows` finds in the part's words.
-- Assumes nothing.
use Rattle.std.proofs.Common.{ap, ◌∙◌}
use Rattle.rows.specs.Ranks.{found_row}
use Rattle.store.proofs.Parts.{read-rows}
use Rattle.store.proofs.find_row.Goals as goal

pub returns : goal.returns
returns c = c.find.ensures ∙ ap (found_row _) (read-rows c.requires.kept c.count.ensures c.words.ensures)
