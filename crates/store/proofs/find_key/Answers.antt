-- `store::find_key` meets its contract: what `rows` finds in the part's words.
-- Assumes nothing.
use Rattle.std.proofs.Common.{ap, ◌∙◌}
use Rattle.rows.specs.Ranks.{found_key}
use Rattle.store.proofs.Parts.{read-rows}
use Rattle.store.proofs.find_key.Goals as goal

pub returns : goal.returns
returns c = c.find_key.ensures ∙ ap (found_key _) (read-rows c.requires.kept c.count.ensures c.words.ensures)
