-- `clear_rows` meets its contract: the words from the row's first on are filled with zeros.
-- Assumes nothing.
use Rattle.std.proofs.Common.{rules}
use Rattle.list_part.proofs.Clearing.{cleared-is}
use Rattle.list_part.proofs.rewriting.clear_rows.Goals as goal

pub returns : goal.returns
returns c = cleared-is _ _ c.requires.within _ c.requires.first_le_room c.end.ensures _ (c.fill.ensures.after (λ y h. search rules))
