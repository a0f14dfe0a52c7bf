-- `Values::give_row` meets its contract: the row with r's values is written over row i.
-- Assumes nothing.
use Rattle.list_part.proofs.Given.{given-is}
use Rattle.list_part.proofs.columns.Values.give_row.Goals as goal

pub returns : goal.returns
returns c = given-is _ _ _ _ _ c.requires.s_in_bounds _ c.listed-p.ensures _ _ c.given_row-row.ensures c.write_over.ensures
