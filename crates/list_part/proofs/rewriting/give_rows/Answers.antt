-- `give_rows` meets its contract. The part is lent on, and comes back with its marked rows given.
-- Assumes nothing.
use Rattle.list_part.specs.Gives.{given}
use Rattle.store.proofs.Parts.{read-region, lent-words, lent-back}
use Rattle.list_part.proofs.rewriting.give_rows.Goals as goal

pub give_marked-requires : goal.give_marked-requires
give_marked-requires c =
    let region = read-region c.requires.kept c.count-count.ensures (lent-words _ _ c.end.ensures) in
    record {
      fit = c.requires.fit;
      s_in_bounds = rw (← c.requires.columns_value) region.fits;
      numbers = rw c.count-count.ensures c.requires.numbers;
    }

pub returns : goal.returns
returns c = rw (← c.count-count.ensures) (lent-back _ _ c.end.ensures (given _ _ _ _ _) c.give_marked.ensures)
