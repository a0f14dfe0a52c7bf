-- `store::take_marked` meets its contract: the lent part comes back without the marked rows.
-- Assumes nothing.
use Rattle.std.proofs.Common.{arith}
use Rattle.rows.specs.Marks.{spared}
use Rattle.rows.proofs.Runs.{numbers-few}
use Rattle.store.proofs.Parts.{read-region, lent-words, wrote-rows}
use Rattle.store.proofs.take_marked.Goals as goal

pub take_marked-requires : goal.take_marked-requires
take_marked-requires c =
    record {
      region = read-region c.requires.kept c.count-count.ensures (lent-words _ _ c.end.ensures);
      numbers = rw c.count-count.ensures c.requires.numbers;
    }

pub overflow_sub-store : goal.overflow_sub-store
overflow_sub-store c = omega (arith, c.count-count.ensures, numbers-few c.requires.numbers)

pub returns : goal.returns
returns c = wrote-rows c.requires.kept c.count-count.ensures c.end.ensures (spared _) c.take_marked.auto.s _ c.take_marked.ensures
