-- `store::part_of` meets its contract, for a table and for the list.
-- Assumes nothing.
use Rattle.store.proofs.Plans.{table_at, list_at}
use Rattle.store.proofs.part_of.Goals.{then-number-plan, else-number-plan}
use Rattle.store.proofs.part_of.Goals as goal

pub returns : goal.returns
returns c =
    elim c.if-number-plan.branch [
      | then-number-plan w ↦ rw w.result-is (table_at _ _ w.if-number-plan.true)
      | else-number-plan w ↦ rw w.result-is (list_at _ _ w.if-number-plan.false)
    ]
