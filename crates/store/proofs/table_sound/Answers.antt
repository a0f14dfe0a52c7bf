-- `store::table_sound` meets its contract, for an unkept table and for a kept one.
-- Assumes nothing.
use Rattle.std.proofs.Common.{ap, eqb, arith}
use Rattle.store.proofs.Plans.{within-store, has-columns}
use Rattle.store.proofs.Whole.{unkept-is, kept-is}
use Rattle.store.proofs.table_sound.Goals as goal

pub count-requires : goal.count-requires
count-requires c = within-store _ c.requires.of_sheet _ _ _ (omega arith) c.part_of-p.ensures c.requires.store_len

pub returns-then-plan-t-eq0 : goal.returns-then-plan-t-eq0
returns-then-plan-t-eq0 c = unkept-is _ _ c.requires.t_lt_tables c.part_of-p.ensures c.if-plan-t-eq0.true (ap (λ n. eqb n 0) c.count.ensures)

pub part_sound-requires : goal.part_sound-requires
part_sound-requires c =
    record {
      within = within-store _ c.requires.of_sheet _ _ _ (omega arith) c.part_of-p.ensures c.requires.store_len;
      columns_nonzero = λ keyed. has-columns _ c.requires.of_sheet _ _ c.requires.t_lt_tables c.if-plan-t-eq0.false c.part_of-p.ensures;
    }

pub returns : goal.returns
returns c = kept-is _ _ c.requires.t_lt_tables c.part_of-p.ensures c.if-plan-t-eq0.false c.part_sound.ensures
