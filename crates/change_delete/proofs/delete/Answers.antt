-- `delete` meets its contract.
-- Assumes nothing.
use Rattle.list_part.proofs.Lists.{list-kept}
use Prim.Native.Nat.{ℕ}
use mathlib.Core.Path.{sym, ap}
use mathlib.Core.Bool.{not}
use Rattle.std.proofs.lemmas.Result.{err_from_is_err_and}
use lib.ListN.{length-replicate}
use lib.Seq.{length-take-le}
use Rattle.change_laws.proofs.Answers.{refused-by}
use Rattle.change_laws.proofs.Halves.{ready-good, ready-ground, ready-list, ready-table, ready-tables, half-modelled}
use Rattle.change_delete.proofs.Deleting.{taken-few, taken-run, deletes-contradicts-side, deletes-none, deletes-contradicts-list, deletes-done}
use native.Mathlib.Omega.{arith}
use Rattle.change_delete.proofs.delete.Goals as goal

pub is_qualified-qualified-requires : goal.is_qualified-qualified-requires
is_qualified-qualified-requires c =
    record {
      laid = (ready-ground c.requires.ready).legible.laid;
      lent = c.requires.lent;
    }

pub old_row-requires : goal.old_row-requires
old_row-requires c =
    record {
      good_plan = c.requires.ready.planned;
      t_bound = ready-table c.requires.ready c.requires.lent;
      r_len = c.requires.lent.wide;
      t = c.requires.ready.sound;
      qualified_value = c.is_qualified-qualified.ensures;
    }

pub returns-then-not-old_row : goal.returns-then-not-old_row
returns-then-not-old_row c =
    deletes-contradicts-side c.requires.ready c.requires.lent _ c.is_qualified-qualified.ensures _ c.old_row.ensures (ap not c.if-not-old_row.true)

pub returns-then-not-qualified : goal.returns-then-not-qualified
returns-then-not-qualified c =
    deletes-none c.requires.ready c.requires.lent _ c.is_qualified-qualified.ensures _ c.old_row.ensures
    (ap not c.if-not-old_row.false) (ap not c.if-not-qualified.true)

pub part_of-list-requires : goal.part_of-list-requires
part_of-list-requires c =
    let few = ready-tables c.requires.ready in
    record {
      number_le_tables = few.1;
      tables_le_most_tables = few.0;
    }

pub mark_ways-count-requires : goal.mark_ways-count-requires
mark_ways-count-requires c =
    record {
      ground = ready-ground c.requires.ready;
      t = c.requires.ready.sound;
      lies = ready-list c.requires.ready _ c.part_of-list.ensures;
      lent = c.requires.lent;
      marked_len = length-replicate {A = ℕ} 4096 0;
    }

pub returns-in_err-taken : goal.returns-in_err-taken
returns-in_err-taken c =
    let p = err_from_is_err_and c.from_residual.result c.from_residual.ensures.1 in
    rw (p.1, p.2, refused-by _ _ _ c.in_err-taken.ensures.value c.in_err-taken.ensures.ok_part)
    (deletes-contradicts-list c.requires.ready c.requires.lent _ c.is_qualified-qualified.ensures _ c.old_row.ensures (ap not c.if-not-old_row.false)
    (ap not c.if-not-qualified.false) _ _ c.mark_ways-count.ensures c.in_err-taken.ensures.ok_part)

pub slice_bounds-marked-end : goal.slice_bounds-marked-end
slice_bounds-marked-end c =
    omega (
      arith,
      taken-few c.requires.ready c.requires.lent _ (ready-list c.requires.ready _ c.part_of-list.ensures) _ _ c.mark_ways-count.ensures
          _ c.in_ok-taken.ensures.ok_part,
      c.mark_ways-count.auto.marked,
    )

pub slice_bounds-take_marked-end : goal.slice_bounds-take_marked-end
slice_bounds-take_marked-end c =
    sym (length-take-le _ _ (omega (
      arith,
      taken-few c.requires.ready c.requires.lent _ (ready-list c.requires.ready _ c.part_of-list.ensures) _ _ c.mark_ways-count.ensures
          _ c.in_ok-taken.ensures.ok_part,
      c.mark_ways-count.auto.marked,
    )))

pub take_marked-requires : goal.take_marked-requires
take_marked-requires c =
    let lies = ready-list c.requires.ready _ c.part_of-list.ensures in record {
      kept = list-kept _ (ready-good c.requires.ready) _ c.requires.ready.sound _ lies;
      numbers = taken-run c.requires.ready c.requires.lent _ lies _ _ c.mark_ways-count.ensures _ c.in_ok-taken.ensures.ok_part;
    }

pub take_side-requires : goal.take_side-requires
take_side-requires c =
    let lies = ready-list c.requires.ready _ c.part_of-list.ensures in
    record {
      good_plan = c.requires.ready.planned;
      t_bound = ready-table c.requires.ready c.requires.lent;
      r_len = c.requires.lent.wide;
      modelled = half-modelled c.requires.ready _ lies _ _ c.take_marked.ensures;
    }

pub returns : goal.returns
returns c =
    let lies = ready-list c.requires.ready _ c.part_of-list.ensures in
    deletes-done c.requires.ready c.requires.lent _ c.is_qualified-qualified.ensures _ c.old_row.ensures
    (ap not c.if-not-old_row.false) (ap not c.if-not-qualified.false) _ _ c.mark_ways-count.ensures _ lies _ c.in_ok-taken.ensures.ok_part _
    c.take_marked.ensures _ c.take_side.ensures
