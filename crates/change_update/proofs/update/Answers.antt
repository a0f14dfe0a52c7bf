-- `update` meets its contract.
-- Assumes nothing.
use mathlib.Core.Bool.{not}
use Rattle.std.proofs.lemmas.Result.{err_from_is_err_and}
use mathlib.Core.Path.{refl, sym, ap}
use lib.Seq.{length-take-le}
use Rattle.change_laws.proofs.Answers.{refused-by}
use Rattle.change_laws.proofs.Halves.{ready-ground, ready-list, ready-table, ready-tables, half-modelled}
use Rattle.change_taken.proofs.Finding.{fits-lent}
use Rattle.change_update.proofs.Updating.{updates-contradicts-side, updates-none, updates-contradicts-list}
use Rattle.change_update.proofs.Updating.{numbers-few, rows-replaceable, rows-show, replaceable, updates-done}
use borrow.Author.Rules.{rules}
use native.Mathlib.Omega.{arith}
use Rattle.change_update.proofs.update.Goals as goal

pub is_qualified-qualified-requires : goal.is_qualified-qualified-requires
is_qualified-qualified-requires c =
    record {
      laid = (ready-ground c.requires.ready).legible.laid;
      lent = c.requires.lent;
    }

pub old_row-requires : goal.old_row-requires
old_row-requires c =
    record {
      good_plan = c.requires.ready.planned;
      t_bound = ready-table c.requires.ready c.requires.lent;
      r_len = c.requires.lent.wide;
      t = c.requires.ready.sound;
      qualified_value = c.is_qualified-qualified.ensures;
    }

pub returns-then-not-old_row : goal.returns-then-not-old_row
returns-then-not-old_row c =
    updates-contradicts-side c.requires.ready c.requires.lent _ _ c.is_qualified-qualified.ensures _ c.old_row.ensures (ap not c.if-not-old_row.true)

pub returns-then-not-qualified : goal.returns-then-not-qualified
returns-then-not-qualified c =
    updates-none c.requires.ready c.requires.lent _ _ c.is_qualified-qualified.ensures _ c.old_row.ensures
    (ap not c.if-not-old_row.false) (ap not c.if-not-qualified.true)

pub part_of-list-requires : goal.part_of-list-requires
part_of-list-requires c =
    let few = ready-tables c.requires.ready in
    record {
      number_le_tables = few.1;
      tables_le_most_tables = few.0;
    }

pub mark_replaced-count-requires : goal.mark_replaced-count-requires
mark_replaced-count-requires c =
    record {
      ready = c.requires.ready;
      lies = ready-list c.requires.ready _ c.part_of-list.ensures;
      lent = c.requires.lent;
      marked_len = refl;
    }

pub returns-in_err-k : goal.returns-in_err-k
returns-in_err-k c =
    let p = err_from_is_err_and c.from_residual.result c.from_residual.ensures.1 in
    rw (p.1, p.2, refused-by _ _ _ c.in_err-k.ensures.value c.in_err-k.ensures.ok_part)
    (updates-contradicts-list c.requires.ready c.requires.lent _ _ c.is_qualified-qualified.ensures _ c.old_row.ensures (ap not c.if-not-old_row.false)
    (ap not c.if-not-qualified.false) _ _ c.mark_replaced-count.ensures c.in_err-k.ensures.ok_part)

pub slice_bounds-marked-end : goal.slice_bounds-marked-end
slice_bounds-marked-end c =
    numbers-few c.requires.ready c.requires.lent c.args.new.now _ c.is_qualified-qualified.ensures _ c.old_row.ensures (ap not c.if-not-old_row.false)
    (ap not c.if-not-qualified.false) _ _ c.mark_replaced-count.ensures _ c.in_ok-k.ensures.ok_part _
    (ready-list c.requires.ready _ c.part_of-list.ensures) 4096 (search rules) (omega arith)

pub slice_bounds-replace_rows-end : goal.slice_bounds-replace_rows-end
slice_bounds-replace_rows-end c =
    let within : _ =
    numbers-few c.requires.ready c.requires.lent c.args.new.now _ c.is_qualified-qualified.ensures _ c.old_row.ensures (ap not c.if-not-old_row.false)
    (ap not c.if-not-qualified.false) _ _ c.mark_replaced-count.ensures _ c.in_ok-k.ensures.ok_part _
    (ready-list c.requires.ready _ c.part_of-list.ensures) 4096 (search rules) (omega arith) in
    sym (length-take-le _ _ within)

pub replace_rows-requires : goal.replace_rows-requires
replace_rows-requires c =
    let lies = ready-list c.requires.ready _ c.part_of-list.ensures in record {
      replaceable = rows-replaceable c.requires.ready c.requires.lent _ _ c.is_qualified-qualified.ensures _ c.old_row.ensures (ap not c.if-not-old_row.false)
          (ap not c.if-not-qualified.false) _ _ c.mark_replaced-count.ensures _ c.in_ok-k.ensures.ok_part _ lies c.requires.lent_2;
      fits = fits-lent _ _ _ c.requires.lent;
      all_show = rows-show c.requires.ready c.requires.lent c.args.new.now _ c.is_qualified-qualified.ensures _ c.old_row.ensures
          (ap not c.if-not-old_row.false)
          (ap not c.if-not-qualified.false) _ _ c.mark_replaced-count.ensures _ c.in_ok-k.ensures.ok_part _ lies;
    }

pub replace_side-requires : goal.replace_side-requires
replace_side-requires c =
    let lies = ready-list c.requires.ready _ c.part_of-list.ensures in record {
      good_plan = c.requires.ready.planned;
      t_bound = ready-table c.requires.ready c.requires.lent;
      len = c.requires.lent.wide;
      len_2 = c.requires.lent_2.wide;
      modelled = half-modelled c.requires.ready _ lies _ _ c.replace_rows.ensures;
      replaceable = replaceable c.requires.ready c.requires.lent _ _ c.is_qualified-qualified.ensures _ c.old_row.ensures (ap not c.if-not-old_row.false)
          (ap not c.if-not-qualified.false) _ _ c.mark_replaced-count.ensures c.requires.tied _ c.in_ok-k.ensures.ok_part _ lies _
          c.replace_rows.ensures;
    }

pub returns : goal.returns
returns c =
    let lies = ready-list c.requires.ready _ c.part_of-list.ensures in
    updates-done c.requires.ready c.requires.lent _ _ c.is_qualified-qualified.ensures _ c.old_row.ensures (ap not c.if-not-old_row.false)
    (ap not c.if-not-qualified.false) _ _ c.mark_replaced-count.ensures c.requires.tied _ c.in_ok-k.ensures.ok_part _ lies _ c.replace_rows.ensures _
    c.replace_side.ensures
