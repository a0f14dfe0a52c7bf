-- `asked` meets its contract. Each arm of the match is one kind.
-- Assumes nothing.
use mathlib.Core.Path.{◌∙◌}
use Rattle.change_asked.proofs.Tests.{no_table, asked-insert, asked-delete, asked-update}
use native.Mathlib.Omega.{arith}
use Rattle.change_asked.proofs.asked.Goals as goal

pub returns-then-tables-table : goal.returns-then-tables-table
returns-then-tables-table c = no_table _ _ _ _ _ (omega arith)

pub two_rows-requires : goal.two_rows-requires
two_rows-requires c =
    let w = (c.requires.joined.rules.widths c.args.table (omega arith)).low in
    record {
      counts = c.requires.joined.rules.counts;
      le_w = omega (arith, c.width_no-w.ensures);
    }

pub returns-in-Insert : goal.returns-in-Insert
returns-in-Insert c = rw c.in-Insert.is (c.one_row.ensures ∙ asked-insert _ _ (omega arith) _ _ _ c.width_no-w.ensures)

pub returns-in-Delete : goal.returns-in-Delete
returns-in-Delete c = rw c.in-Delete.is (c.one_row-in-Delete.ensures ∙ asked-delete _ _ (omega arith) _ _ _ c.width_no-w.ensures)

pub returns-in-Update : goal.returns-in-Update
returns-in-Update c = rw c.in-Update.is (c.two_rows.ensures ∙ asked-update _ _ (omega arith) _ _ _ c.width_no-w.ensures)
