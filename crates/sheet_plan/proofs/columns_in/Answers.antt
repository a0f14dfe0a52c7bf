-- `columns_in` meets its contract.
-- Assumes nothing.
use Rattle.sheet_plan.proofs.Sizes.{columns-of-list, columns-none, columns-shown}
use native.Mathlib.Omega.{arith}
use Rattle.sheet_plan.proofs.columns_in.Goals as goal

pub returns-then-tables-part : goal.returns-then-tables-part
returns-then-tables-part c =
    columns-of-list _ c.requires.0 _ _ c.requires.1.1.1 (omega arith) c.listed.ensures

pub returns-then-kept-part-eq0 : goal.returns-then-kept-part-eq0
returns-then-kept-part-eq0 c =
    columns-none _ c.requires.0 _ _ c.requires.1.0 (omega arith) c.if-kept-part-eq0.true

pub returns : goal.returns
returns c =
    columns-shown _ c.requires.0 _ _ c.requires.1.0 (omega arith) _ _ c.requires.1.1.0 c.if-kept-part-eq0.false c.marks_before.ensures
