-- `put_lines` meets its contract.
-- Assumes nothing.
use Rattle.std.proofs.Common.{arith}
use Rattle.text.proofs.Lines.{lines_none, lines_more, lines_end}
use Rattle.text.proofs.printing.put_lines.Goals as goal

pub loop-t-init : goal.loop-t-init
loop-t-init c = record { short = omega arith; wrote = lines_none _ _ _ }

pub loop-t-preserved : goal.loop-t-preserved
loop-t-preserved c = record { short = omega arith; wrote = lines_more _ _ _ _ _ _ _ _ c.loop-t.invariant.wrote c.put_line-end.ensures.put_at }

pub returns : goal.returns
returns c = record { put_at = lines_end _ _ _ _ _ _ _ (omega arith) c.loop-t-test.false c.loop-t.invariant.wrote; upper_bound = omega arith }
