-- The loop's invariant: the lines of the tables before t stand in the buffer.
-- Assumes nothing.
use Rattle.std.proofs.Common.{◌+◌, ◌*◌, ◌≤◌}
use Rattle.text.specs.Laid.{line_of}
use Rattle.text.specs.Printing.{lines_up_to}
use Rattle.text.specs.Writing.{PutAt}
use Rattle.text.proofs.printing.put_lines.Given as goal

abbrev pub invariant-loop-t : goal.invariant-loop-t
invariant-loop-t l = record { short : l.end ≤ l.at + 115 * l.t; wrote : PutAt l.fn.out l.at (lines_up_to (line_of l.answer) l.t) l.out l.end }
