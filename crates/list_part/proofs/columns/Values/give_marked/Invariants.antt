-- `Values::give_marked` meets its contract. The loop's invariant: the rows at the numbers so far are given, and the rest is as it was.
-- Assumes nothing.
use Rattle.list_part.proofs.Given.{Giving}
use Rattle.list_part.proofs.columns.Values.give_marked.Given as goal

abbrev pub invariant-loop-i : goal.invariant-loop-i
invariant-loop-i l = Giving l.self.sheet.now l.self.table l.self.row.now l.numbers l.count l.initial.s l.i-index l.s
