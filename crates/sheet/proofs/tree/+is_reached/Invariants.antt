-- The measure of `is_reached`: the number of edges left falls with each call.
-- Assumes nothing.
use Rattle.sheet.proofs.tree.+is_reached.Given as goal

abbrev pub decreases-is_reached : goal.decreases-is_reached
decreases-is_reached l = l.left
