-- The measure of `needs`: the number of edges left falls with each call.
-- Assumes nothing.
use Rattle.derive.proofs.+needs.Given as goal

abbrev pub decreases-needs : goal.decreases-needs
decreases-needs l = l.left
