-- The measure of `depends`: the number of edges left falls with each call.
-- Assumes nothing.
use Rattle.derive.proofs.+depends.Given as goal

abbrev pub decreases-depends : goal.decreases-depends
decreases-depends l = l.left
