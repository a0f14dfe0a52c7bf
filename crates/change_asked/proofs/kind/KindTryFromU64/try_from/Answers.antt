-- `Kind::try_from` meets its contract. Each arm of the match is one kind, and the last refuses the rest.
-- Assumes nothing.
use borrow.Author.Tests.{ne_eqb}
use native.Mathlib.Omega.{arith}
use Rattle.change_asked.specs.Kinds.{kind_of}
use Rattle.change_asked.proofs.kind.KindTryFromU64.try_from.Goals as goal

pub returns-in-1 : goal.returns-in-1
unfolding kind_of
returns-in-1 c = rw c.in-1.is

pub returns-in-2 : goal.returns-in-2
unfolding kind_of
returns-in-2 c = rw c.in-2.is

pub returns-in-3 : goal.returns-in-3
unfolding kind_of
returns-in-3 c = rw c.in-3.is

pub returns-in_default : goal.returns-in_default
unfolding kind_of
returns-in_default c = rw (ne_eqb c.args.number 1 (λ q. omega arith), ne_eqb c.args.number 2 (λ q. omega arith), ne_eqb c.args.number 3 (λ q. omega arith))
