-- `Values::given_row` meets its contract. The loop's invariant: the words before k are given.
-- Assumes nothing.
use Rattle.std.proofs.Common.{arith}
use lib.ListN.{length-set}
use Rattle.list_part.proofs.Given.{word_more, word_end}
use Rattle.list_part.proofs.columns.Values.given_row.Goals as goal

pub loop-k-preserved : goal.loop-k-preserved
loop-k-preserved c = (
  simp length-set c.loop-k.invariant.0,
  rw c.word.ensures
      (word_more _ _ _ _ _ c.requires.s_in_bounds _ c.loop-k.k (omega (arith, c.requires.fit.rules.counts.listed-few))
      (rw (← c.listed-k-end.ensures) c.loop-k-test.true) c.loop-k.invariant.1),
)

pub returns : goal.returns
returns c =
    word_end _ _ _ _ _ c.requires.s_in_bounds _ _ _ c.listed-k-end.ensures c.loop-k.auto.k-end c.loop-k-test.false c.loop-k.invariant.1
