-- `store::absent_zero` meets its contract, by the words that the chain goes through.
-- Assumes nothing.
use Rattle.std.proofs.Common.{rules, tests, ◌∙◌, ◌-◌, eqb, take, drop}
use Rattle.std.proofs.lemmas.Iterator.{YieldsList-from_slice}
use Rattle.std.proofs.lemmas.Iterator.Search.{all_from_yields_List}
use Rattle.store.proofs.Tests.{absent-is}
use Rattle.store.proofs.absent_zero.Goals as goal

pub returns : goal.returns
returns c =
    all_from_yields_List (λ n. eqb n 0) _ _ _ c.all.ensures.ran (YieldsList-from_slice (take (8 - c.args.n) (drop c.args.n c.args.store.now)) cc)
    (λ x b q k. search (rules, tests))
    ∙ absent-is _ _ c.requires.few c.requires.long
