-- `columns_of` meets its contract.
-- Assumes nothing.
use Rattle.std.proofs.Common.{rules, arith}
use Rattle.meaning.specs.Plan.{columns}
use Rattle.sheet.proofs.Words.{n-is}
use Rattle.sheet_plan.specs.Plans.{columns_of}
use Rattle.sheet_plan.proofs.FromFn.{filled-from_from_fn}
use Rattle.sheet_plan.proofs.columns_of.Goals as goal

pub returns : goal.returns
unfolding columns_of
returns c =
    filled-from_from_fn _ _ (columns _) _ _ 9 c.from_fn.ensures.items
    (omega (arith, n-is c.args.sheet.now, c.requires.0.joined.rules.counts.tables-few)) (λ k r q s. search (rules, n-is c.args.sheet.now))
