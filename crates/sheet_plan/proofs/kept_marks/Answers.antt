-- `kept_marks` meets its contract.
-- Assumes nothing.
use Rattle.std.proofs.Common.{rules, arith}
use Rattle.derive.specs.Derived.{kept_no}
use Rattle.sheet.proofs.Words.{n-is}
use Rattle.sheet_plan.proofs.FromFn.{filled-from_from_fn}
use Rattle.sheet_plan.specs.Plans.{kept_at, kept_of}
use Rattle.sheet_plan.proofs.kept_marks.Goals as goal

pub returns : goal.returns
unfolding kept_of kept_at kept_no
returns c =
    filled-from_from_fn _ _ (kept_at _) _ _ 8 c.from_fn.ensures.items
    (omega (arith, n-is c.args.sheet.now, c.requires.joined.rules.counts.tables-few)) (λ k r q s. search (rules, n-is c.args.sheet.now))
