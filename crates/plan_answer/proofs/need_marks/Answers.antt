-- `need_marks` meets its contract. The number of one call is named c too: what 64 calls gave, in the other c, is more than a search reads.
-- Assumes nothing.
use Rattle.std.proofs.Common.{◌≡◌, sym, ◌∙◌, rules, tests}
use Rattle.meaning.specs.Sheet.{sheet_of}
use Rattle.meaning.specs.Plan.{need}
use Rattle.derive.specs.Derived.{need_no}
use Rattle.sheet.proofs.Words.{n-is}
use Rattle.sheet_plan.proofs.FromFn.{all-filled-from_from_fn}
use Rattle.plan_answer.specs.Answers.{need_at, need_of}
use Rattle.plan_answer.proofs.need_marks.Goals as goal

pub returns : goal.returns
unfolding need_of need_at need_no need
returns c =
    let n : c.tables-n.result ≡ (sheet_of c.args.sheet.now).n = c.tables-n.ensures ∙ sym (n-is _) in
    all-filled-from_from_fn _ _ (need_at _) _ 64 c.from_fn.ensures.items (λ c r q s. search (rules, tests, n))
