-- `answer_for` meets its contract.
-- Assumes nothing.
use Rattle.plan_answer.specs.Answers.{answer_for}
use Rattle.plan_answer.proofs.answer_for.Goals as goal

pub returns : goal.returns
unfolding answer_for
returns c = rw (c.kept_columns.ensures, c.first_parts.ensures, c.first_parts-2.ensures)
