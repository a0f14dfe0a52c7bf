-- `put_plan_of` meets its contract: the answer's text is the plan's.
-- Assumes nothing.
use Rattle.text.specs.Printing.{refused_text}
use Rattle.text.proofs.Writes.{wrote_as}
use Rattle.text.proofs.Laid.{good-printed, refused-printed, few-tables}
use borrow.Author.Rules.{rules}
use mathlib.Core.Path.{sym, ap, ◌∙◌}
use Rattle.text.proofs.printing.put_plan_of.Goals as goal

pub put_plan-requires : goal.put_plan-requires
put_plan-requires c = record {
  tables_le_most_tables = few-tables _ _ (sym c.in-Ok.is ∙ c.plan_of.ensures);
  page_in_bounds = search rules;
}

pub returns-in-Ok : goal.returns-in-Ok
returns-in-Ok c = record {
  put_at = wrote_as (good-printed _ _ (sym c.in-Ok.is ∙ c.plan_of.ensures)) c.put_plan.ensures.put_at;
  upper_bound = c.put_plan.ensures.upper_bound;
}

pub returns-in-Err : goal.returns-in-Err
returns-in-Err c = record {
  put_at = wrote_as (ap refused_text c.from.ensures ∙ refused-printed _ _ (sym c.in-Err.is ∙ c.plan_of.ensures)) c.put_refused.ensures.put_at;
  upper_bound = search rules;
}
