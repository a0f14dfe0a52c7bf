-- `plan_for` meets its contract: each array is the definition's.
-- Assumes nothing.
use mathlib.Core.Path.{refl}
use native.Mathlib.Omega.{arith}
use Rattle.sheet_plan.proofs.Shown.{shows-past}
use Rattle.sheet_plan.proofs.Steps.{plan-made}
use Rattle.sheet_plan.proofs.plan_for.Goals as goal

pub lay_rows-requires : goal.lay_rows-requires
lay_rows-requires c =
    record {
      n_le_most_tables = omega arith;
      unmarked_from = shows-past _ c.requires.joined.rules _ _ c.shows_marks-shows.ensures c.tables-tables.ensures;
      lists_value = refl;
      places_value = refl;
    }

pub returns : goal.returns
returns c =
    plan-made _ c.requires.joined.rules _ _ _ _ _ _ _ _ _ _ c.tables-tables.ensures c.root_of-root.ensures
    c.kept_marks-kept.ensures c.shows_marks-shows.ensures c.lay_rows.ensures.lists_after c.columns_of-columns.ensures
    c.rooms_of-rooms.ensures c.starts_of-starts.ensures c.order_of-order.ensures c.lay_rows.ensures.places_after
