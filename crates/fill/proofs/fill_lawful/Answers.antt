-- `fill_lawful` meets its contract.
-- Assumes nothing.
use mathlib.Core.Path.{sym, ◌∙◌}
use Rattle.fill.proofs.Lawful.{sides-refused, list-refused, blank, filled-says, cleared}
use native.Mathlib.Omega.{arith}
use Rattle.fill.proofs.fill_lawful.Goals as goal

pub sides_fit-requires : goal.sides_fit-requires
sides_fit-requires c = c.requires.stored.planned

pub returns-then-not-sides_fit : goal.returns-then-not-sides_fit
returns-then-not-sides_fit c =
    sides-refused c.requires.stored c.args.base.now.ordered.tables.laid c.requires.lawful (sym c.sides_fit.ensures ∙ c.if-not-sides_fit.true)

pub part_of-list-requires : goal.part_of-list-requires
part_of-list-requires c = record {
  number_le_tables = omega arith;
  tables_le_most_tables = c.requires.stored.planned.planned.tables-few;
}

pub count_list-added-requires : goal.count_list-added-requires
count_list-added-requires c = record { lawful = c.requires.lawful; root_is = c.requires.stored.planned.planned.root_is }

pub returns-then-list-added : goal.returns-then-list-added
returns-then-list-added c =
    list-refused c.requires.stored c.args.base.now.ordered.tables.laid c.requires.lawful (sym c.sides_fit.ensures ∙ c.if-not-sides_fit.false) _
    c.part_of-list.ensures _ c.count_list-added.ensures c.if-list-added.true

pub write_sides-requires : goal.write_sides-requires
write_sides-requires c =
    record {
      good_plan = c.requires.stored.planned;
      sheet_value = sym c.sides_fit.ensures ∙ c.if-not-sides_fit.false;
      sides_stand = cleared c.requires.stored c.args.base.now.ordered.tables.laid c.requires.lawful _ (c.fill.ensures.after (λ y h. h));
    }

pub write_list-requires : goal.write_list-requires
write_list-requires c =
    record {
      lawful = c.requires.lawful;
      blank = blank c.requires.stored c.args.base.now.ordered.tables.laid c.requires.lawful (sym c.sides_fit.ensures ∙ c.if-not-sides_fit.false) _
          c.part_of-list.ensures _ c.count_list-added.ensures c.if-list-added.false _ c.write_sides.ensures;
    }

pub returns : goal.returns
returns c =
    filled-says c.requires.stored c.args.base.now.ordered.tables.laid c.requires.lawful (sym c.sides_fit.ensures ∙ c.if-not-sides_fit.false) _
    c.part_of-list.ensures _ c.count_list-added.ensures c.if-list-added.false _ c.write_list.ensures
