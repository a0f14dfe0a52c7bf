-- `side_table::new_key` meets its contract, for an unkept table and for a kept one.
-- Assumes nothing.
use mathlib.Core.Path.{ap, ◌∙◌}
use Rattle.rows.specs.Ranks.{found_key}
use Rattle.store.proofs.Plans.{unmarked}
use Rattle.side_table.proofs.Parts.{side-marked, side-some, side-kept, side-rows}
use Rattle.side_table.proofs.Tests.{asked-planned, sound-modelled, new-unkept, new-is}
use Rattle.side_table.proofs.new_key.Goals as goal

pub returns-then-plan-t-eq0 : goal.returns-then-plan-t-eq0
returns-then-plan-t-eq0 c =
    let asked = asked-planned c.requires.good_plan c.requires.t_bound c.requires.t in
    new-unkept asked (unmarked _ _ c.requires.good_plan _ c.requires.t_bound c.if-plan-t-eq0.true) _

pub find_key-requires : goal.find_key-requires
find_key-requires c =
    let side = side-marked _ _ c.requires.good_plan _ c.requires.t_bound c.if-plan-t-eq0.false _ c.part_of-p.ensures in
    record {
      kept = side-kept side (sound-modelled (asked-planned c.requires.good_plan c.requires.t_bound c.requires.t));
      columns_nonzero = side-some side;
    }

pub returns : goal.returns
returns c =
    let side = side-marked _ _ c.requires.good_plan _ c.requires.t_bound c.if-plan-t-eq0.false _ c.part_of-p.ensures in
    let found = c.find_key.ensures ∙ ap (found_key _) (side-rows side _) in
    new-is (asked-planned c.requires.good_plan c.requires.t_bound c.requires.t) c.args.r.now _ found _ c.is_none.ensures
