-- `side_table::old_row` meets its contract: for an unkept table, an unqualified row and a qualified one.
-- Assumes nothing.
use Rattle.store.proofs.Plans.{marked, unmarked}
use Rattle.side_table.proofs.Tests.{asked-planned, sound-modelled, old-unkept, old-unqualified, old-is}
use Rattle.side_table.proofs.old_row.Goals as goal

pub returns-then-plan-t-eq0 : goal.returns-then-plan-t-eq0
returns-then-plan-t-eq0 c =
    let asked = asked-planned c.requires.good_plan c.requires.t_bound c.requires.t in
    old-unkept asked (unmarked _ _ c.requires.good_plan _ c.requires.t_bound c.if-plan-t-eq0.true) _

pub returns-then-not-qualified : goal.returns-then-not-qualified
returns-then-not-qualified c =
    let k = marked _ _ c.requires.good_plan _ c.requires.t_bound c.if-plan-t-eq0.false in
    let asked = asked-planned c.requires.good_plan c.requires.t_bound c.requires.t in
    old-unqualified asked k _ _ _ c.requires.qualified_value c.if-not-qualified.true c.new_key.ensures

pub find_side-requires : goal.find_side-requires
find_side-requires c =
    record {
      good_plan = c.requires.good_plan;
      t_bound = c.requires.t_bound;
      r_len = c.requires.r_len;
      t = marked _ _ c.requires.good_plan _ c.requires.t_bound c.if-plan-t-eq0.false;
      modelled = sound-modelled (asked-planned c.requires.good_plan c.requires.t_bound c.requires.t);
    }

pub returns : goal.returns
returns c =
    let k = marked _ _ c.requires.good_plan _ c.requires.t_bound c.if-plan-t-eq0.false in
    let asked = asked-planned c.requires.good_plan c.requires.t_bound c.requires.t in
    old-is asked k _ _ c.requires.qualified_value c.if-not-qualified.false _ c.find_side.ensures _ c.is_some.ensures
