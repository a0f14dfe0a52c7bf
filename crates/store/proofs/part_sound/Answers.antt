-- `store::part_sound` meets its contract, by the test of `rows` that it calls on the part's words.
-- Assumes nothing.
use Rattle.std.proofs.Common.{ap, length, ◌∙◌}
use Rattle.store.proofs.Parts.{part-long, sound-keyed, sound-unkeyed}
use Rattle.store.proofs.part_sound.Goals as goal

pub sound_side-requires : goal.sound_side-requires
sound_side-requires c = record {
  w_nonzero = c.requires.columns_nonzero c.if-keyed.true;
  s_len = ap length c.words.ensures ∙ part-long _ _ c.requires.within;
}

pub returns-then-keyed : goal.returns-then-keyed
returns-then-keyed c = sound-keyed _ _ c.count.ensures c.words.ensures c.if-keyed.true c.sound_side.ensures

pub sound_region-requires : goal.sound_region-requires
sound_region-requires c = ap length c.words-2.ensures ∙ part-long _ _ c.requires.within

pub returns : goal.returns
returns c = sound-unkeyed _ _ c.count-2.ensures c.words-2.ensures c.if-keyed.false c.sound_region.ensures
