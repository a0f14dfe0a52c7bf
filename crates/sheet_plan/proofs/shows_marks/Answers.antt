-- `shows_marks` meets its contract: the three kinds of columns are those that side tables show.
-- Assumes nothing.
use Rattle.std.proofs.Common.{rules}
use Rattle.sheet_plan.specs.Marked.{key_place, edge_place, listing_place}
use Rattle.sheet_plan.proofs.Marking.{shows-made}
use Rattle.sheet_plan.proofs.shows_marks.Goals as goal

pub returns : goal.returns
unfolding key_place edge_place listing_place
returns c =
    shows-made _ c.requires.joined.rules _ _ _ (rw c.tables.ensures at (c.mark_each.ensures key_place (λ k x l p. search rules)))
    (rw c.edges.ensures at (c.mark_each-2.ensures (edge_place c.args.sheet.now) (λ k x l p. search rules)))
    (rw c.listed.ensures at (c.mark_each-3.ensures (listing_place c.args.sheet.now) (λ k x l p. search rules)))
