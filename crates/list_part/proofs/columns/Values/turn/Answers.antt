-- `Values::turn` meets its contract. The loop's invariant: the listed columns before k do not say which way.
-- Assumes nothing.
use Rattle.std.proofs.Common.{sym, ◌∙◌, ◌<◌}
use Rattle.meaning.specs.Sheet.{listed_count}
use Rattle.list_part.proofs.Given.{turn-other, turn-way, turn-same, turn_end}
use Rattle.list_part.proofs.columns.Values.turn.Goals.{then-l-self+else-is_ne, else-l-self}
use Rattle.list_part.proofs.columns.Values.turn.Goals as goal

pub returns-then-is_ne : goal.returns-then-is_ne
returns-then-is_ne c =
    turn-way _ _ _ _ _ (rw (← c.listed-k-end.ensures) c.loop-k-test.true) _ c.listing_no-l.ensures c.loop-k.invariant
    c.if-l-self.true _ c.cmp-order.ensures (sym c.is_ne.ensures ∙ c.if-is_ne.true)

pub loop-k-preserved : goal.loop-k-preserved
loop-k-preserved c =
    let here : c.loop-k.k < listed_count c.args.self.sheet.now = rw (← c.listed-k-end.ensures) c.loop-k-test.true in
    elim c.if-l-self.branch [
      | then-l-self+else-is_ne w ↦ turn-same _ _ _ _ _ here _ c.listing_no-l.ensures c.loop-k.invariant
          w.if-l-self.true _ w.cmp-order.ensures (sym w.is_ne.ensures ∙ w.if-is_ne.false)
      | else-l-self w ↦ turn-other _ _ _ _ _ here _ c.listing_no-l.ensures c.loop-k.invariant w.if-l-self.false
    ]

pub returns : goal.returns
returns c =
    turn_end _ _ _ _ c.loop-k.k (rw (← c.listed-k-end.ensures) c.loop-k-test.false) c.loop-k.invariant
