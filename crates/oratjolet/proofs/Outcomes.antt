-- Each exported call has one outcome: what two calls that meet its contract return and leave in the lent words is the same.
-- Assumes nothing.
use Prim.Native.Nat.{ℕ}
use mathlib.Core.Path.{◌≡◌, sym, ap, ◌∙◌}
use Rattle.lists.specs.Lists.{Words}
use Rattle.meaning.specs.Answers.{Outcome}
use Rattle.store.specs.Shows.{first_of}
use Rattle.oratjolet.specs.Exports.{PlanLeft, StretchLeft, Left}

pub planned-once : (sheet : Words) (k j : ℕ) (v w : Words) → PlanLeft sheet k v → PlanLeft sheet j w → (k ≡ j) × (v ≡ w)
planned-once sheet k j v w x y = (x.number_is ∙ sym y.number_is, x.words_are ∙ sym y.words_are)

pub shown-once : (sheet store : Words) (part k j first from count many : ℕ)
    → StretchLeft sheet store part k first count → StretchLeft sheet store part j from many
    → (k ≡ j) × (first ≡ from) × (count ≡ many)
shown-once sheet store part k j first from count many x y =
    let same = x.number_is ∙ sym y.number_is in
    (same, x.first-is ∙ ap (first_of sheet part) same ∙ sym y.first-is, x.count-is ∙ sym y.count-is)

pub left-once : (o : Outcome) (k j taken out added into : ℕ) (v w : Words) → Left o k taken added v → Left o j out into w
    → (k ≡ j) × (taken ≡ out) × (added ≡ into) × (v ≡ w)
left-once o k j taken out added into v w x y =
    (x.number_is ∙ sym y.number_is, x.taken_is ∙ sym y.taken_is, x.added_is ∙ sym y.added_is, x.words_are ∙ sym y.words_are)
