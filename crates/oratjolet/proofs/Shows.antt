-- The exported show call: the words that stand where it says are those that document 01 hands back, and as many.
-- Assumes nothing.
use Prim.Native.Nat.{ℕ, ◌+◌, ◌-◌}
use mathlib.Core.Path.{◌≡◌, sym, ap, ◌∙◌}
use native.Mathlib.Omega.{arith}
use lib.ListN.{length, take, drop, length-take, length-drop}
use Rattle.lists.specs.Lists.{Words}
use Rattle.lists.specs.Parts.{part}
use Rattle.meaning.specs.Store.{show}
use Rattle.store.specs.declared.Stretch.{Stretch}
use Rattle.sheet.specs.declared.refusal.Refusal.{Refusal}
use Rattle.sheet.specs.Refusals.{number_of}
use Rattle.std.specs.Prelude.{Result}
use Rattle.store.specs.Shows.{stretch_in, Stands}
use Rattle.oratjolet.specs.Exports.{StretchLeft}

pub stretch-left : (sheet store : Words) (number : ℕ) (a : Result Stretch Refusal) → Stands sheet store number a
    → StretchLeft sheet store number (number_of a) (stretch_in a).first (stretch_in a).count
unfolding part
stretch-left sheet store number a h =
    let s = stretch_in a in
    let e : s.first + s.count - s.first ≡ s.count = omega arith in
    let w : take s.count (drop s.first store) ≡ (show sheet store number).words =
    ap (λ (k : ℕ). take k (drop s.first store)) (sym e) ∙ h.gives.words_are in
    let l : length (take s.count (drop s.first store)) ≡ s.count = simp (length-take, length-drop) (omega (arith, h.ends)) in
    record { number_is = h.gives.number_is; first-is = h.first-is; count-is = sym l ∙ ap length w; words_are = w }
