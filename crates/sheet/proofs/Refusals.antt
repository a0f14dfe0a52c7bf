-- A refusal has a number of its own, and it is not 0.
-- Assumes nothing.
use mathlib.Core.Path.{◌≡◌, refl, sym, ap, ◌∙◌}
use native.Mathlib.Omega.{arith}
use Rattle.sheet.specs.declared.refusal.Refusal.{Refusal}
use Rattle.sheet.specs.declared.refusal.Refusal.TheVariants.{BadCounts, BadWords, NoTree, WrongLength, BadRequest}
use Rattle.sheet.specs.declared.refusal.Refusal.TheVariants.{AltersTied, NotSound, Contradiction, NoRoom, BadBase}
use Rattle.sheet.specs.Refusals.{refusal_number, refusal_of}

pub never-zero : (r : Refusal) → refusal_number r ≡ 0 → ⊥
never-zero BadCounts e = omega arith
never-zero BadWords e = omega arith
never-zero NoTree e = omega arith
never-zero WrongLength e = omega arith
never-zero BadRequest e = omega arith
never-zero AltersTied e = omega arith
never-zero NotSound e = omega arith
never-zero Contradiction e = omega arith
never-zero NoRoom e = omega arith
never-zero BadBase e = omega arith

pub of-number : (r : Refusal) → refusal_of (refusal_number r) ≡ r
of-number BadCounts = refl
of-number BadWords = refl
of-number NoTree = refl
of-number WrongLength = refl
of-number BadRequest = refl
of-number AltersTied = refl
of-number NotSound = refl
of-number Contradiction = refl
of-number NoRoom = refl
of-number BadBase = refl

pub number-once : (r q : Refusal) → refusal_number r ≡ refusal_number q → r ≡ q
number-once r q e = sym (of-number r) ∙ ap refusal_of e ∙ of-number q
