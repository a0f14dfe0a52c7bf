-- The marks of Dep and Need as the code makes them.
-- Assumes nothing.
use Prim.Native.Nat.{ℕ, ◌/◌, ◌%◌}
use mathlib.Core.Path.{◌≡◌, refl, ap, ◌∙◌}
use mathlib.Core.Bool.{Bool, true, false}
use Rattle.std.specs.Int.{from_bool}
use mathlib.Core.List.{List, [], ◌∷◌, map}
use Rattle.lists.specs.Lists.{Words, flat, member}
use Rattle.lists.specs.Totals.{one}
use Rattle.meaning.specs.Sheet.{sheet_of}
use Rattle.meaning.specs.Plan.{dep}
use Rattle.derive.specs.Derived.{dep_no}
use Rattle.plan_answer.specs.Answers.{dep_at}

as-one : (b : Bool) → from_bool b ≡ one b
as-one true = refl
as-one false = refl

-- Dep is Dep+ over one edge
flat-ones : (xs : List ℕ) → flat (map (λ p. p ∷ []) xs) ≡ xs
flat-ones [] = refl
flat-ones (x ∷ xs) = ap (λ (l : List ℕ). x ∷ l) (flat-ones xs)

pub dep-mark : (ws : Words) (i v : ℕ) (b : Bool) → b ≡ dep_no ws 1 (i / 8) (i % 8) → v ≡ from_bool b → v ≡ dep_at (sheet_of ws) i
unfolding dep_no dep_at
dep-mark ws i v b e m = m ∙ as-one b ∙ ap one (e ∙ ap (member (i % 8)) (flat-ones (dep (sheet_of ws) (i / 8))))
