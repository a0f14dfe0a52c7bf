-- The kinds of a change by number.
-- Assumes nothing.
use Rattle.std.specs.Prelude.{ℕ, cond, Result, Ok, Err, eqb}
use Rattle.sheet.specs.declared.refusal.Refusal.{Refusal}
use Rattle.sheet.specs.declared.refusal.Refusal.TheVariants.{BadRequest}
use Rattle.change_asked.specs.declared.kind.Kind.{Kind}
use Rattle.change_asked.specs.declared.kind.Kind.TheVariants.{Insert, Delete, Update}

abbrev pub kind_number : Kind → ℕ
kind_number Insert = 1
kind_number Delete = 2
kind_number Update = 3

-- "a kind other than 1, 2 and 3" can't be asked for
unfoldable pub kind_of : ℕ → Result Kind Refusal
kind_of k = cond (eqb k 1) (Ok Insert) (cond (eqb k 2) (Ok Delete) (cond (eqb k 3) (Ok Update) (Err BadRequest)))
