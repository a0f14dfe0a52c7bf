-- What an update below its tests promises, and what is said of the marks on the list rows that it replaces.
-- Assumes nothing.
use Rattle.std.specs.Prelude.{Option, Some, None, ℕ, ◌≡◌, Bool, true, false, not, ◌||◌, ◌⊎◌, eqb, length, take, Result}
use Rattle.lists.specs.Lists.{Words, at}
use Rattle.rows.specs.Rows.{Row, has_rows}
use Rattle.meaning.specs.Sheet.{sheet_of}
use Rattle.meaning.specs.Store.{model_of, rows_at}
use Rattle.meaning.specs.Change.{qualifies, found_show}
use Rattle.meaning.specs.Base.{change_of}
use Rattle.effects.specs.Applied.{applied, replaced_rows, Marked}
use Rattle.sheet_plan.specs.declared.Plan.{Plan}
use Rattle.store.specs.Answers.{Says}
use Rattle.sheet.specs.declared.refusal.Refusal.{Refusal}
use Rattle.store.specs.declared.Done.{Done}

-- ways can be taken, as the plan says
unfoldable pub can_take_by : Plan → ℕ → Bool
can_take_by plan t = eqb t plan.root || not (eqb (at plan.kept plan.root) 0)

-- the list rows to be replaced show r's values and are marked by the first k numbers; or, if r is qualified, one shows others or they are not there as often
abbrev pub ReplacedTaken : Words → Words → ℕ → Row → Words → Option ℕ → Type 0
ReplacedTaken ws store t r numbers (Some k) =
    (k ≡ length (replaced_rows (sheet_of ws) (model_of (sheet_of ws) store) t r))
    × (found_show (sheet_of ws) (model_of (sheet_of ws) store) t r ≡ true)
    × Marked (replaced_rows (sheet_of ws) (model_of (sheet_of ws) store) t r) (rows_at (sheet_of ws) store (sheet_of ws).n) (take k numbers)
ReplacedTaken ws store t r numbers None =
    qualifies (sheet_of ws) (model_of (sheet_of ws) store) t r ≡ true
    → (found_show (sheet_of ws) (model_of (sheet_of ws) store) t r ≡ false)
    ⊎ ((found_show (sheet_of ws) (model_of (sheet_of ws) store) t r ≡ true)
    × (has_rows (replaced_rows (sheet_of ws) (model_of (sheet_of ws) store) t r) (rows_at (sheet_of ws) store (sheet_of ws).n) ≡ false))

-- the whole outcome is the definition's
pub record Updates (ws store : Words) (t : ℕ) (old new : Row) (a : Result Done Refusal) (exit : Words) : Type 0 where
  pub says : Says (applied (sheet_of ws) store (change_of 3 t old new)) a exit
