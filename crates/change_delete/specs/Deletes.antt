-- What a delete below its tests promises.
-- Assumes nothing.
use Rattle.std.specs.Prelude.{ℕ, Result}
use Rattle.lists.specs.Lists.{Words}
use Rattle.rows.specs.Rows.{Row}
use Rattle.meaning.specs.Sheet.{sheet_of}
use Rattle.meaning.specs.Base.{change_of}
use Rattle.effects.specs.Applied.{applied}
use Rattle.store.specs.Answers.{Says}
use Rattle.sheet.specs.declared.refusal.Refusal.{Refusal}
use Rattle.store.specs.declared.Done.{Done}

-- the whole outcome is the definition's, whatever the unused row
pub record Deletes (ws store : Words) (t : ℕ) (r : Row) (a : Result Done Refusal) (exit : Words) : Type 0 where
  pub says : (o : Row) → Says (applied (sheet_of ws) store (change_of 2 t r o)) a exit
