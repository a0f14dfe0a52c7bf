-- What a change below its tests promises.
-- Assumes nothing.
use Rattle.std.specs.Prelude.{T, Result}
use Rattle.lists.specs.Lists.{Words}
use Rattle.meaning.specs.Sheet.{sheet_of}
use Rattle.meaning.specs.Base.{Change}
use Rattle.meaning.specs.Store.{sound}
use Rattle.effects.specs.Applied.{applied}
use Rattle.store.specs.Answers.{Says}
use Rattle.sheet.specs.declared.refusal.Refusal.{Refusal}
use Rattle.store.specs.declared.Done.{Done}

-- the whole outcome is the definition's, and the store is sound again
pub record Applies (ws store : Words) (c : Change) (a : Result Done Refusal) (exit : Words) : Type 0 where
  pub says : Says (applied (sheet_of ws) store c) a exit
  pub sound : T (sound (sheet_of ws) exit)
