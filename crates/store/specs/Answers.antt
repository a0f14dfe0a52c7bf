-- Document 01's values of each answer, and that an answer and the words left in the store are a whole outcome.
-- Assumes nothing.
use Rattle.std.specs.Prelude.{ℕ, ◌≡◌, Result, Ok, Err}
use Rattle.lists.specs.Lists.{Words}
use Rattle.meaning.specs.Answers.{Outcome}
use Rattle.sheet.specs.declared.refusal.Refusal.{Refusal}
use Rattle.sheet.specs.Refusals.{number_of}
use Rattle.store.specs.declared.Done.{Done}

-- an accepted call's answer
abbrev pub accepts : ℕ → ℕ → Result Done Refusal
accepts taken added = Ok (record { taken = taken; added = added })

-- "A refusal gives its number, taken 0, added 0": its number is never 0 (`never-zero` of crate sheet)
abbrev pub taken_of : Result Done Refusal → ℕ
taken_of (Ok d) = d.taken
taken_of (Err r) = 0

abbrev pub added_of : Result Done Refusal → ℕ
added_of (Ok d) = d.added
added_of (Err r) = 0

-- the answer says the outcome, and the store's words at exit are the outcome's
pub record Says (o : Outcome) (a : Result Done Refusal) (exit : Words) : Type 0 where
  pub number : number_of a ≡ o.number
  pub taken : taken_of a ≡ o.taken
  pub added : added_of a ≡ o.added
  pub words : exit ≡ o.words
