-- What the exported calls leave in the words that the caller lends, for every input: document 01's outcomes, word for word.
-- Assumes nothing.
use Rattle.std.specs.Prelude.{ℕ, ◌≡◌, [], ◌∷◌, ◌++◌, Result, Ok, Err, length, take, drop, replicate}
use Rattle.lists.specs.Lists.{Words}
use Rattle.meaning.specs.Plan.{plan}
use Rattle.meaning.specs.Store.{show}
use Rattle.meaning.specs.Answers.{Outcome}
use Rattle.sheet.specs.declared.refusal.Refusal.{Refusal}
use Rattle.sheet.specs.Refusals.{refusal_number, number_of}
use Rattle.store.specs.declared.Done.{Done}
use Rattle.store.specs.Answers.{taken_of, added_of}
use Rattle.store.specs.Shows.{first_of}
use Rattle.plan_answer.specs.Answers.{answer_of}
use Rattle.plan_answer.specs.declared.PlanAnswer.{PlanAnswer}

-- How many words the plan call answers
abbrev pub plan_length : ℕ
plan_length = 220

-- They are: number, tables, root, store length, then eight marks, three times 64 marks, eight places, eight rooms
-- and if the call is refused, the number and zeros
unfoldable pub plan_words : Result PlanAnswer Refusal → Words
plan_words (Ok a) = (0 ∷ a.tables ∷ a.root ∷ a.store ∷ []) ++ a.kept ++ (a.columns ++ a.dep ++ a.need) ++ (a.starts ++ a.rooms)
plan_words (Err r) = refusal_number r ∷ replicate 219 0

pub record PlanLeft (sheet : Words) (number : ℕ) (answer : Words) : Type 0 where
  pub number_is : number ≡ (plan sheet).number
  pub words_are : answer ≡ plan_words (answer_of (plan sheet))

-- The show call: the stretch of the store that it names is the one that document 01 hands back
pub record StretchLeft (sheet store : Words) (part number first count : ℕ) : Type 0 where
  pub number_is : number ≡ (show sheet store part).number
  pub first-is : first ≡ first_of sheet part number
  pub count-is : count ≡ length (show sheet store part).words
  pub words_are : take count (drop first store) ≡ (show sheet store part).words

-- An answer's number and counts, each in its word
pub record Told (a : Result Done Refusal) (number taken added : ℕ) : Type 0 where
  pub number_is : number ≡ number_of a
  pub taken_is : taken ≡ taken_of a
  pub added_is : added ≡ added_of a

-- The fill call and the change call: the whole outcome
pub record Left (o : Outcome) (number taken added : ℕ) (store : Words) : Type 0 where
  pub number_is : number ≡ o.number
  pub taken_is : taken ≡ o.taken
  pub added_is : added ≡ o.added
  pub words_are : store ≡ o.words
