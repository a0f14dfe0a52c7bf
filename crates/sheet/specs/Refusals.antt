-- Document 01's number of each refusal and of what a call answers, and the refusal that has a number.
-- Assumes nothing.
use Rattle.std.specs.Prelude.{ℕ, pred, List, [], ◌∷◌, get_or, Result, Ok, Err}
use Rattle.meaning.specs.Answers.{bad_counts, bad_words, no_tree, wrong_length, bad_change, alters_tied, not_sound, contradiction, no_room, bad_base}
use Rattle.sheet.specs.declared.refusal.Refusal.{Refusal}
use Rattle.sheet.specs.declared.refusal.Refusal.TheVariants.{BadCounts, BadWords, NoTree, WrongLength, BadRequest}
use Rattle.sheet.specs.declared.refusal.Refusal.TheVariants.{AltersTied, NotSound, Contradiction, NoRoom, BadBase}

-- the one that a change and the show call share is named by the change's
abbrev pub refusal_number : Refusal → ℕ
refusal_number BadCounts = bad_counts
refusal_number BadWords = bad_words
refusal_number NoTree = no_tree
refusal_number WrongLength = wrong_length
refusal_number BadRequest = bad_change
refusal_number AltersTied = alters_tied
refusal_number NotSound = not_sound
refusal_number Contradiction = contradiction
refusal_number NoRoom = no_room
refusal_number BadBase = bad_base

-- the refusals by number, from 1 on
abbrev pub refusals : List Refusal
refusals = BadCounts ∷ BadWords ∷ NoTree ∷ WrongLength ∷ BadRequest ∷ AltersTied ∷ NotSound ∷ Contradiction ∷ NoRoom ∷ BadBase ∷ []

-- the refusal of a number of the table
abbrev pub refusal_of : ℕ → Refusal
refusal_of number = get_or refusals (pred number) BadBase

-- "An accepted call's number is 0"
abbrev pub number_of : {A : Type 0} → Result A Refusal → ℕ
number_of (Ok x) = 0
number_of (Err r) = refusal_number r
