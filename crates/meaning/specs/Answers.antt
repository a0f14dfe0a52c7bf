-- What a call answers: the number of its first test that fails, and its whole outcome (document 01, "What a call turns down").
-- Assumes nothing.
use Rattle.std.specs.Prelude.{ℕ, zero, suc, Bool, true, false}
use Rattle.lists.specs.Lists.{Words}

-- The numbers of the table: "Given exactly when"
abbrev pub bad_counts : ℕ
bad_counts = 1

abbrev pub bad_words : ℕ
bad_words = 2

abbrev pub no_tree : ℕ
no_tree = 3

abbrev pub wrong_length : ℕ
wrong_length = 4

abbrev pub bad_change : ℕ
bad_change = 5

abbrev pub no_such_part : ℕ
no_such_part = 5

abbrev pub alters_tied : ℕ
alters_tied = 6

abbrev pub not_sound : ℕ
not_sound = 7

abbrev pub contradiction : ℕ
contradiction = 8

abbrev pub no_room : ℕ
no_room = 9

abbrev pub bad_base : ℕ
bad_base = 10

-- "Order: by number": go on to the rest only if the test is passed
abbrev pub unless : Bool → ℕ → ℕ → ℕ
unless true number rest = rest
unless false number rest = number

-- go on to the rest only if the number is 0
infixr 20 ◌or_else◌
abbrev pub ◌or_else◌ : ℕ → ℕ → ℕ
zero or_else rest = rest
suc number or_else rest = suc number

-- the number, rows taken from the list, rows added to it, and every word of the store
pub record Outcome : Type 0 where
  pub number : ℕ
  pub taken : ℕ
  pub added : ℕ
  pub words : Words

-- "A refusal gives its number, taken 0, added 0 and leaves the store untouched"
abbrev pub refused : ℕ → Words → Outcome
refused number store = record { number = number; taken = 0; added = 0; words = store }
