-- What the show call promises: the words that it hands back, their place in the store, or the refusal's number, are those of the definition.
-- Assumes nothing.
use Rattle.std.specs.Prelude.{ℕ, ◌+◌, ◌*◌, ◌≤◌, ◌≡◌, cond, [], Result, Ok, Err, eqb, length}
use Rattle.std.specs.Borrow.{Bor}
use Rattle.lists.specs.Lists.{Words}
use Rattle.lists.specs.Parts.{part}
use Rattle.meaning.specs.Sheet.{sheet_of}
use Rattle.meaning.specs.Plan.{start}
use Rattle.meaning.specs.Store.{show}
use Rattle.sheet.specs.declared.refusal.Refusal.{Refusal}
use Rattle.sheet.specs.Refusals.{refusal_number, number_of}
use Rattle.store.specs.declared.Stretch.{Stretch}

pub record Gives (sheet store : Words) (part : ℕ) (words : Words) (number : ℕ) : Type 0 where
  pub words_are : words ≡ (show sheet store part).words
  pub number_is : number ≡ (show sheet store part).number

-- where in the store the rows of a part begin: at its first word if the call is refused
unfoldable pub first_of : Words → ℕ → ℕ → ℕ
first_of sheet part number = cond (eqb number 0) (start (sheet_of sheet) part) 0

-- where the words stand that are handed back: none, from the first on, in a refusal
abbrev pub stretch_in : Result Stretch Refusal → Stretch
stretch_in (Ok s) = s
stretch_in (Err r) = record { first = 0; count = 0 }

pub record Stands (sheet store : Words) (number : ℕ) (a : Result Stretch Refusal) : Type 0 where
  pub gives : Gives sheet store number (part store (stretch_in a).first ((stretch_in a).first + (stretch_in a).count)) (number_of a)
  pub first-is : (stretch_in a).first ≡ first_of sheet number (number_of a)
  pub ends : (stretch_in a).first + (stretch_in a).count ≤ length store

-- where word k of a lent run lies in memory: a word has eight bytes
abbrev pub word_at : Bor Words → ℕ → ℕ × ℕ
word_at run k = (run.ref_ptr.0, k * 8 + run.ref_ptr.1)

-- "hands back the stretch of the store that holds those rows": no copy of it, and no other stretch with the same words
pub record RowsAt (sheet : Words) (store : Bor Words) (part : ℕ) (rows : Bor Words) : Type 0 where
  pub gives : Gives sheet store.now part rows.now 0
  pub stands : rows.ref_ptr ≡ word_at store (first_of sheet part 0)

-- a refusal hands back no words
abbrev pub words_in : Result (Bor Words) Refusal → Words
words_in (Ok rows) = rows.now
words_in (Err r) = []

abbrev pub HandsBack : Words → Bor Words → ℕ → Result (Bor Words) Refusal → Type 0
HandsBack sheet store part (Ok rows) = RowsAt sheet store part rows
HandsBack sheet store part (Err r) = Gives sheet store.now part [] (refusal_number r)
