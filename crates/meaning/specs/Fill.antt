-- Document 01: the fill call. "Fill tests 1, 2, 3, 4, 10, 9", and "doesn't read the old store".
-- Assumes nothing.
use Rattle.std.specs.Prelude.{ℕ, cond, eqb, length}
use Rattle.lists.specs.Lists.{Words}
use Rattle.meaning.specs.Answers.{wrong_length, no_room, bad_base, unless, ◌or_else◌, Outcome, refused}
use Rattle.meaning.specs.Sheet.{Sheet, sheet_of, sheet_refusal}
use Rattle.meaning.specs.Plan.{store_length}
use Rattle.meaning.specs.Base.{base_of, good_base}
use Rattle.meaning.specs.Meaning.{meaning}
use Rattle.meaning.specs.Store.{store_of, fits}

unfoldable pub fill_refusal : Words → Words → Words → ℕ
fill_refusal sheet store run =
    let s = sheet_of sheet in
    sheet_refusal sheet or_else
    (unless (eqb (length store) (store_length s)) wrong_length
    (unless (good_base s run) bad_base
    (unless (fits s (meaning s (base_of s run))) no_room
    0)))

-- "Fill answers taken 0 and added = rows on the list"
unfoldable pub filled : Sheet → Words → Outcome
filled s run =
    let m = meaning s (base_of s run) in
    record { number = 0; taken = 0; added = length m.list; words = store_of s m }

unfoldable pub fill : Words → Words → Words → Outcome
fill sheet store run =
    let number = fill_refusal sheet store run in
    cond (eqb number 0) (filled (sheet_of sheet) run) (refused number store)
