-- Document 01, "The store": a model as words, words as a model, sound, and the show call.
-- Assumes nothing.
use Rattle.std.specs.Prelude.{ℕ, ◌+◌, ◌*◌, ◌-◌, Bool, cond, ◌&&◌, ◌||◌, List, [], ◌∷◌, ◌++◌, map, ltb, leb, eqb, length, get_or, take, drop, replicate}
use Rattle.lists.specs.Lists.{Words, at, all, flat, from, up_to}
use Rattle.rows.specs.Rows.{Rows, cut, rising, no_key_twice}
use Rattle.meaning.specs.Limits.{most_tables, list_count}
use Rattle.meaning.specs.Answers.{wrong_length, no_such_part, not_sound, unless, ◌or_else◌}
use Rattle.meaning.specs.Sheet.{Sheet, tables, room, sheet_of, sheet_refusal}
use Rattle.meaning.specs.Plan.{kept, columns, size, start, store_length}
use Rattle.meaning.specs.Base.{rows_of}
use Rattle.meaning.specs.Meaning.{Model}

-- Part t, below n, is table t's, and part n the list's
abbrev pub parts_of : Sheet → List ℕ
parts_of s = up_to (s.n + 1)

abbrev pub part_rows : Model → ℕ → Rows
part_rows m part = get_or (m.sides ++ (m.list ∷ [])) part []

-- From a model to words: "nine counts (tables 0 to 7, then the list; 0 for an absent or unkept table), then the room of each kept side
-- table in table order, then the list's room"; "Unused room is zero"
unfoldable pub counts : Model → Words
counts m = map (λ t. length (rows_of m.sides t)) (up_to most_tables) ++ (length m.list ∷ [])

abbrev pub padded : ℕ → Words → Words
padded k ws = ws ++ replicate (k - length ws) 0

unfoldable pub store_of : Sheet → Model → Words
store_of s m = counts m ++ flat (map (λ part. padded (size s part) (flat (part_rows m part))) (parts_of s))

-- From words to a model
abbrev pub count : Sheet → Words → ℕ → ℕ
count s store part = at store (cond (ltb part s.n) part list_count)

unfoldable pub part_words : Sheet → Words → ℕ → Words
part_words s store part = take (size s part) (drop (start s part) store)

unfoldable pub rows_at : Sheet → Words → ℕ → Rows
rows_at s store part = cut (columns s part) (count s store part) (part_words s store part)

unfoldable pub model_of : Sheet → Words → Model
model_of s store = record { sides = map (rows_at s store) (tables s); list = rows_at s store s.n }

-- Refusal 7. Of each part: no count exceeds its room, rows stand in rising order, unused room is zero
unfoldable pub sound_part : Sheet → Words → ℕ → Bool
sound_part s store part =
    leb (count s store part) (room s part)
    && rising (rows_at s store part)
    && all (eqb 0) (drop (count s store part * columns s part) (part_words s store part))

-- of a table: its count is 0 if it is unkept, and in its side table no key stands twice
unfoldable pub sound_table : Sheet → Words → ℕ → Bool
sound_table s store t = (kept s t || eqb (count s store t) 0) && no_key_twice (rows_at s store t)

-- "A store is sound if all of this holds and no count exceeds its room"; the counts of absent tables are 0
unfoldable pub sound : Sheet → Words → Bool
sound s store =
    eqb (length store) (store_length s)
    && all (λ t. eqb (at store t) 0) (from s.n (most_tables - s.n))
    && all (sound_part s store) (parts_of s)
    && all (sound_table s store) (tables s)

-- Refusal 9: no count exceeds its room
unfoldable pub fits : Sheet → Model → Bool
fits s m = all (λ part. leb (length (part_rows m part)) (room s part)) (parts_of s)

-- The show call: its number, and "the stretch of the store that holds those rows, empty for an unkept table"
pub record Stretch : Type 0 where
  pub number : ℕ
  pub words : Words

unfoldable pub show_refusal : Words → Words → ℕ → ℕ
show_refusal sheet store part =
    let s = sheet_of sheet in
    sheet_refusal sheet or_else
    (unless (eqb (length store) (store_length s)) wrong_length
    (unless (leb part s.n) no_such_part
    (unless (sound s store) not_sound
    0)))

unfoldable pub stretch_of : Sheet → Words → ℕ → Words
stretch_of s store part = take (count s store part * columns s part) (drop (start s part) store)

unfoldable pub show : Words → Words → ℕ → Stretch
show sheet store part =
    let number = show_refusal sheet store part in
    record { number = number; words = cond (eqb number 0) (stretch_of (sheet_of sheet) store part) [] }
