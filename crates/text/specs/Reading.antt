-- Document 01, "A program reads a sheet from standard input": which numbers a whole text says, byte by byte, if it says numbers at all.
-- Assumes nothing.
use Rattle.std.specs.Prelude.{ℕ, ◌+◌, ◌-◌, ◌*◌, ◌^◌, Bool, true, false, cond, ◌&&◌, ◌||◌, List, [], ◌∷◌, map, ltb, eqb}
use Rattle.lists.specs.Lists.{Words, between, all, select}

-- Bytes, as numbers
abbrev pub Text : Type 0
Text = List ℕ

-- "parted by any number of spaces or newlines"
unfoldable pub is_blank : ℕ → Bool
is_blank b = eqb b 32 || eqb b 10

-- `0` to `9`
unfoldable pub is_digit : ℕ → Bool
is_digit b = between 48 57 b

-- what a run of digits says when v stands before it; the first digit counts most
unfoldable pub onward : ℕ → Text → ℕ
onward v [] = v
onward v (b ∷ bs) = onward (v * 10 + (b - 48)) bs

unfoldable pub value : Text → ℕ
value bs = onward 0 bs

-- b before the first piece
unfoldable pub before : ℕ → List Text → List Text
before b [] = (b ∷ []) ∷ []
before b (piece ∷ pieces) = (b ∷ piece) ∷ pieces

-- the text cut at each blank; two blanks side by side have an empty piece between them
unfoldable pub pieces : Text → List Text
pieces [] = [] ∷ []
pieces (b ∷ bs) = cond (is_blank b) ([] ∷ pieces bs) (before b (pieces bs))

unfoldable pub is_some : Text → Bool
is_some [] = false
is_some (b ∷ bs) = true

-- "decimals (leading zeros allowed) parted by any number of spaces or newlines (which may also lead and follow)"
unfoldable pub decimals : Text → List Text
decimals text = select is_some (pieces text)

-- digits alone, and not "too large for 64 bits"
unfoldable pub is_number : Text → Bool
is_number piece = all is_digit piece && ltb (value piece) (2 ^ 64)

-- The words that a text says, or that it "isn't such numbers, or too large for 64 bits"
pub data Reading : Type 0 where
  says : Words → Reading
  isnt : Reading

unfoldable pub read_text : Text → Reading
read_text text = cond (all is_number (decimals text)) (says (map value (decimals text))) isnt
