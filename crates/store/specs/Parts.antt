-- A part of the store as code knows it: four numbers. What stands there, and what a function that writes it leaves.
-- Assumes nothing.
use Rattle.std.specs.Prelude.{ℕ, ◌+◌, ◌*◌, ◌<◌, ◌≤◌, ◌≡◌, Bool, cond, length, set}
use Rattle.lists.specs.Lists.{Words, at}
use Rattle.lists.specs.Parts.{part, splice}
use Rattle.rows.specs.Rows.{Rows, cut}
use Rattle.rows.specs.Regions.{laid, Region, Holds, sound_region, sound_side}
use Rattle.meaning.specs.Limits.{count_words}
use Rattle.meaning.specs.Sheet.{Sheet, room}
use Rattle.meaning.specs.Plan.{columns, start}
use Rattle.places.specs.Stands.{slot}
use Rattle.store.specs.declared.Part.{Part}

-- how many words it has, and the place behind its last
abbrev pub size_of : Part → ℕ
size_of p = p.room * p.columns

abbrev pub stop_of : Part → ℕ
stop_of p = p.start + size_of p

-- its words in a store, its count, and its rows
unfoldable pub words_in : Part → Words → Words
words_in p ws = part ws p.start (stop_of p)

abbrev pub count_in : Part → Words → ℕ
count_in p ws = at ws p.slot

unfoldable pub rows_in : Part → Words → Rows
rows_in p ws = cut p.columns (count_in p ws) (words_in p ws)

-- its words are sound, as a side table's (keyed) or the list's
unfoldable pub sound_in : Part → Bool → Words → Bool
sound_in p keyed ws =
    cond keyed (sound_side p.columns p.room (count_in p ws) (words_in p ws)) (sound_region p.columns p.room (count_in p ws) (words_in p ws))

-- it is part `number` of the stores of a sheet
pub record Lies (s : Sheet) (number : ℕ) (p : Part) : Type 0 where
  pub number_in : number ≤ s.n
  pub slot_is : p.slot ≡ slot s number
  pub start_is : p.start ≡ start s number
  pub columns-is : p.columns ≡ columns s number
  pub room-is : p.room ≡ room s number

-- it lies within a store, behind the nine counts
pub record Within (p : Part) (ws : Words) : Type 0 where
  pub counted : p.slot < count_words
  pub behind : count_words ≤ p.start
  pub ends : stop_of p ≤ length ws

-- and its rows stand there in order, with zeros after them
pub record Kept (p : Part) (ws : Words) : Type 0 where
  pub within : Within p ws
  pub region : Region p.columns (count_in p ws) (words_in p ws)

-- a store with these rows in the part, zeros after them, and their count: every other word is as before
unfoldable pub with_rows : Part → Words → Rows → Words
with_rows p ws rows = set (splice ws p.start (stop_of p) (laid (size_of p) rows)) p.slot (length rows)

-- what a function leaves that writes the part's rows anew
pub record Wrote (p : Part) (rows : Rows) (before after : Words) : Type 0 where
  pub words : after ≡ with_rows p before rows
  pub long : length (laid (size_of p) rows) ≡ size_of p
  pub held : Holds p.columns (length rows) rows (laid (size_of p) rows)
