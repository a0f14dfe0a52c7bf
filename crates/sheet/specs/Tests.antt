-- The tests of refusal 2 by number: a width, an edge, a condition, a listing, a room.
-- Assumes nothing.
use Rattle.std.specs.Prelude.{ℕ, Bool, not, ◌&&◌}
use Rattle.lists.specs.Lists.{Words, between}
use Rattle.lists.specs.Loops.{some}
use Rattle.meaning.specs.Limits.{most_columns, most_room}
use Rattle.meaning.specs.Sheet.{sheet_of, good_edge, good_condition, good_listed}
use Rattle.meaning.specs.Plan.{names}
use Rattle.sheet.specs.Numbered.{width_no, edge_no, condition_no, listing_no, room_no}

-- "n widths, each 1 to 8"
unfoldable pub width_passes : Words → ℕ → Bool
width_passes ws t = between 1 most_columns (width_no ws t)

unfoldable pub edge_passes : Words → ℕ → Bool
edge_passes ws i = good_edge (sheet_of ws) (edge_no ws i)

unfoldable pub condition_passes : Words → ℕ → Bool
condition_passes ws i = good_condition (sheet_of ws) (condition_no ws i)

-- listing i names column c of table t
unfoldable pub listing_names : Words → ℕ → ℕ → ℕ → Bool
listing_names ws t c i = names t c (listing_no ws i)

-- its column is there, and no listing before it names it
unfoldable pub listing_passes : Words → ℕ → Bool
listing_passes ws i = good_listed (sheet_of ws) (listing_no ws i) && not (some (listing_names ws (listing_no ws i).table (listing_no ws i).column) i)

-- "n + 1 room words, each 0 to 4,096 rows"
unfoldable pub room_passes : Words → ℕ → Bool
room_passes ws part = between 0 most_room (room_no ws part)
