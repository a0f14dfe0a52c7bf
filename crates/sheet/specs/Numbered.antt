-- A sheet's records by their number, as the code reads them.
-- Assumes nothing.
use Rattle.std.specs.Prelude.{ℕ, ◌+◌, ◌*◌}
use Rattle.lists.specs.Lists.{Words, at}
use Rattle.meaning.specs.Sheet.{Edge, Condition, Listed, edges_at, conditions_at, listed_at, rooms_at}

abbrev pub width_no : Words → ℕ → ℕ
width_no ws t = at ws (4 + t)

abbrev pub edge_no : Words → ℕ → Edge
edge_no ws i =
    record {
      child = at ws (edges_at ws + 4 * i);
      column = at ws (edges_at ws + 4 * i + 1);
      parent = at ws (edges_at ws + 4 * i + 2);
      promise = at ws (edges_at ws + 4 * i + 3);
    }

abbrev pub condition_no : Words → ℕ → Condition
condition_no ws i =
    record {
      table = at ws (conditions_at ws + 4 * i);
      column = at ws (conditions_at ws + 4 * i + 1);
      lowest = at ws (conditions_at ws + 4 * i + 2);
      highest = at ws (conditions_at ws + 4 * i + 3);
    }

abbrev pub listing_no : Words → ℕ → Listed
listing_no ws i = record { table = at ws (listed_at ws + 2 * i); column = at ws (listed_at ws + 2 * i + 1) }

abbrev pub room_no : Words → ℕ → ℕ
room_no ws t = at ws (rooms_at ws + t)
