-- Sets as marks: eight places for each table, from 8t on; the marked numbers of a table as a rising list, and the place of each in it.
-- Assumes nothing.
use Rattle.std.specs.Prelude.{ℕ, zero, suc, ◌+◌, ◌*◌, ◌/◌, ◌%◌, ◌≤◌, ◌≡◌, Bool, cond, List, eqb, get_or, set, replicate}
use Rattle.lists.specs.Lists.{at, select, up_to}
use Rattle.lists.specs.Loops.{filled}
use Rattle.meaning.specs.Limits.{most_columns, most_places}
use Rattle.sheet.specs.Counted.{counted}

-- c is marked in row t
unfoldable pub has_mark : List ℕ → ℕ → ℕ → Bool
has_mark marks t c = eqb (get_or marks (most_columns * t + c) 0) 1

-- the marked numbers of row t, rising
unfoldable pub marked_in : List ℕ → ℕ → List ℕ
marked_in marks t = select (has_mark marks t) (up_to most_columns)

unfoldable pub marked_at : List ℕ → ℕ → ℕ → ℕ
marked_at marks t j = at (marked_in marks t) j

-- the same for every row
unfoldable pub lists_of : List ℕ → List ℕ
lists_of marks = filled (λ i. marked_at marks (i / most_columns) (i % most_columns)) most_places (replicate most_places 0)

-- the place of each number among the marked ones: how many before it are marked
unfoldable pub place_no : List ℕ → ℕ → ℕ
place_no marks i = counted (has_mark marks (i / most_columns)) (i % most_columns)

unfoldable pub places_of : List ℕ → List ℕ
places_of marks = filled (place_no marks) most_places (replicate most_places 0)

-- Row by row: the places before i are filled; the numbers before i that are marked, each put at its place in its row
unfoldable pub places_to : List ℕ → ℕ → List ℕ
places_to marks i = filled (place_no marks) i (replicate most_places 0)

unfoldable pub lists_to : List ℕ → ℕ → List ℕ
lists_to marks zero = replicate most_places 0
lists_to marks (suc i) =
    cond (eqb (get_or marks i 0) 1) (set (lists_to marks i) (most_columns * (i / most_columns) + place_no marks i) (i % most_columns)) (lists_to marks i)

-- no number is marked from place k on
abbrev pub UnmarkedFrom : ℕ → List ℕ → Type 0
UnmarkedFrom k marks = (i : ℕ) → k ≤ i → get_or marks i 0 ≡ 0
