-- A change below its tests 1 to 7: what it does to a sound store (document 01, "One change, on any sound store").
-- Assumes nothing.
use Rattle.std.specs.Prelude.{ℕ, ◌≡◌, cond, [], map, T, length, get_or, set, take}
use Rattle.lists.specs.Lists.{Words}
use Rattle.rows.specs.Rows.{Row, Rows, take_rows, has_rows}
use Rattle.rows.specs.Marks.{spared, is_marked, Numbers}
use Rattle.meaning.specs.Answers.{Outcome, refused, contradiction, no_room}
use Rattle.meaning.specs.Sheet.{Sheet}
use Rattle.meaning.specs.Plan.{root}
use Rattle.meaning.specs.Base.{Tables, Change, rows_of}
use Rattle.meaning.specs.Meaning.{list_row, Model}
use Rattle.meaning.specs.Store.{store_of, model_of, fits}
use Rattle.meaning.specs.Change.{can_take, rows_found, agrees, model_after, accepted}
use Rattle.walks.specs.Walk.{walk_from, all_walks, first_walks, with_row}

-- tests 8 and 9, and the outcome of a change that passes them
unfoldable pub applied : Sheet → Words → Change → Outcome
applied s store c =
    cond (agrees s (model_of s store) c) (cond (fits s (model_after s store c)) (accepted s store c) (refused no_room store)) (refused contradiction store)

-- an accepted change's outcome: the rows taken from the list and added to it, and the rows that then stand in table t's side table and on the list
unfoldable pub done : Sheet → Words → ℕ → ℕ → ℕ → Rows → Rows → Outcome
done s store t taken added side list =
    record {
      number = 0;
      taken = taken;
      added = added;
      words = store_of s (record { sides = set (model_of s store).sides t side; list = list });
    }

-- an accepted change that changes nothing
abbrev pub nothing : Words → Outcome
nothing store = record { number = 0; taken = 0; added = 0; words = store }

-- the list rows of the walks through r, in the order in which they are walked
unfoldable pub walk_rows : Sheet → Model → ℕ → Row → Rows
walk_rows s m t r = map (list_row s) (all_walks s (with_row s m t r))

-- the list rows of the walk from row i of the root, one or none, and of the walks from its first i rows
unfoldable pub walk_row : Sheet → Tables → ℕ → Rows
walk_row s base i = map (list_row s) (walk_from s base (get_or (rows_of base (root s)) i []))

unfoldable pub first_rows : Sheet → Tables → ℕ → Rows
first_rows s base i = map (list_row s) (first_walks s base i)

-- the list rows that an update of r replaces: of the walks through r, or found by r's key
unfoldable pub replaced_rows : Sheet → Model → ℕ → Row → Rows
replaced_rows s m t r = cond (can_take s t) (walk_rows s m t r) (rows_found s m t r)

-- the numbers are of exactly these rows: each stands there as often, and what is spared is what is left without them
pub record Marked (out rows : Rows) (numbers : Words) : Type 0 where
  pub there : T (has_rows out rows)
  pub left : spared (is_marked numbers) rows ≡ take_rows out rows
  pub run : Numbers (length rows) numbers

-- so far: the first k of the numbers are of these rows, which are so many
pub record MarkedSo (out rows : Rows) (numbers : Words) (k : ℕ) : Type 0 where
  pub many : k ≡ length out
  pub is : Marked out rows (take k numbers)
