-- The plan of a sheet as arrays, table by table, and what the check answers.
-- Assumes nothing.
use Rattle.std.specs.Prelude.{ℕ, ◌+◌, ◌/◌, ◌%◌, cond, ◌&&◌, List, Result, Ok, Err, eqb, replicate}
use Rattle.lists.specs.Lists.{Words, at}
use Rattle.lists.specs.Totals.{one}
use Rattle.lists.specs.Loops.{filled}
use Rattle.meaning.specs.Limits.{most_tables, most_columns, most_places, count_words}
use Rattle.meaning.specs.Sheet.{Sheet, sheet_of, sheet_refusal, has_column, room}
use Rattle.meaning.specs.Plan.{root, kept, is_shown, shown, columns, start, store_length}
use Rattle.sheet.specs.declared.refusal.Refusal.{Refusal}
use Rattle.sheet.specs.Refusals.{refusal_of}
use Rattle.sheet_plan.specs.Marks.{places_of}
use Rattle.sheet_plan.specs.Orders.{order_of}
use Rattle.sheet_plan.specs.declared.Plan.{Plan}

unfoldable pub kept_at : Sheet → ℕ → ℕ
kept_at s t = one (kept s t)

unfoldable pub kept_of : Sheet → List ℕ
kept_of s = filled (kept_at s) s.n (replicate most_tables 0)

-- place i speaks of table i / 8 and of its column i % 8
unfoldable pub shows_at : Sheet → ℕ → ℕ
shows_at s i = one (has_column s (i / most_columns) (i % most_columns) && is_shown s (i / most_columns) (i % most_columns))

unfoldable pub shows_of : Sheet → List ℕ
shows_of s = filled (shows_at s) most_places (replicate most_places 0)

unfoldable pub shown_at : Sheet → ℕ → ℕ
shown_at s i = at (shown s (i / most_columns)) (i % most_columns)

unfoldable pub shown_of : Sheet → List ℕ
shown_of s = filled (shown_at s) most_places (replicate most_places 0)

unfoldable pub columns_of : Sheet → List ℕ
columns_of s = filled (columns s) (s.n + 1) (replicate count_words 0)

unfoldable pub room_at : Sheet → ℕ → ℕ
room_at s part = room s part

unfoldable pub rooms_of : Sheet → List ℕ
rooms_of s = filled (room_at s) (s.n + 1) (replicate count_words 0)

-- where each part begins, and behind the list the store's end
unfoldable pub starts_of : Sheet → List ℕ
starts_of s = filled (start s) (s.n + 2) (replicate 10 0)

unfoldable pub plan_for : Sheet → Plan
plan_for s =
    record {
      tables = s.n;
      root = root s;
      store = store_length s;
      kept = kept_of s;
      shows = shows_of s;
      shown = shown_of s;
      columns = columns_of s;
      rooms = rooms_of s;
      starts = starts_of s;
      order = order_of s;
      places = places_of (shows_of s);
    }

-- the plan of a sheet, if it is not refused
unfoldable pub checked_of : Words → Result Plan Refusal
checked_of ws = cond (eqb (sheet_refusal ws) 0) (Ok (plan_for (sheet_of ws))) (Err (refusal_of (sheet_refusal ws)))
