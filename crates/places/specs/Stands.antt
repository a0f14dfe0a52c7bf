-- A store that stands for a model: the right length, the counts of absent tables 0, and in each part the model's rows in order and zeros after them.
-- It is what a change keeps from one written part to the next.
-- Assumes nothing.
use Rattle.std.specs.Prelude.{ℕ, ◌+◌, ◌<◌, ◌≤◌, ◌≡◌, cond, ltb, eqb, length, set}
use Rattle.lists.specs.Lists.{Words, at}
use Rattle.rows.specs.Rows.{Rows}
use Rattle.rows.specs.Regions.{Holds}
use Rattle.meaning.specs.Limits.{most_tables, list_count}
use Rattle.meaning.specs.Sheet.{Sheet}
use Rattle.meaning.specs.Plan.{columns, size, start, store_length}
use Rattle.meaning.specs.Meaning.{Model}
use Rattle.meaning.specs.Store.{part_rows, count, part_words}

-- where among the nine counts a part's stands
abbrev pub slot : Sheet → ℕ → ℕ
slot s part = cond (ltb part s.n) part list_count

-- the place behind a part's last word
abbrev pub stop : Sheet → ℕ → ℕ
stop s part = start s part + size s part

pub record Stands (s : Sheet) (ws : Words) (m : Model) : Type 0 where
  pub long : length ws ≡ store_length s
  pub many : length m.sides ≡ s.n
  pub absent : (t : ℕ) → s.n ≤ t → t < most_tables → at ws t ≡ 0
  pub holds : (part : ℕ) → part ≤ s.n → Holds (columns s part) (count s ws part) (part_rows m part) (part_words s ws part)

-- the model with other rows in one part
unfoldable pub with_part : Model → ℕ → Rows → Model
with_part m part rows = record { sides = set m.sides part rows; list = cond (eqb part (length m.sides)) rows m.list }
