-- The changed table's own side table: whether one more row has room, what a row must be to be replaced, and what a call leaves that writes the table.
-- Assumes nothing.
use Rattle.std.specs.Prelude.{ℕ, ◌≡◌, Bool, not, ◌||◌, T, ltb, length, take}
use Rattle.lists.specs.Lists.{Words}
use Rattle.rows.specs.Rows.{Row, Rows, key, pick, has_row, no_key_twice, put_rows, take_rows}
use Rattle.rows.specs.Ranks.{found_row}
use Rattle.std.specs.Prelude.{Option, MatchOption}
use Rattle.store.specs.Parts.{Lies}
use Rattle.side_table.specs.declared.Entry.{Entry}
use Rattle.meaning.specs.Sheet.{Sheet, room}
use Rattle.meaning.specs.Plan.{kept, shown}
use Rattle.meaning.specs.Meaning.{Model}
use Rattle.meaning.specs.Store.{part_rows, count, rows_at}
use Rattle.meaning.specs.Change.{side_row}
use Rattle.places.specs.Stands.{Stands, with_part}

-- the row begins with r's shown columns
pub record Begins (s : Sheet) (t : ℕ) (r row : Row) : Type 0 where
  pub head : take (length (shown s t)) row ≡ pick (shown s t) r

-- a row for t's side table: t is kept, the part is t's, and the words begin with r's shown columns
pub record IsEntry (s : Sheet) (t : ℕ) (r : Row) (e : Entry) : Type 0 where
  pub is-kept : T (kept s t)
  pub lies : Lies s t e.part
  pub begins : Begins s t r e.words

-- a kept table has one
abbrev pub EntryOf : Sheet → ℕ → Row → Option Entry → Type 0
EntryOf s t r o = MatchOption o (T (kept s t) → ⊥) (IsEntry s t r)

-- where r's shown columns stand in t's side table
abbrev pub found_side : Sheet → Words → ℕ → Row → Option ℕ
found_side s ws t r = found_row (pick (shown s t) r) (rows_at s ws t)

-- the store stands for some model
pub record Modelled (s : Sheet) (ws : Words) : Type 0 where
  pub model : Model
  pub stands : Stands s ws model

-- one more row of t has room, or t is unkept
unfoldable pub has_room : Sheet → Words → ℕ → Bool
has_room s ws t = not (kept s t) || ltb (count s ws t) (room s t)

-- old's shown columns stand in t's side table, in which no key stands twice, and new has old's key
pub record Replaceable (s : Sheet) (ws : Words) (t : ℕ) (old new : Row) : Type 0 where
  pub keys : key new ≡ key old
  pub there : T (kept s t) → T (has_row (pick (shown s t) old) (rows_at s ws t))
  pub once : T (no_key_twice (rows_at s ws t))

-- what stood for a model stands for it with these rows, made of t's own, in table t
pub record Sided (s : Sheet) (t : ℕ) (rows : Rows → Rows) (before after : Words) : Type 0 where
  pub stands : (m : Model) → Stands s before m → Stands s after (with_part m t (rows (part_rows m t)))

-- with r's side row put in, taken out, or new's in old's place
abbrev pub SidePut : Sheet → ℕ → Row → Words → Words → Type 0
SidePut s t r before after = Sided s t (put_rows (side_row s t r)) before after

abbrev pub SideTaken : Sheet → ℕ → Row → Words → Words → Type 0
SideTaken s t r before after = Sided s t (take_rows (side_row s t r)) before after

abbrev pub SideReplaced : Sheet → ℕ → Row → Row → Words → Words → Type 0
SideReplaced s t old new before after = Sided s t (λ (rows : Rows). put_rows (side_row s t new) (take_rows (side_row s t old) rows)) before after
