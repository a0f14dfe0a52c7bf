-- What a plan says of its sheet, place by place: all that a call needs to know of the arrays.
-- Assumes nothing.
use Rattle.std.specs.Prelude.{ℕ, ◌+◌, ◌*◌, ◌<◌, ◌≤◌, ◌≡◌, ◌&&◌, length, get_or}
use Rattle.lists.specs.Lists.{at, Mem, place_of}
use Rattle.lists.specs.Totals.{one}
use Rattle.meaning.specs.Limits.{most_tables, most_columns, most_listed, most_room, most_places, count_words}
use Rattle.meaning.specs.Sheet.{Sheet, has_column, room}
use Rattle.meaning.specs.Plan.{root, kept, is_shown, shown, columns, size, start, store_length}
use Rattle.walks.specs.Route.{Outward}
use Rattle.sheet_plan.specs.Orders.{edge_at}
use Rattle.sheet_plan.specs.declared.Plan.{Plan}

-- the lengths of the arrays
pub record Lengths (p : Plan) : Type 0 where
  pub kept-length : length p.kept ≡ most_tables
  pub shows-length : length p.shows ≡ most_places
  pub shown-length : length p.shown ≡ most_places
  pub columns-length : length p.columns ≡ count_words
  pub rooms-length : length p.rooms ≡ count_words
  pub starts-length : length p.starts ≡ 10
  pub order-length : length p.order ≡ most_tables
  pub places-length : length p.places ≡ most_places

-- p is the plan of the sheet s
pub record IsPlan (s : Sheet) (p : Plan) : Type 0 where
  pub lengths : Lengths p
  pub tables-some : 1 ≤ p.tables
  pub tables-few : p.tables ≤ most_tables
  pub tables-are : p.tables ≡ s.n
  pub root_in : p.root < p.tables
  pub root_is : p.root ≡ root s
  pub store_is : p.store ≡ store_length s
  pub store-small : p.store ≤ count_words + count_words * 65536
  pub kept-at : (t : ℕ) → t < s.n → get_or p.kept t 0 ≡ one (kept s t)
  pub shows-at : (t c : ℕ) → t < most_tables → c < most_columns → get_or p.shows (most_columns * t + c) 0 ≡ one (has_column s t c && is_shown s t c)
  pub shown-at : (t j : ℕ) → t < most_tables → j < most_columns → get_or p.shown (most_columns * t + j) 0 ≡ at (shown s t) j
  pub shown-few : (t : ℕ) → length (shown s t) ≤ most_columns
  pub columns-at : (part : ℕ) → part ≤ s.n → get_or p.columns part 0 ≡ columns s part
  pub columns-small : (part : ℕ) → part ≤ s.n → columns s part ≤ most_listed
  pub rooms-at : (part : ℕ) → part ≤ s.n → get_or p.rooms part 0 ≡ room s part
  pub rooms-small : (part : ℕ) → part ≤ s.n → room s part ≤ most_room
  -- each part's, and behind the list's the store's end
  pub starts-at : (part : ℕ) → part ≤ s.n + 1 → get_or p.starts part 0 ≡ start s part
  -- a part ends within the store
  pub parts_in : (part : ℕ) → part ≤ s.n → start s part + size s part ≤ store_length s
  -- the edges in an order in which a walk can take them
  pub order-in : (j : ℕ) → j + 1 < s.n → at p.order j < length s.edges
  pub outward : Outward s (λ j. edge_at s (at p.order j))
  -- a shown column's place among the shown ones
  pub places-at : (t c : ℕ) → t < s.n → Mem c (shown s t) → at p.places (most_columns * t + c) ≡ place_of c (shown s t)
