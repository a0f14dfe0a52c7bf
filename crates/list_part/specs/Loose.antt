-- A part with a row or some columns written, one whose rows are not in order yet, and a store in which such rows stand in a part
-- while every other word is as before.
-- Assumes nothing.
use Rattle.std.specs.Prelude.{ℕ, ◌+◌, ◌-◌, ◌*◌, ◌≤◌, ◌≡◌, ◌++◌, T, eqb, length, take, drop, replicate}
use Rattle.lists.specs.Lists.{Words, all}
use Rattle.lists.specs.Parts.{splice}
use Rattle.rows.specs.Rows.{Row, Rows, Wide, cut, rising}
use Rattle.rows.specs.Words.{written}
use Rattle.rows.specs.Regions.{laid}
use Rattle.meaning.specs.Sheet.{Sheet}
use Rattle.store.specs.declared.Part.{Part}
use Rattle.store.specs.Parts.{size_of, stop_of, words_in, count_in, Lies, Within}
use Rattle.list_part.specs.Gives.{given}

-- the store with r over row k of the part
abbrev pub row_put : Part → Words → ℕ → Row → Words
row_put p ws k r = splice ws p.start (stop_of p) (written (words_in p ws) (k * p.columns) r p.columns)

-- the store with zeros in the part from row k on
abbrev pub rows_cleared : Part → Words → ℕ → Words
rows_cleared p ws k = splice ws p.start (stop_of p) (take (k * p.columns) (words_in p ws) ++ replicate (size_of p - k * p.columns) 0)

-- the store with r's values in table t's columns of the part's marked rows
abbrev pub rows_given : Words → ℕ → Row → Words → Part → Words → Words
rows_given sheet t r numbers p ws = splice ws p.start (stop_of p) (given sheet t r numbers (count_in p ws) (words_in p ws))

-- count rows stand in the part, in any order, and zeros after them
pub record Loose (p : Part) (count : ℕ) (ws : Words) : Type 0 where
  pub within : Within p ws
  pub fits : count ≤ p.room
  pub zeros : T (all (eqb 0) (drop (count * p.columns) (words_in p ws)))

unfoldable pub loose_rows : Part → ℕ → Words → Rows
loose_rows p count ws = cut p.columns count (words_in p ws)

-- of these the first `stand` rise
pub record Standing (p : Part) (stand count : ℕ) (ws : Words) : Type 0 where
  pub fits : stand ≤ count
  pub up : T (rising (loose_rows p stand ws))

-- ws is the old store with these rows in the part, in any order, and zeros after them
pub record Behind (p : Part) (old : Words) (rows : Rows) (ws : Words) : Type 0 where
  pub words : ws ≡ splice old p.start (stop_of p) (laid (size_of p) rows)
  pub wide : Wide p.columns rows
  pub fits : length rows ≤ p.room

-- so many rows stand in the list's part, zeros after them, and more have room behind them
pub record HasRoom (s : Sheet) (list : Part) (many : ℕ) (more : Rows) (ws : Words) : Type 0 where
  pub lies : Lies s s.n list
  pub stand : Behind list ws (loose_rows list many ws) ws
  pub room : many + length more ≤ list.room

-- they are put there, and k is how many then stand
pub record PutBehind (list : Part) (many : ℕ) (more : Rows) (k : ℕ) (before after : Words) : Type 0 where
  pub count : k ≡ length (loose_rows list many before ++ more)
  pub behind : Behind list before (loose_rows list many before ++ more) after
