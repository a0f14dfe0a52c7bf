-- What is derived, by number: who is in a Dep+ or a Need with so many tables left on the path, which table is kept, which column is shown.
-- Assumes nothing.
use Rattle.std.specs.Prelude.{ℕ, Bool, not, ◌&&◌, ◌||◌, eqb}
use Rattle.lists.specs.Lists.{Words, member}
use Rattle.meaning.specs.Sheet.{Edge, Sheet, sheet_of, leaves}
use Rattle.meaning.specs.Plan.{is_promised, dep_plus_in, is_listed, need_in, kept, is_shown}
use Rattle.sheet.specs.Numbered.{edge_no}

-- u is in Dep+(t), over paths of at most k edges
unfoldable pub dep_no : Words → ℕ → ℕ → ℕ → Bool
dep_no ws k t u = member u (dep_plus_in (sheet_of ws) k t)

-- the list shows column c of table t
unfoldable pub listed_no : Words → ℕ → ℕ → Bool
listed_no ws t c = is_listed (sheet_of ws) t c

-- u is in Need(t), with k tables left on the path
unfoldable pub need_no : Words → ℕ → ℕ → ℕ → Bool
need_no ws k t u = member u (need_in (sheet_of ws) k t)

-- an edge keeps the root t: it is not promised, or leads from t to a table whose key is not listed
unfoldable pub keeps : Sheet → ℕ → Edge → Bool
keeps s t e = not (is_promised e) || (leaves t e && not (is_listed s e.parent 0))

unfoldable pub keeps_no : Words → ℕ → ℕ → Bool
keeps_no ws t i = keeps (sheet_of ws) t (edge_no ws i)

unfoldable pub kept_no : Words → ℕ → Bool
kept_no ws t = kept (sheet_of ws) t

-- edge i leaves table t by column c
unfoldable pub leaves_by : Words → ℕ → ℕ → ℕ → Bool
leaves_by ws t c i = leaves t (edge_no ws i) && eqb (edge_no ws i).column c

unfoldable pub shown_no : Words → ℕ → ℕ → Bool
shown_no ws t c = is_shown (sheet_of ws) t c
