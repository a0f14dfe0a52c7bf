-- Lawful base tables as loops test them: table by table no key stands twice, and edge by edge each row of a promised edge's child finds its parent.
-- Assumes nothing.
use Rattle.std.specs.Prelude.{ℕ, Bool, not, ◌||◌, length}
use Rattle.lists.specs.Lists.{at}
use Rattle.lists.specs.Loops.{every}
use Rattle.rows.specs.Rows.{has_key, no_key_twice}
use Rattle.meaning.specs.Sheet.{Edge}
use Rattle.meaning.specs.Plan.{is_promised}
use Rattle.meaning.specs.Base.{Tables, rows_of}
use Rattle.filling.specs.Runs.{row_no}

-- no key stands twice in table t
unfoldable pub once_in : Tables → ℕ → Bool
once_in base t = no_key_twice (rows_of base t)

-- row i of e's child finds its parent
unfoldable pub met_at : Tables → Edge → ℕ → Bool
met_at base e i = has_key (at (row_no base e.child i) e.column) (rows_of base e.parent)

-- e is not promised, or every row of its child finds its parent
unfoldable pub keeps : Tables → Edge → Bool
keeps base e = not (is_promised e) || every (met_at base e) (length (rows_of base e.child))
