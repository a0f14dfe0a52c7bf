-- What an update leaves as it was: the key and the tied columns.
-- Assumes nothing.
use Rattle.std.specs.Prelude.{ℕ, ◌≡◌}
use Rattle.lists.specs.Lists.{at, Mem}
use Rattle.rows.specs.Rows.{Row, key}
use Rattle.meaning.specs.Sheet.{Edge, Condition, Sheet}

pub record Tied (s : Sheet) (t : ℕ) (r r' : Row) : Type 0 where
  pub keys : key r ≡ key r'
  pub conditions : (d : Condition) → Mem d s.conditions → d.table ≡ t → at r d.column ≡ at r' d.column
  pub children : (e : Edge) → Mem e s.edges → e.child ≡ t → at r e.column ≡ at r' e.column
