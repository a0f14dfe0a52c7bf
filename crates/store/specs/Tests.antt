-- The tests of a store as the code makes them: absent tables, a table with its part, the list's part; together they are `sound`.
-- Assumes nothing.
use Rattle.std.specs.Prelude.{ℕ, ◌-◌, Bool, ◌&&◌, eqb}
use Rattle.lists.specs.Lists.{Words, at, all, from}
use Rattle.meaning.specs.Limits.{most_tables}
use Rattle.meaning.specs.Sheet.{Sheet}
use Rattle.meaning.specs.Store.{sound_part, sound_table}

-- the counts of the tables from n to 7 are 0
unfoldable pub absent_zero : ℕ → Words → Bool
absent_zero n ws = all (λ t. eqb (at ws t) 0) (from n (most_tables - n))

-- all that is asked of table t
unfoldable pub table_sound : Sheet → Words → ℕ → Bool
table_sound s ws t = sound_part s ws t && sound_table s ws t
