-- Neighbours in a run of rows: how each stands to the next, which is what the tests of a region look at.
-- Assumes nothing.
use Rattle.std.specs.Prelude.{ℕ, ◌+◌, ◌<◌, ◌≤◌, Bool, ltb}
use Rattle.lists.specs.Lists.{Words}
use Rattle.rows.specs.Rows.{Row, key}
use Rattle.rows.specs.Words.{row}

-- row i stands so to the next
unfoldable pub step : (Row → Row → Bool) → ℕ → Words → ℕ → Bool
step R w s i = R (row w i s) (row w (i + 1) s)

-- the key of r is smaller
abbrev pub key_less : Row → Row → Bool
key_less r s = ltb (key r) (key s)

-- from row `from` to row k, which is at most row `to`, each leads the next
pub record LeadsTo (leads : ℕ → Type 0) (from to k : ℕ) : Type 0 where
  pub begins : from ≤ k
  pub ends : k ≤ to
  pub each : (i : ℕ) → from ≤ i → i < k → leads i
