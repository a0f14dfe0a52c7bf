-- How many rows stand before a row or a key, and how many equal it: what a search among rows answers.
-- Assumes nothing.
use Rattle.std.specs.Prelude.{ℕ, ◌+◌, ◌<◌, ◌≤◌, ◌≡◌, Bool, true, false, cond, ltb, Option, Some, None}
use Rattle.lists.specs.Totals.{total, one}
use Rattle.rows.specs.Rows.{Row, Rows, key, smaller, same_row, not_after, has_row, has_key}

-- how many rows are smaller than r: where r stands among rising rows, or would stand
unfoldable pub rank : Row → Rows → ℕ
rank r rows = total (λ q. one (smaller q r)) rows

-- how many rows are not after r
unfoldable pub rank_after : Row → Rows → ℕ
rank_after r rows = total (λ q. one (not_after q r)) rows

-- how many rows equal r
unfoldable pub times : Row → Rows → ℕ
times r rows = total (λ q. one (same_row r q)) rows

-- how many rows have a smaller key
unfoldable pub rank_key : ℕ → Rows → ℕ
rank_key k rows = total (λ q. one (ltb (key q) k)) rows

-- the place of the first row that equals r, and of the first with key k
unfoldable pub found_row : Row → Rows → Option ℕ
found_row r rows = cond (has_row r rows) (Some (rank r rows)) None

unfoldable pub found_key : ℕ → Rows → Option ℕ
found_key k rows = cond (has_key k rows) (Some (rank_key k rows)) None

-- k is a number up to n: the test, given by its answers, holds at the number before k and fails at k
pub record Edge (answers : ℕ → Bool → Type 0) (n k : ℕ) : Type 0 where
  pub inside : k ≤ n
  pub under : (i : ℕ) → i + 1 ≡ k → answers i true
  pub over : k < n → answers k false
