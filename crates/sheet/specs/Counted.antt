-- How many k below n pass a test: what a loop that counts finds.
-- Assumes nothing.
use Rattle.std.specs.Prelude.{ℕ, zero, suc, ◌+◌, Bool}
use Rattle.lists.specs.Totals.{one}

unfoldable pub counted : (ℕ → Bool) → ℕ → ℕ
counted t zero = 0
counted t (suc n) = counted t n + one (t n)
