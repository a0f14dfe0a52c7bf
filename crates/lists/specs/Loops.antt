-- What counted loops over k = 0, 1, .., n - 1 find or leave: a test passed by every k, by some k, first by which k, and f k written at each place k.
-- Assumes nothing.
use Rattle.std.specs.Prelude.{ℕ, zero, suc, Bool, true, false, cond, ◌&&◌, ◌||◌, List, set}

-- every k below n passes
unfoldable pub every : (ℕ → Bool) → ℕ → Bool
every t zero = true
every t (suc n) = every t n && t n

-- some k below n passes
unfoldable pub some : (ℕ → Bool) → ℕ → Bool
some t zero = false
some t (suc n) = some t n || t n

-- the first k below n that passes, or n
unfoldable pub first : (ℕ → Bool) → ℕ → ℕ
first t zero = 0
first t (suc n) = cond (some t n) (first t n) (cond (t n) n (suc n))

-- d with f 0, f 1, .. in its first n places
unfoldable pub filled : (ℕ → ℕ) → ℕ → List ℕ → List ℕ
filled f zero d = d
filled f (suc n) d = set (filled f n d) n (f n)
