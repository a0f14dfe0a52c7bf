-- What the moves of words leave: words put one up, moved down, written over; a row put in among rows, or out of them.
-- Assumes nothing.
use Rattle.std.specs.Prelude.{ℕ, ◌+◌, ◌-◌, ◌*◌, ◌++◌, take, drop}
use Rattle.lists.specs.Lists.{Words}
use Rattle.rows.specs.Rows.{Row}

-- row i of a run of words
abbrev pub row : ℕ → ℕ → Words → Row
row w i ws = take w (drop (i * w) ws)

-- s with the first n of v in the place of its words from `at` on
unfoldable pub written : Words → ℕ → Words → ℕ → Words
written s at v n = take at s ++ take n v ++ drop (at + n) s

-- the words from k to t put up by w, and n words from f put down to t; what they do not reach stays
unfoldable pub raised : Words → ℕ → ℕ → ℕ → Words
raised s k t w = take (k + w) s ++ (take (t - k) (drop k s) ++ drop (t + w) s)

unfoldable pub lowered : Words → ℕ → ℕ → ℕ → Words
lowered s t f n = take t s ++ (take n (drop f s) ++ drop (t + n) s)

-- of n rows of w words: r comes in as row i and the rows above go up; row i goes out, the rows above go down and v comes in behind them
unfoldable pub put_words : ℕ → ℕ → ℕ → Row → Words → Words
put_words w n i r s = take (i * w) s ++ (r ++ (take (n * w - i * w) (drop (i * w) s) ++ drop (n * w + w) s))

unfoldable pub shut_words : ℕ → ℕ → ℕ → Words → Words → Words
shut_words w n i v s = take (i * w) s ++ (take (n * w - (i * w + w)) (drop (i * w + w) s) ++ (v ++ drop (n * w) s))
