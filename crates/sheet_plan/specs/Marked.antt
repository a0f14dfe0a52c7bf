-- Places marked one after the other, and the places of the columns that side tables show: keys, child columns and listed columns.
-- Assumes nothing.
use Rattle.std.specs.Prelude.{ℕ, zero, suc, ◌+◌, ◌*◌, List, set}
use Rattle.lists.specs.Lists.{Words}
use Rattle.meaning.specs.Limits.{most_columns}
use Rattle.sheet.specs.Numbered.{edge_no, listing_no}

-- m with a mark at each of the places f 0, f 1, .., f (n - 1)
unfoldable pub marked_by : (ℕ → ℕ) → ℕ → List ℕ → List ℕ
marked_by f zero m = m
marked_by f (suc n) m = set (marked_by f n m) (f n) 1

-- column c of table t has the place 8t + c
unfoldable pub key_place : ℕ → ℕ
key_place t = most_columns * t + 0

unfoldable pub edge_place : Words → ℕ → ℕ
edge_place ws i = most_columns * (edge_no ws i).child + (edge_no ws i).column

unfoldable pub listing_place : Words → ℕ → ℕ
listing_place ws i = most_columns * (listing_no ws i).table + (listing_no ws i).column
