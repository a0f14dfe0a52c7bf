-- A part of a list, and a list with another part in its place: what a loan `&mut s[a..b]` shows and leaves.
-- Assumes nothing.
use Rattle.std.specs.Prelude.{ℕ, ◌-◌, List, ◌++◌, take, drop}

-- words a to b of s
unfoldable pub part : List ℕ → ℕ → ℕ → List ℕ
part s a b = take (b - a) (drop a s)

-- s with p in the place of words a to b
unfoldable pub splice : List ℕ → ℕ → ℕ → List ℕ → List ℕ
splice s a b p = take a s ++ (p ++ drop b s)
