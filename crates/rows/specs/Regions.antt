-- A region: the room of one side table or of the list, its rows in rising order and zeros after them (document 01, "The store").
-- Assumes nothing.
use Rattle.std.specs.Prelude.{ℕ, suc, ◌-◌, ◌*◌, ◌≤◌, ◌≡◌, Bool, true, ◌&&◌, [], ◌∷◌, ◌++◌, T, leb, ltb, eqb, length, take, drop, replicate}
use Rattle.lists.specs.Lists.{Words, all, flat}
use Rattle.rows.specs.Rows.{Row, Rows, key, cut, rising, no_key_twice}

-- rows laid end to end, and zeros up to k words
unfoldable pub laid : ℕ → Rows → Words
laid k rows = flat rows ++ replicate (k - length (flat rows)) 0

-- r as row i, and the rows without row i
abbrev pub put_at : ℕ → Row → Rows → Rows
put_at i r rows = take i rows ++ (r ∷ drop i rows)

abbrev pub take_at : ℕ → Rows → Rows
take_at i rows = take i rows ++ drop (suc i) rows

-- s has n rows of w words in rising order, and zeros after them
pub record Region (w n : ℕ) (s : Words) : Type 0 where
  pub fits : n * w ≤ length s
  pub up : T (rising (cut w n s))
  pub zeros : T (all (eqb 0) (drop (n * w) s))

-- s is a region of exactly these n rows: which gives its every word
pub record Holds (w n : ℕ) (held : Rows) (s : Words) : Type 0 where
  pub words : s ≡ laid (length s) held
  pub rows : cut w n s ≡ held
  pub region : Region w n s

-- "Rows stand in rising order"; "Unused room is zero"; "no count exceeds its room": of `part`, room for `room` rows of w words
unfoldable pub sound_region : ℕ → ℕ → ℕ → Words → Bool
sound_region w room count part =
    leb count room
    && rising (cut w count part)
    && all (eqb 0) (drop (count * w) part)

-- "In a side table no key stands twice"
unfoldable pub sound_side : ℕ → ℕ → ℕ → Words → Bool
sound_side w room count part = sound_region w room count part && no_key_twice (cut w count part)

-- each row's key is greater than those before it
unfoldable pub keys_rise : Rows → Bool
keys_rise [] = true
keys_rise (r ∷ rows) = all (λ s. ltb (key r) (key s)) rows && keys_rise rows
