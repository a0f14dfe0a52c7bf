-- Rows, their order, and lists of rows kept in that order (document 01, "The store"). All of it for rows of any width.
-- Assumes nothing.
use Rattle.std.specs.Prelude.{ℕ, zero, suc, Bool, true, false, cond, not, ◌&&◌, List, [], ◌∷◌, map, T, ltb, eqb, length, take, drop}
use Rattle.lists.specs.Lists.{Words, at, all, any, none_twice, same_lists}
use Rattle.std.specs.declared.cmp.Ordering.{Ordering}
use Rattle.std.specs.declared.cmp.Ordering.TheVariants.{Less, Equal, Greater}

-- the values of a row's columns, all 64 bits of each, from column 0, the key
abbrev pub Row : Type 0
Row = Words

abbrev pub Rows : Type 0
Rows = List Row

abbrev pub key : Row → ℕ
key r = at r 0

-- every row has w columns
abbrev pub Wide : ℕ → Rows → Type 0
Wide w rows = T (all (λ r. eqb (length r) w) rows)

-- the columns of a row that a list of column numbers names
abbrev pub pick : List ℕ → Row → Row
pick columns r = map (at r) columns

-- a run of words cut into k rows of w words
unfoldable pub cut : ℕ → ℕ → Words → Rows
cut w zero ws = []
cut w (suc k) ws = take w ws ∷ cut w k (drop w ws)

-- how x stands to y
unfoldable pub word_order : ℕ → ℕ → Ordering
word_order x y = cond (ltb x y) Less (cond (ltb y x) Greater Equal)

-- the first, unless it is Equal, and then the second
unfoldable pub then_by : Ordering → Ordering → Ordering
then_by Less o = Less
then_by Equal o = o
then_by Greater o = Greater

-- "compared column by column from the left"
unfoldable pub row_order : Row → Row → Ordering
row_order [] [] = Equal
row_order [] (y ∷ s) = Less
row_order (x ∷ r) [] = Greater
row_order (x ∷ r) (y ∷ s) = then_by (word_order x y) (row_order r s)

unfoldable pub is_less : Ordering → Bool
is_less Less = true
is_less Equal = false
is_less Greater = false

-- r is smaller than s
unfoldable pub smaller : Row → Row → Bool
smaller r s = is_less (row_order r s)

abbrev pub same_row : Row → Row → Bool
same_row r s = same_lists eqb r s

-- r is not after s
abbrev pub not_after : Row → Row → Bool
not_after r s = not (smaller s r)

-- "Rows stand in rising order", equal rows together
unfoldable pub rising : Rows → Bool
rising [] = true
rising (r ∷ rows) = all (not_after r) rows && rising rows

-- r put in its place among rising rows: before the first that is not smaller
unfoldable pub put_row : Row → Rows → Rows
put_row r [] = r ∷ []
put_row r (s ∷ rows) = cond (smaller s r) (s ∷ put_row r rows) (r ∷ (s ∷ rows))

unfoldable pub put_rows : Rows → Rows → Rows
put_rows [] rows = rows
put_rows (r ∷ rs) rows = put_row r (put_rows rs rows)

-- the same rows in rising order, each as often
unfoldable pub sorted : Rows → Rows
sorted rs = put_rows rs []

abbrev pub has_row : Row → Rows → Bool
has_row r rows = any (same_row r) rows

-- the rows without one occurrence of r
unfoldable pub take_row : Row → Rows → Rows
take_row r [] = []
take_row r (s ∷ rows) = cond (same_row r s) rows (s ∷ take_row r rows)

-- the rows without one occurrence of each of the first ones
unfoldable pub take_rows : Rows → Rows → Rows
take_rows [] rows = rows
take_rows (r ∷ rs) rows = take_rows rs (take_row r rows)

-- each of the first rows stands among the second as often
unfoldable pub has_rows : Rows → Rows → Bool
has_rows [] rows = true
has_rows (r ∷ rs) rows = has_row r rows && has_rows rs (take_row r rows)

-- some row has this key
abbrev pub has_key : ℕ → Rows → Bool
has_key k rows = any (λ r. eqb k (key r)) rows

-- "no key stands twice"
abbrev pub no_key_twice : Rows → Bool
no_key_twice rows = none_twice eqb (map key rows)
