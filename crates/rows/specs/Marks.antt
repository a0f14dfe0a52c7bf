-- Rows marked by their places, to be taken or altered: the numbers of the marked rows, as a rising run.
-- Assumes nothing.
use Rattle.std.specs.Prelude.{ℕ, suc, ◌<◌, ◌≤◌, ◌≡◌, Bool, cond, not, [], ◌∷◌, ◌++◌, T, length, take, drop}
use Rattle.lists.specs.Lists.{Words, at, member}
use Rattle.rows.specs.Rows.{Row, Rows, has_row, take_row}

-- the rows whose places are marked
unfoldable pub marked : (ℕ → Bool) → Rows → Rows
marked mark [] = []
marked mark (r ∷ rows) = cond (mark 0) (r ∷ marked (λ i. mark (suc i)) rows) (marked (λ i. mark (suc i)) rows)

-- the rows whose places are not
unfoldable pub spared : (ℕ → Bool) → Rows → Rows
spared mark rows = marked (λ i. not (mark i)) rows

-- all rows, those whose places are marked altered by f
unfoldable pub altered : (ℕ → Bool) → (Row → Row) → Rows → Rows
altered mark f [] = []
altered mark f (r ∷ rows) = cond (mark 0) (f r) r ∷ altered (λ i. mark (suc i)) f rows

-- the places whose numbers stand in the run
unfoldable pub is_marked : Words → ℕ → Bool
is_marked numbers i = member i numbers

-- numbers of n rows: each is above the one before, and all are below n
pub record Numbers (n : ℕ) (numbers : Words) : Type 0 where
  pub rise : (i j : ℕ) → i < j → j < length numbers → at numbers i < at numbers j
  pub below : (i : ℕ) → i < length numbers → at numbers i < n

-- the first k of the numbers lent are such a run, and there is room for the number of every row
pub record Run (n : ℕ) (numbers : Words) (k : ℕ) : Type 0 where
  pub few : n ≤ 65536
  pub enough : n ≤ length numbers
  pub filled : k ≤ length numbers
  pub is : Numbers n (take k numbers)

-- of a run's numbers the first k are below x
pub record Below (numbers : Words) (x k : ℕ) : Type 0 where
  pub inside : k ≤ length numbers
  pub under : (i : ℕ) → i < k → at numbers i < x
  pub over : (i : ℕ) → k ≤ i → i < length numbers → x ≤ at numbers i

-- x is the least number from `first` on that a run does not have, and would stand at place k
pub record Gap (numbers : Words) (first x k : ℕ) : Type 0 where
  pub inside : k ≤ length numbers
  pub above : first ≤ x
  pub taken : (i : ℕ) → first ≤ i → i < x → T (is_marked numbers i)
  pub under : (i : ℕ) → i < k → at numbers i < x
  pub over : (i : ℕ) → k ≤ i → i < length numbers → x < at numbers i

-- a run with x at place k
unfoldable pub put_number : ℕ → ℕ → Words → Words
put_number k x numbers = take k numbers ++ (x ∷ drop k numbers)

-- What marking one more row that equals r does: it is among the rows that stay or it is not, and then it leaves them
pub record Marking (r : Row) (rows : Rows) (old new : Words) (done : Bool) : Type 0 where
  pub left : done ≡ has_row r (spared (is_marked old) rows)
  pub stay : spared (is_marked new) rows ≡ take_row r (spared (is_marked old) rows)
  pub run : Numbers (length rows) new
