-- Laws of lines one after the other.
-- Assumes nothing.
use Prim.Native.Nat.{ℕ, zero, suc, ◌+◌, ◌≤◌, ◌<◌}
use mathlib.Core.Path.{◌≡◌, refl, sym, ap, ap₂, ◌∙◌}
use mathlib.Core.List.{List, ◌++◌, map, append-nil, append_assoc}
use native.Mathlib.Nat.{add-zero, add-suc, suc-add, zero-add, le_antisymm}
use native.Mathlib.Numerals.{add-one}
use native.Mathlib.Omega.{arith}
use Rattle.lists.specs.Lists.{from, up_to}
use Rattle.meaning.specs.Plan.{TablePlan}
use Rattle.text.specs.Reading.{Text}
use Rattle.text.specs.Printing.{table_text, tables_text, lines_up_to}
use Rattle.text.specs.Writing.{PutAt}
use Rattle.text.proofs.Writes.{wrote_none, wrote_then}

pub lines_none : (line : ℕ → Text) (s : List ℕ) (at : ℕ) → PutAt s at (lines_up_to line 0) s at
unfolding lines_up_to
lines_none line s at = wrote_none s at

pub lines_more : (line : ℕ → Text) (s s' s'' : List ℕ) (at end end' t : ℕ) → PutAt s at (lines_up_to line t) s' end → PutAt s' end (line t) s'' end'
    → PutAt s at (lines_up_to line (t + 1)) s'' end'
unfolding lines_up_to
lines_more line s s' s'' at end end' t w m = rw add-one (wrote_then w m)

pub lines_end : (line : ℕ → Text) (s s' : List ℕ) (at end k n : ℕ) → k ≤ n → n ≤ k → PutAt s at (lines_up_to line k) s' end
    → PutAt s at (lines_up_to line n) s' end
lines_end line s s' at end k n a b w = rw (← le_antisymm a b) w

-- the lines of tables in a list are the lines by number
tables_more : (f : ℕ → TablePlan) (i k : ℕ) → tables_text i (map f (from i (suc k))) ≡ tables_text i (map f (from i k)) ++ table_text (i + k) (f (i + k))
unfolding tables_text
tables_more f i zero = rw add-zero (append-nil (table_text i (f i)))
tables_more f i (suc k) =
    ap (λ l. table_text i (f i) ++ l) (tables_more f (suc i) k)
    ∙ sym (append_assoc (table_text i (f i)) (tables_text (suc i) (map f (from (suc i) k))) (table_text (suc i + k) (f (suc i + k))))
    ∙ rw (suc-add, add-suc)

pub tables-lines : (f : ℕ → TablePlan) (n : ℕ) → tables_text 0 (map f (up_to n)) ≡ lines_up_to (λ t. table_text t (f t)) n
unfolding tables_text lines_up_to
tables-lines f zero = refl
tables-lines f (suc n) =
    tables_more f 0 n ∙ rw zero-add (ap (λ l. l ++ table_text n (f n)) (tables-lines f n))

-- lines that agree one by one
pub lines_same : (line line' : ℕ → Text) (n : ℕ) → ((t : ℕ) → t < n → line t ≡ line' t) → lines_up_to line n ≡ lines_up_to line' n
unfolding lines_up_to
lines_same line line' zero h = refl
lines_same line line' (suc n) h = ap₂ ◌++◌ (lines_same line line' n (λ t l. h t (omega arith))) (h n (omega arith))
