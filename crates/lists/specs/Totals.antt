-- Totals over lists, and lists of the same elements each as often: every total over the two is the same.
-- This is the one way in which list equality with multiplicity is stated.
-- Assumes nothing.
use Rattle.std.specs.Prelude.{ℕ, ◌+◌, ◌≡◌, Bool, cond, List, [], ◌∷◌}

unfoldable pub total : {A : Type 0} → (A → ℕ) → List A → ℕ
total f [] = 0
total f (x ∷ xs) = f x + total f xs

-- 1 for a passed test
abbrev pub one : Bool → ℕ
one b = cond b 1 0

-- the same elements, each as often
abbrev pub Same : {A : Type 0} → List A → List A → Type 0
Same {A} xs ys = (f : A → ℕ) → total f xs ≡ total f ys
