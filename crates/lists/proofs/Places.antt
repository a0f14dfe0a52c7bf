-- Places in lists: the elements of a mapped run of numbers, and blocks laid end to end.
-- Assumes nothing.
use Prim.Native.Nat.{ℕ, zero, suc, ◌+◌, ◌<◌}
use mathlib.Core.Path.{◌≡◌, refl, sym, ap, ◌∙◌, subst}
use mathlib.Core.List.{List, [], ◌∷◌, ◌++◌, map}
pub use mathlib.Core.List.{append_assoc}
use native.Mathlib.Nat.{add-zero, add-suc, suc-add, le_of_suc-le-suc, not-suc-le-zero}
use lib.ListN.{length, get_or, take, drop}
use lib.Seq.{drop-append-add, take_at}
use Rattle.lists.specs.Lists.{from, up_to, sum, flat}

pub flat_append : {A : Type 0} (xss yss : List (List A)) → flat (xss ++ yss) ≡ flat xss ++ flat yss
flat_append [] yss = refl
flat_append (xs ∷ xss) yss = ap (λ l. xs ++ l) (flat_append xss yss) ∙ sym (append_assoc xs (flat xss) (flat yss))

pub length_from : (i k : ℕ) → length (from i k) ≡ k
length_from i zero = refl
length_from i (suc k) = ap suc (length_from (suc i) k)

pub get_or-map-from : {A : Type 0} (f : ℕ → A) (d : A) (n i k : ℕ) → k < n → get_or (map f (from i n)) k d ≡ f (i + k)
get_or-map-from f d zero i k h = absurd (not-suc-le-zero h)
get_or-map-from f d (suc n) i zero h = ap f (sym (add-zero i))
get_or-map-from f d (suc n) i (suc k) h = get_or-map-from f d n (suc i) k (le_of_suc-le-suc h) ∙ ap f (suc-add i k ∙ sym (add-suc i k))

pub map-from-suc : {A : Type 0} (f : ℕ → A) (n i : ℕ) → map f (from (suc i) n) ≡ map (λ t. f (suc t)) (from i n)
map-from-suc f zero i = refl
map-from-suc f (suc n) i = ap (λ l. f (suc i) ∷ l) (map-from-suc f n (suc i))

-- a list is its elements, one by one
pub map-get_or : {A : Type 0} (d : A) (xs ys : List A) → map (λ t. get_or (xs ++ ys) t d) (up_to (length xs)) ≡ xs
map-get_or d [] ys = refl
map-get_or d (x ∷ xs) ys = ap (λ l. x ∷ l) (map-from-suc (λ t. get_or (x ∷ (xs ++ ys)) t d) (length xs) 0 ∙ map-get_or d xs ys)

-- block k of blocks f i, f (i + 1), .., each as long as g says
pub block : (f : ℕ → List ℕ) (g : ℕ → ℕ) → ((j : ℕ) → length (f j) ≡ g j) → (n i k : ℕ) → k < n
    → take (g (i + k)) (drop (sum (map g (from i k))) (flat (map f (from i n)))) ≡ f (i + k)
block f g h zero i k lt = absurd (not-suc-le-zero lt)
block f g h (suc n) i zero lt =
    subst (λ (j : ℕ). take (g j) (f i ++ flat (map f (from (suc i) n))) ≡ f j) (sym (add-zero i))
    (take_at (f i) (flat (map f (from (suc i) n))) (g i) (h i))
block f g h (suc n) i (suc k) lt =
    subst (λ (j : ℕ). take (g j) (drop (g i + sum (map g (from (suc i) k))) (f i ++ flat (map f (from (suc i) n)))) ≡ f j) (suc-add i k ∙ sym (add-suc i k))
    (ap (take (g (suc i + k))) (subst (λ (l : ℕ). drop (l + sum (map g (from (suc i) k))) (f i ++ rest) ≡ drop (sum (map g (from (suc i) k))) rest) (h i)
    (drop-append-add (f i) rest (sum (map g (from (suc i) k)))))
    ∙ block f g h n (suc i) k (le_of_suc-le-suc lt))
  where
    rest : List ℕ
    rest = flat (map f (from (suc i) n))
