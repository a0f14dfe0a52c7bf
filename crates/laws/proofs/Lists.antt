-- Laws of lists and tests that the other files use: cases on a place, tests taken apart and put together, `Mem` and `any` through maps and
-- selections, the ends of a sum, and blocks of a run.
-- Assumes nothing.
use Prim.Native.Nat.{ℕ, zero, suc, ◌+◌, ◌<◌, ◌≤◌}
use mathlib.Core.Path.{◌≡◌, refl, sym, ap, ap₂, ◌∙◌, subst}
use mathlib.Core.Bool.{Bool, true, false, cond, ◌&&◌, ◌||◌}
use mathlib.Core.List.{List, [], ◌∷◌, ◌++◌, map}
use mathlib.Core.Logic.{◌⊎◌, inl, inr, ⊎_elim}
use native.Mathlib.Nat.{zero-add, add-zero, add-suc, suc-add, le_of_suc-le-suc, not-suc-le-zero}
use native.Mathlib.Omega.{arith}
use lib.Dec.{T, eqb}
use lib.ListN.{length, get_or, take, drop, set, length-map, length-append}
use lib.Seq.{get_or-set_same, get_or-set_other, drop-drop, take-add}
use Rattle.lists.specs.Lists.{Words, Mem, any, select, flat, from, up_to, sum}
use Rattle.lists.proofs.Truth.{eq→eqb, eqb→≡, decided, and-fst, and-snd, and_both, mem-append}
use Rattle.lists.proofs.Places.{get_or-map-from, length_from}

-- what holds at t, and at u if u is another place, holds at u
pub here-or : (P : ℕ → Type 0) (t u : ℕ) → P t → ((u ≡ t → ⊥) → P u) → P u
here-or P t u here other =
    ⊎_elim (λ e. subst P (sym (eqb→≡ u t e)) here) (λ e. other (λ q. e (eq→eqb q))) (decided (eqb u t))

-- what holds of x at t, and of the others at their places, holds of the list with x set at t
pub by-set : {A : Type 0} (d : A) (P : ℕ → A → Type 0) (xs : List A) (t : ℕ) (x : A) → t < length xs → P t x
    → ((u : ℕ) → (u ≡ t → ⊥) → P u (get_or xs u d)) → (u : ℕ) → P u (get_or (set xs t x) u d)
by-set d P xs t x l here other u =
    here-or (λ u. P u (get_or (set xs t x) u d)) t u (subst (P t) (sym (get_or-set_same xs t x d l)) here)
    (λ q. subst (P u) (sym (get_or-set_other xs t u x d q)) (other u q))

-- the elements of a list made for 0, 1, .., n - 1
pub at-up_to : {A : Type 0} (f : ℕ → A) (d : A) (n t : ℕ) → t < n → get_or (map f (up_to n)) t d ≡ f t
at-up_to f d n t l = get_or-map-from f d n 0 t l ∙ ap f (zero-add t)

pub length-up_to : {A : Type 0} (f : ℕ → A) (n : ℕ) → length (map f (up_to n)) ≡ n
length-up_to f n = length-map (up_to n) f ∙ length_from 0 n

-- A chain of tests a && b && .., and the facts it stands for
abbrev pub tests : Bool → List Bool → Bool
tests a [] = a
tests a (b ∷ bs) = tests (a && b) bs

abbrev pub Each : List Bool → Type 0
Each [] = Unit {0}
Each (b ∷ bs) = T b × Each bs

pub apart : (a : Bool) (bs : List Bool) → T (tests a bs) → Each (a ∷ bs)
apart a [] h = (h, tt)
apart a (b ∷ bs) h = let k = apart (a && b) bs h in (and-fst a b k.0, (and-snd a b k.0, k.1))

pub together : (a : Bool) (bs : List Bool) → Each (a ∷ bs) → T (tests a bs)
together a [] h = h.0
together a (b ∷ bs) h = together (a && b) bs (and_both a b h.0 h.1.0, h.1.1)

-- the same of a list of tests that has a name
abbrev pub chain : List Bool → Bool
chain [] = true
chain (a ∷ bs) = tests a bs

pub facts : (bs : List Bool) → T (chain bs) → Each bs
facts [] h = tt
facts (a ∷ bs) h = apart a bs h

pub facts-make : (bs : List Bool) → Each bs → T (chain bs)
facts-make [] h = tt
facts-make (a ∷ bs) h = together a bs h

-- the one element of a list with no second
pub single : {A : Type 0} (d x : A) (xs : List A) → length xs ≤ 1 → Mem x xs → get_or xs 0 d ≡ x
single d x [] h m = absurd m
single d x (y ∷ []) h (inl e) = sym e
single d x (y ∷ []) h (inr m) = absurd m
single d x (y ∷ (z ∷ xs)) h m = absurd (omega arith)

pub mem-flat-map : {A B : Type 0} (f : A → List B) (xs : List A) (y : B) → Mem y (flat (map f xs)) → (x : A) × Mem x xs × Mem y (f x)
mem-flat-map f [] y m = absurd m
mem-flat-map {A} f (x ∷ xs) y m = go (mem-append (f x) (flat (map f xs)) y m) (λ m. mem-flat-map f xs y m)
  where
    go : Mem y (f x) ⊎ Mem y (flat (map f xs)) → (Mem y (flat (map f xs)) → (z : A) × Mem z xs × Mem y (f z)) → (z : A) × Mem z (x ∷ xs) × Mem y (f z)
    go (inl k) ih = (x, inl refl, k)
    go (inr k) ih = ((ih k).0, inr (ih k).1, (ih k).2)

pub mem-left : {A : Type 0} (xs ys : List A) (x : A) → Mem x xs → Mem x (xs ++ ys)
mem-left [] ys x m = absurd m
mem-left (y ∷ xs) ys x (inl e) = inl e
mem-left (y ∷ xs) ys x (inr m) = inr (mem-left xs ys x m)

pub mem-right : {A : Type 0} (xs ys : List A) (x : A) → Mem x ys → Mem x (xs ++ ys)
mem-right [] ys x m = m
mem-right (y ∷ xs) ys x m = inr (mem-right xs ys x m)

pub any-map : {A B : Type 0} (p : B → Bool) (f : A → B) (xs : List A) → any p (map f xs) ≡ any (λ x. p (f x)) xs
any-map p f [] = refl
any-map p f (x ∷ xs) = ap (λ b. p (f x) || b) (any-map p f xs)

pub any-select : {A : Type 0} (p q : A → Bool) (xs : List A) → any p (select q xs) ≡ any (λ x. q x && p x) xs
any-select p q [] = refl
any-select p q (x ∷ xs) = go (q x) (any-select p q xs)
  where
    go : (b : Bool) → any p (select q xs) ≡ any (λ x. q x && p x) xs
        → any p (cond b (x ∷ select q xs) (select q xs)) ≡ (b && p x || any (λ x. q x && p x) xs)
    go true e = ap (λ c. p x || c) e
    go false e = e

pub select-append : {A : Type 0} (p : A → Bool) (xs ys : List A) → select p (xs ++ ys) ≡ select p xs ++ select p ys
select-append p [] ys = refl
select-append p (x ∷ xs) ys = go (p x) (select-append p xs ys)
  where
    go : (b : Bool) → select p (xs ++ ys) ≡ select p xs ++ select p ys
        → cond b (x ∷ select p (xs ++ ys)) (select p (xs ++ ys)) ≡ cond b (x ∷ select p xs) (select p xs) ++ select p ys
    go true e = ap (λ l. x ∷ l) e
    go false e = e

pub map-append : {A B : Type 0} (f : A → B) (xs ys : List A) → map f (xs ++ ys) ≡ map f xs ++ map f ys
map-append f [] ys = refl
map-append f (x ∷ xs) ys = ap (λ l. f x ∷ l) (map-append f xs ys)

-- the front of a sum, with its next term
pub sum-front : (f : ℕ → ℕ) (n i k : ℕ) → k < n → sum (map f (from i k)) + f (i + k) ≤ sum (map f (from i n))
sum-front f zero i k h = absurd (not-suc-le-zero h)
sum-front f (suc n) i zero h = let e : f (i + 0) ≡ f i = ap f (add-zero i) in omega arith
sum-front f (suc n) i (suc k) h =
    let ih = sum-front f n (suc i) k (le_of_suc-le-suc h) in
    let e : f (suc i + k) ≡ f (i + suc k) = ap f (suc-add i k ∙ sym (add-suc i k)) in
    omega arith

-- a sum's last term
pub sum-last : (f : ℕ → ℕ) (k i : ℕ) → sum (map f (from i (suc k))) ≡ sum (map f (from i k)) + f (i + k)
sum-last f zero i = let e : f (i + 0) ≡ f i = ap f (add-zero i) in omega arith
sum-last f (suc k) i =
    let ih = sum-last f k (suc i) in
    let e : f (suc i + k) ≡ f (i + suc k) = ap f (suc-add i k ∙ sym (add-suc i k)) in
    omega arith

-- the blocks of a run, laid end to end again: block k has size k words from place start k
pub blocks : (start size : ℕ → ℕ) → ((k : ℕ) → start (suc k) ≡ start k + size k) → (ws : Words) (n i : ℕ)
    → flat (map (λ k. take (size k) (drop (start k) ws)) (from i n)) ≡ take (sum (map size (from i n))) (drop (start i) ws)
blocks start size h ws zero i = refl
blocks start size h ws (suc n) i =
    ap (λ l. take (size i) (drop (start i) ws) ++ l)
    (blocks start size h ws n (suc i) ∙ ap (take (sum (map size (from (suc i) n)))) (ap (λ k. drop k ws) (h i) ∙ sym (drop-drop (size i) (start i) ws)))
    ∙ sym (take-add (size i) (sum (map size (from (suc i) n))) (drop (start i) ws))

pub length-flat-map : (f : ℕ → Words) (g : ℕ → ℕ) → ((k : ℕ) → length (f k) ≡ g k) → (ks : List ℕ) → length (flat (map f ks)) ≡ sum (map g ks)
length-flat-map f g h [] = refl
length-flat-map f g h (k ∷ ks) = length-append (f k) (flat (map f ks)) ∙ ap₂ ◌+◌ (h k) (length-flat-map f g h ks)
