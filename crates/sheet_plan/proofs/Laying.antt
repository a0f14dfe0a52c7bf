-- Marks read row by row: what the lists and the places are when so many are read, and when nothing behind is marked.
-- Assumes nothing.
use Prim.Native.Nat.{ℕ, zero, suc, ◌+◌, ◌*◌, ◌-◌, ◌/◌, ◌%◌, ◌<◌, ◌≤◌}
use mathlib.Core.Path.{◌≡◌, refl, sym, ap, subst, ◌∙◌}
use mathlib.Core.Bool.{Bool, true, false, cond}
use mathlib.Core.List.{List, [], ◌∷◌, ◌++◌, append-nil}
use mathlib.Core.Logic.{◌⊎◌, inl, inr}
use native.Mathlib.Omega.{arith}
use lib.Dec.{eqb, ltb}
use lib.ListN.{length, get_or, set, replicate, length-set, length-append, length-replicate, get_or-replicate, get_or-append, get_or-eq_default}
use lib.Seq.{get_or-set_same, get_or-set_other, ext_get_or}
use borrow.Author.Tests.{eq-eqb, ne_eqb, eqb-true, eqb-false, ltb-true, ltb-false}
use Rattle.lists.specs.Lists.{at, select, up_to}
use Rattle.lists.specs.Loops.{filled}
use Rattle.lists.proofs.Loops.{filled_more, length-filled, get_or-filled}
use Rattle.sheet.specs.Counted.{counted}
use Rattle.sheet.proofs.Numbers.{up_to-more, length-up_to}
use Rattle.laws.proofs.Lists.{select-append}
use Rattle.sheet_plan.specs.Marks.{has_mark, marked_in, marked_at, lists_of, lists_to, place_no, places_of, places_to, UnmarkedFrom}
use Rattle.sheet_plan.proofs.Chosen.{chosen_at}
use Rattle.sheet_plan.proofs.Sizes.{counted-le}

-- those chosen among the numbers up to c: c comes last, if it is chosen
module _ (p : ℕ → Bool) (c : ℕ) where
  chosen_more : select p (up_to (suc c)) ≡ select p (up_to c) ++ cond (p c) (c ∷ []) []
  chosen_more = ap (select p) (up_to-more c) ∙ select-append p (up_to c) (c ∷ [])

  chosen-miss : (j : ℕ) → p c ≡ false → at (select p (up_to (suc c))) j ≡ at (select p (up_to c)) j
  chosen-miss j h =
      ap (λ (l : List ℕ). at l j)
      (chosen_more ∙ ap (λ (b : Bool). select p (up_to c) ++ cond b (c ∷ []) []) h ∙ append-nil (select p (up_to c)))

  chosen-other : (j : ℕ) → p c ≡ true → (j ≡ counted p c → ⊥) → at (select p (up_to (suc c))) j ≡ at (select p (up_to c)) j
  chosen-other j h d =
      ap (λ (l : List ℕ). at l j) (chosen_more ∙ ap (λ (b : Bool). select p (up_to c) ++ cond b (c ∷ []) []) h)
      ∙ go (ltb j (counted p c)) refl
    where
      go : (b : Bool) → ltb j (counted p c) ≡ b → at (select p (up_to c) ++ (c ∷ [])) j ≡ at (select p (up_to c)) j
      go true e =
          let l = ltb-true j (counted p c) e in
          get_or-append (select p (up_to c)) (c ∷ []) 0 j (omega (arith, length-up_to p c))
      go false e =
          let l = ltb-false j (counted p c) e in
          let n = length-up_to p c in
          get_or-eq_default (select p (up_to c) ++ (c ∷ [])) 0 (omega (arith, length-append (select p (up_to c)) (c ∷ [])))
          ∙ sym (get_or-eq_default (select p (up_to c)) 0 (omega arith))

-- none passes
none-counted : (p : ℕ → Bool) (n : ℕ) → ((c : ℕ) → p c ≡ false) → counted p n ≡ 0
unfolding counted
none-counted p zero h = refl
none-counted p (suc n) h = rw (none-counted p n h, h n)

-- an array of zeros, filled as far as there is anything but zero to fill in
past-filled : (f : ℕ → ℕ) (k i : ℕ) (d : List ℕ) → k ≤ i → get_or (filled f k d) i 0 ≡ get_or d i 0
unfolding filled
past-filled f zero i d h = refl
past-filled f (suc k) i d h = get_or-set_other (filled f k d) k i (f k) 0 (λ e. omega arith) ∙ past-filled f k i d (omega arith)

filled-rest : (f : ℕ → ℕ) (k n : ℕ) → k ≤ n → ((i : ℕ) → k ≤ i → f i ≡ 0) → filled f k (replicate n 0) ≡ filled f n (replicate n 0)
filled-rest f k n h z =
    ext_get_or 0 (filled f k (replicate n 0)) (filled f n (replicate n 0)) (length-filled f k (replicate n 0) ∙ sym (length-filled f n (replicate n 0)))
    (λ i l. let m : i < n = omega (arith, length-filled f k (replicate n 0), length-replicate {A = ℕ} n 0) in
    go i m (ltb i k) refl ∙ sym (get_or-filled f n i 0 (replicate n 0) m (omega (arith, length-replicate {A = ℕ} n 0))))
  where
    go : (i : ℕ) → i < n → (b : Bool) → ltb i k ≡ b → get_or (filled f k (replicate n 0)) i 0 ≡ f i
    go i m true e = get_or-filled f k i 0 (replicate n 0) (ltb-true i k e) (omega (arith, length-replicate {A = ℕ} n 0))
    go i m false e =
        let l = ltb-false i k e in
        past-filled f k i (replicate n 0) l ∙ get_or-replicate n i 0 0 m ∙ sym (z i l)

-- a row begins, and ends where the next begins
module _ (f : ℕ → List ℕ) (l : List ℕ) (t : ℕ) where
  pub row-begins : l ≡ f (8 * t) → l ≡ f (8 * t + 0)
  row-begins e = let a : 8 * t ≡ 8 * t + 0 = omega arith in e ∙ ap f a

  pub row_ends : (k : ℕ) → k ≤ 8 → 8 ≤ k → l ≡ f (8 * t + k) → l ≡ f (8 * (t + 1))
  row_ends k h m e = let a : 8 * t + k ≡ 8 * (t + 1) = omega arith in e ∙ ap f a

module _ (marks : List ℕ) where
  -- place i is marked, or not
  step-hit : (i : ℕ) → get_or marks i 0 ≡ 1 → lists_to marks (suc i) ≡ set (lists_to marks i) (8 * (i / 8) + place_no marks i) (i % 8)
  unfolding lists_to
  step-hit i h = rw (eq-eqb _ _ h)

  pub step-miss : (i : ℕ) → (get_or marks i 0 ≡ 1 → ⊥) → lists_to marks (suc i) ≡ lists_to marks i
  unfolding lists_to
  step-miss i h = rw (ne_eqb _ _ h)

  length-lists : (i : ℕ) → length (lists_to marks i) ≡ 64
  unfolding lists_to
  length-lists zero = length-replicate {A = ℕ} 64 0
  length-lists (suc i) = go (eqb (get_or marks i 0) 1) (length-lists i)
    where
      go : (b : Bool) → length (lists_to marks i) ≡ 64
          → length (cond b (set (lists_to marks i) (8 * (i / 8) + place_no marks i) (i % 8)) (lists_to marks i)) ≡ 64
      go true e = length-set (lists_to marks i) (8 * (i / 8) + place_no marks i) (i % 8) ∙ e
      go false e = e

  -- place 8t + c, by its row
  module _ (t c : ℕ) (h : c < 8) where
    pub place_at : place_no marks (8 * t + c) ≡ counted (has_mark marks t) c
    unfolding place_no
    place_at =
        let a : (8 * t + c) / 8 ≡ t = omega arith in
        let b : (8 * t + c) % 8 ≡ c = omega arith in
        rw (a, b)

    pub row-hit : get_or marks (8 * t + c) 0 ≡ 1 → lists_to marks (suc (8 * t + c)) ≡ set (lists_to marks (8 * t + c)) (8 * t + counted (has_mark marks t) c) c
    row-hit m =
        let a : (8 * t + c) / 8 ≡ t = omega arith in
        let b : (8 * t + c) % 8 ≡ c = omega arith in
        step-hit (8 * t + c) m ∙ rw (a, b, place_at) refl

  -- of row t the first c numbers are read when i places are
  abbrev Read : ℕ → ℕ → ℕ → Type 0
  Read i t c = ((c ≡ 8) × (8 * t + 8 ≤ i)) ⊎ ((c < 8) × (c ≡ i - 8 * t))

  -- what stands at place 8t + j then
  module _ (t j : ℕ) (h : t < 8) (l : j < 8) where
    -- one number more of row t
    own_row : (c : ℕ) → c < 8 → get_or (lists_to marks (8 * t + c)) (8 * t + j) 0 ≡ at (select (has_mark marks t) (up_to c)) j
        → get_or (lists_to marks (suc (8 * t + c))) (8 * t + j) 0 ≡ at (select (has_mark marks t) (up_to (suc c))) j
    unfolding has_mark
    own_row c k ih = go (eqb (get_or marks (8 * t + c) 0) 1) refl
      where
        many : ℕ
        many = counted (has_mark marks t) c

        here : has_mark marks t c ≡ true → (b : Bool) → eqb j many ≡ b
            → get_or (set (lists_to marks (8 * t + c)) (8 * t + many) c) (8 * t + j) 0 ≡ at (select (has_mark marks t) (up_to (suc c))) j
        here y true e =
            let q = eqb-true j many e in
            ap (λ (x : ℕ). get_or (set (lists_to marks (8 * t + c)) (8 * t + x) c) (8 * t + j) 0) (sym q)
            ∙ get_or-set_same (lists_to marks (8 * t + c)) (8 * t + j) c 0 (omega (arith, length-lists (8 * t + c)))
            ∙ sym (chosen_at (has_mark marks t) (suc c) c j q (omega arith) y)
        here y false e =
            let q = eqb-false j many e in
            get_or-set_other (lists_to marks (8 * t + c)) (8 * t + many) (8 * t + j) c 0 (λ z. q (omega arith)) ∙ ih
            ∙ sym (chosen-other (has_mark marks t) c j y q)

        go : (b : Bool) → eqb (get_or marks (8 * t + c) 0) 1 ≡ b
            → get_or (lists_to marks (suc (8 * t + c))) (8 * t + j) 0 ≡ at (select (has_mark marks t) (up_to (suc c))) j
        go true e =
            ap (λ (m : List ℕ). get_or m (8 * t + j) 0) (row-hit t c k (eqb-true _ _ e)) ∙ here e (eqb j many) refl
        go false e =
            ap (λ (m : List ℕ). get_or m (8 * t + j) 0) (step-miss (8 * t + c) (eqb-false _ _ e)) ∙ ih ∙ sym (chosen-miss (has_mark marks t) c j e)

    -- one number more of another row
    other_row : (i : ℕ) → (t ≡ i / 8 → ⊥) → get_or (lists_to marks (suc i)) (8 * t + j) 0 ≡ get_or (lists_to marks i) (8 * t + j) 0
    unfolding place_no
    other_row i d = go (eqb (get_or marks i 0) 1) refl
      where
        go : (b : Bool) → eqb (get_or marks i 0) 1 ≡ b → get_or (lists_to marks (suc i)) (8 * t + j) 0 ≡ get_or (lists_to marks i) (8 * t + j) 0
        go true e =
            let m = counted-le (has_mark marks (i / 8)) (i % 8) in
            ap (λ (m : List ℕ). get_or m (8 * t + j) 0) (step-hit i (eqb-true _ _ e))
            ∙ get_or-set_other (lists_to marks i) (8 * (i / 8) + place_no marks i) (8 * t + j) (i % 8) 0 (λ z. d (omega arith))
        go false e = ap (λ (m : List ℕ). get_or m (8 * t + j) 0) (step-miss i (eqb-false _ _ e))

    lists_at : (i c : ℕ) → Read i t c → get_or (lists_to marks i) (8 * t + j) 0 ≡ at (select (has_mark marks t) (up_to c)) j
    unfolding lists_to
    lists_at zero c (inl r) = absurd (let q = r.1 in omega arith)
    lists_at zero c (inr r) =
        let z : c ≡ 0 = let q = r.1 in omega arith in
        get_or-replicate 64 (8 * t + j) 0 0 (omega arith) ∙ ap (λ (k : ℕ). at (select (has_mark marks t) (up_to k)) j) (sym z)
    lists_at (suc i) c r = go (eqb t (i / 8)) refl r (λ k r. lists_at i k r)
      where
        go : (b : Bool) → eqb t (i / 8) ≡ b → Read (suc i) t c
            → ((k : ℕ) → Read i t k → get_or (lists_to marks i) (8 * t + j) 0 ≡ at (select (has_mark marks t) (up_to k)) j)
            → get_or (lists_to marks (suc i)) (8 * t + j) 0 ≡ at (select (has_mark marks t) (up_to c)) j
        go true e r ih =
            let q : t ≡ i / 8 = eqb-true t (i / 8) e in
            let a : i ≡ 8 * t + i % 8 = omega arith in
            let b : c ≡ suc (i % 8) = last r q in
            subst (λ (k : ℕ). get_or (lists_to marks (suc k)) (8 * t + j) 0 ≡ at (select (has_mark marks t) (up_to c)) j) (sym a)
            (own_row (i % 8) (omega arith) (subst (λ (k : ℕ). get_or (lists_to marks k) (8 * t + j) 0 ≡ at (select (has_mark marks t) (up_to (i % 8))) j) a
            (ih (i % 8) (inr (omega arith, omega arith))))
            ∙ ap (λ (k : ℕ). at (select (has_mark marks t) (up_to k)) j) (sym b))
          where
            last : Read (suc i) t c → t ≡ i / 8 → c ≡ suc (i % 8)
            last (inl r) q = let x = r.1 in let y = r.0 in omega arith
            last (inr r) q = let x = r.1 in let y = r.0 in omega arith
        go false e r ih = let q = eqb-false _ _ e in other_row i q ∙ ih c (still r q)
          where
            still : Read (suc i) t c → (t ≡ i / 8 → ⊥) → Read i t c
            still (inl r) q = inl (r.0, let x = r.1 in omega arith)
            still (inr r) q = inr (r.0, let x = r.1 in let y = r.0 in omega arith)

  lists-all : lists_to marks 64 ≡ lists_of marks
  unfolding lists_of marked_at marked_in
  lists-all =
      ext_get_or 0 (lists_to marks 64) (lists_of marks) (length-lists 64 ∙ sym (length-filled _ 64 (replicate 64 0)))
      (λ i l. let k : i < 64 = omega (arith, length-lists 64) in
      let a : i ≡ 8 * (i / 8) + i % 8 = omega arith in
      subst (λ (x : ℕ). get_or (lists_to marks 64) x 0 ≡ marked_at marks (i / 8) (i % 8)) (sym a)
      (lists_at (i / 8) (i % 8) (omega arith) (omega arith) 64 8 (inl (refl, omega arith)))
      ∙ sym (get_or-filled (λ i. marked_at marks (i / 8) (i % 8)) 64 i 0 (replicate 64 0) k (omega arith)))

  -- one more of row t is read
  module _ (t c many : ℕ) (h : c < 8) (e : many ≡ counted (has_mark marks t) c) where
    next : 8 * t + (c + 1) ≡ suc (8 * t + c)
    next = omega arith

    pub lists-hit : (l : List ℕ) → get_or marks (8 * t + c) 0 ≡ 1 → l ≡ lists_to marks (8 * t + c) → set l (8 * t + many) c ≡ lists_to marks (8 * t + (c + 1))
    lists-hit l m q = rw (q, e, next) (sym (row-hit t c h m))

    pub lists-miss : (l : List ℕ) → (get_or marks (8 * t + c) 0 ≡ 1 → ⊥) → l ≡ lists_to marks (8 * t + c) → l ≡ lists_to marks (8 * t + (c + 1))
    lists-miss l m q = rw (q, next) (sym (step-miss (8 * t + c) m))

    pub places-more : (l : List ℕ) → l ≡ places_to marks (8 * t + c) → set l (8 * t + c) many ≡ places_to marks (8 * t + (c + 1))
    unfolding places_to
    places-more l q =
        let a : 8 * t + (c + 1) ≡ 8 * t + c + 1 = omega arith in
        rw a (filled_more (place_no marks) (8 * t + c) many (replicate 64 0) l q (e ∙ sym (place_at t c h)))

  -- nothing is marked from row n on
  module _ (n : ℕ) (few : n ≤ 8) (bare : UnmarkedFrom (8 * n) marks) where
    rest-lists : (k : ℕ) → lists_to marks (8 * n + k) ≡ lists_to marks (8 * n)
    rest-lists zero = ap (lists_to marks) (omega arith)
    rest-lists (suc k) =
        let a : 8 * n + suc k ≡ suc (8 * n + k) = omega arith in
        ap (lists_to marks) a ∙ step-miss (8 * n + k) (λ e. let z = bare (8 * n + k) (omega arith) in omega arith) ∙ rest-lists k

    pub lists-end : (t : ℕ) (l : List ℕ) → t ≤ n → n ≤ t → l ≡ lists_to marks (8 * t) → l ≡ lists_of marks
    lists-end t l a b e =
        let c : 8 * t ≡ 8 * n = omega arith in
        let d : 8 * n + (64 - 8 * n) ≡ 64 = omega arith in
        e ∙ ap (lists_to marks) c ∙ sym (rest-lists (64 - 8 * n)) ∙ ap (lists_to marks) d ∙ lists-all

    rest-places : (i : ℕ) → 8 * n ≤ i → place_no marks i ≡ 0
    unfolding place_no has_mark
    rest-places i h =
        none-counted (has_mark marks (i / 8)) (i % 8)
        (λ c. ne_eqb (get_or marks (8 * (i / 8) + c) 0) 1 (λ e. let z = bare (8 * (i / 8) + c) (omega arith) in omega arith))

    pub places-end : (t : ℕ) (l : List ℕ) → t ≤ n → n ≤ t → l ≡ places_to marks (8 * t) → l ≡ places_of marks
    unfolding places_to places_of
    places-end t l a b e =
        let c : 8 * t ≡ 8 * n = omega arith in
        e ∙ ap (λ (k : ℕ). filled (place_no marks) k (replicate 64 0)) c ∙ filled-rest (place_no marks) (8 * n) 64 (omega arith) rest-places
