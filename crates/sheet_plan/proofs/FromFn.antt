-- What `std::array::from_fn` makes: place k has what the closure says of k. In the words of the counted loops: `filled`.
-- Assumes nothing.
use Rattle.std.proofs.Common.{◌≡◌, ℕ, zero, suc, ◌+◌, ◌<◌, ◌≤◌, refl, sym, subst, ◌∙◌, arith}
use mathlib.Core.List.{List}
use mathlib.Core.Logic.{⊎_elim}
use native.Mathlib.Nat.{eq-or-lt_of_le}
use Rattle.std.proofs.lemmas.Bool.{cases_lt}
use lib.ListN.{length, get_or, replicate, length-replicate, get_or-replicate}
use lib.Seq.{ext_get_or, get_or-set_other}
use denote.Param.Members.{Mut, Called}
use Rattle.std.specs.Array.{IsFromFnResult, IsFromFnResultFrom}
use Rattle.lists.specs.Loops.{filled}
use Rattle.lists.proofs.Loops.{length-filled, get_or-filled}

past : (h : ℕ → ℕ) (n k : ℕ) (d : List ℕ) → n ≤ k → get_or (filled h n d) k 0 ≡ get_or d k 0
unfolding filled
past h zero k d l = refl
past h (suc n) k d l = get_or-set_other (filled h n d) n k (h n) 0 (λ e. omega arith) ∙ past h n k d (omega arith)

-- the closure stays as it is, and its answer at k has P k
abbrev pub Says : {F : Type 0} → Mut F (ℕ × Unit {0}) ℕ → F → (ℕ → ℕ → Type 0) → Type 0
Says {F} g f P = (k r : ℕ) (q : F) → Called g f (k, tt) r q → (q ≡ f) × P k r

module _ {F : Type 0} (g : Mut F (ℕ × Unit {0}) ℕ) (f : F) where
  each-from : (P : ℕ → ℕ → Type 0) → Says g f P → (ys : List ℕ) (i n : ℕ) → IsFromFnResultFrom g f ys i n
      → (k : ℕ) → i ≤ k → k < i + n → P k (get_or ys k 0)
  each-from P says ys i zero made k a b = absurd (omega arith)
  each-from P says ys i (suc n) made k a b =
      let s = says i made.1 made.0 made.3 in
      ⊎_elim
      (λ e. subst (λ (j : ℕ). P j (get_or ys j 0)) e (subst (λ (y : ℕ). P i y) (sym (made.2.1 0)) s.1))
      (λ l. each-from P says ys (i + 1) n (subst (λ (q : F). IsFromFnResultFrom g q ys (i + 1) n) s.0 made.4) k (omega arith) (omega arith))
      (eq-or-lt_of_le a)

  each-from_from_fn : (P : ℕ → ℕ → Type 0) (ys : List ℕ) (n : ℕ) → IsFromFnResult g f ys n → Says g f P
      → (k : ℕ) → k < n → P k (get_or ys k 0)
  each-from_from_fn P ys n made says k l = each-from P says ys 0 n made.each k (omega arith) (omega arith)

  -- h in each of the first n places, and 0 behind them
  pub filled-from_from_fn : (h : ℕ → ℕ) (ys : List ℕ) (n m : ℕ) → IsFromFnResult g f ys m → n ≤ m
      → Says g f (λ k r. (k < n → r ≡ h k) × (n ≤ k → r ≡ 0)) → ys ≡ filled h n (replicate m 0)
  filled-from_from_fn h ys n m made l says =
      ext_get_or 0 ys (filled h n (replicate m 0)) (made.long ∙ sym (length-filled h n (replicate m 0) ∙ long))
      (λ k a. at k (omega (arith, made.long)))
    where
      long : length (replicate {A = ℕ} m 0) ≡ m
      long = length-replicate {A = ℕ} m 0

      at : (k : ℕ) → k < m → get_or ys k 0 ≡ get_or (filled h n (replicate m 0)) k 0
      at k a =
          let p = each-from_from_fn (λ k r. (k < n → r ≡ h k) × (n ≤ k → r ≡ 0)) ys m made says k a in
          ⊎_elim
          (λ b. p.0 b ∙ sym (get_or-filled h n k 0 (replicate m 0) b (omega (arith, long))))
          (λ b. p.1 b ∙ sym (past h n k (replicate m 0) b ∙ get_or-replicate m k 0 0 a))
          (cases_lt k n)

  -- h in each place
  pub all-filled-from_from_fn : (h : ℕ → ℕ) (ys : List ℕ) (m : ℕ) → IsFromFnResult g f ys m → Says g f (λ k r. r ≡ h k)
      → ys ≡ filled h m (replicate m 0)
  all-filled-from_from_fn h ys m made says =
      ext_get_or 0 ys (filled h m (replicate m 0)) (made.long ∙ sym (length-filled h m (replicate m 0) ∙ long))
      (λ k a. let l : k < m = omega (arith, made.long) in
      each-from_from_fn (λ k r. r ≡ h k) ys m made says k l ∙ sym (get_or-filled h m k 0 (replicate m 0) l (omega (arith, long))))
    where
      long : length (replicate {A = ℕ} m 0) ≡ m
      long = length-replicate {A = ℕ} m 0
