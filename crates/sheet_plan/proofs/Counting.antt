-- `(0..n).filter(f).count()`, in the words of the counted loops.
-- Assumes nothing.
use Rattle.std.proofs.Common.{◌≡◌, ℕ, zero, suc, ◌+◌, ◌∷◌, Bool, true, false, cond, List, length, refl, ap, ◌∙◌, arith}
use Rattle.std.specs.declared.ops.Range.{Range}
use Rattle.std.specs.declared.iter.Filter.{Filter}
use Rattle.std.specs.Iterator.{Drains}
use Rattle.std.specs.Iterator.Adapters.{filter_source, filter_callee, filter_steps}
use Rattle.std.specs.List.{filter, range_with_len}
use Rattle.std.specs.Fn.{CalledAt}
use Rattle.std.proofs.iter.Yields.{nat_range_steps}
use Rattle.std.proofs.lemmas.Iterator.{YieldsList-from_range}
use Rattle.std.proofs.lemmas.Iterator.Consumers.{YieldsList-from_filter, count_from_yields_List}
use denote.Param.Members.{Mut}
use denote.Ref.{Bor}
use Rattle.lists.specs.Totals.{one}
use Rattle.sheet.specs.Counted.{counted}

module _ (t : ℕ → Bool) where
  one-more : (x : ℕ) (xs : List ℕ) → length (filter t (x ∷ xs)) ≡ one (t x) + length (filter t xs)
  one-more x xs = go (t x)
    where
      go : (b : Bool) → length (cond b (x ∷ filter t xs) (filter t xs)) ≡ one b + length (filter t xs)
      go true = omega arith
      go false = omega arith

  last : (a n : ℕ) → length (filter t (range_with_len a (suc n))) ≡ length (filter t (range_with_len a n)) + one (t (a + n))
  last a zero = let e : a ≡ a + 0 = omega arith in one-more a (range_with_len (a + 1) 0) ∙ omega (arith, ap (λ k. one (t k)) e)
  last a (suc n) =
      let e : a + 1 + n ≡ a + suc n = omega arith in
      one-more a (range_with_len (a + 1) (suc n)) ∙ omega (arith, last (a + 1) n, one-more a (range_with_len (a + 1) n), ap (λ k. one (t k)) e)

  counted-is : (n : ℕ) → length (filter t (range_with_len 0 n)) ≡ counted t n
  unfolding counted
  counted-is zero = refl
  counted-is (suc n) = let e : 0 + n ≡ n = omega arith in last 0 n ∙ omega (arith, counted-is n, ap (λ k. one (t k)) e)

  pub counted-from_count : {F : Type 0} {g : Mut F (Bor ℕ × Unit {0}) Bool} {n : ℕ} {f : F} (s : Filter (Range ℕ) F) (r : ℕ)
      → (xs : List ℕ) × Drains (filter_steps nat_range_steps g) s xs × (r ≡ length xs)
      → filter_source s ≡ record { start = 0; end = n } → filter_callee s ≡ f
      → ((x : ℕ) (b : Bool) (q : F) → CalledAt g f x b q → (q ≡ f) × (b ≡ t x)) → r ≡ counted t n
  counted-from_count {n = n} s r ran source callee says =
      count_from_yields_List s r ran (YieldsList-from_filter _ t (YieldsList-from_range 0 n n source (omega arith)) callee says) ∙ counted-is n
