-- What a chain over 0, 1, .., n - 1 counts, in the words of the loop that counts (beside the laws of lists/proofs/Chains.antt).
-- Assumes nothing.
use Rattle.std.proofs.Common.{◌≡◌, ℕ, zero, suc, ◌-◌, Bool, cond, List, [], ◌∷◌, length, refl, ap, ◌∙◌, arith}
use Rattle.std.specs.declared.ops.Range.{Range}
use Rattle.std.specs.Iterator.{Drains}
use Rattle.std.specs.Iterator.Adapters.{filter_source, filter_callee, filter_steps}
use Rattle.std.specs.List.{filter, range_with_len}
use Rattle.std.specs.Fn.{CalledAt}
use Rattle.std.proofs.iter.Yields.{nat_range_steps}
use Rattle.std.proofs.lemmas.Iterator.{YieldsList-from_range}
use Rattle.std.proofs.lemmas.Iterator.Consumers.{count_from_yields_List, YieldsList-from_filter, YieldsList-at}
use denote.Param.Members.{Mut}
use denote.Ref.{Bor}
use Rattle.lists.specs.Lists.{select, from}
use Rattle.sheet.specs.Counted.{counted}
use Rattle.sheet.proofs.Numbers.{length-up_to}

less-0 : (n : ℕ) → n - 0 ≡ n
less-0 n = omega arith

numbers : (a n : ℕ) → range_with_len a n ≡ from a n
numbers a zero = refl
numbers a (suc n) = ap (λ (l : List ℕ). a ∷ l) (ap (λ (i : ℕ). range_with_len i n) (omega arith) ∙ numbers (suc a) n)

chosen : (t : ℕ → Bool) (xs : List ℕ) → filter t xs ≡ select t xs
chosen t [] = refl
chosen t (x ∷ xs) = ap (λ (l : List ℕ). cond (t x) (x ∷ l) l) (chosen t xs)

-- `(0..n).filter(f).count()`
pub counted-from_count : {F : Type 0} {g : Mut F (Bor ℕ × Unit {0}) Bool} {n m : ℕ} {f : F} {s : _} (t : ℕ → Bool) (r : ℕ) → n ≡ m
    → ◌≡◌ {A = Range ℕ} (filter_source s) (record { start = 0; end = n }) → filter_callee s ≡ f
    → (xs : List ℕ) × Drains (filter_steps nat_range_steps g) s xs × (r ≡ length xs)
    → ((x : ℕ) (b : Bool) (q : F) → CalledAt g f x b q → (q ≡ f) × (b ≡ t x)) → r ≡ counted t m
counted-from_count {g = g} {n = n} {s = s} t r end source callee ran says =
    count_from_yields_List s r ran (YieldsList-from_filter g t (YieldsList-at source (YieldsList-from_range 0 n n refl (less-0 n))) callee says)
    ∙ ap length (chosen t (range_with_len 0 n) ∙ ap (select t) (numbers 0 n)) ∙ length-up_to t n ∙ ap (counted t) end
