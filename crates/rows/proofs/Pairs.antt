-- Rising order over a run of words, neighbour by neighbour: where the order is transitive, each row that stands so to the next stands so to every later one.
-- Assumes nothing.
use Prim.Native.Nat.{ℕ, ◌+◌, ◌-◌, ◌<◌}
use mathlib.Core.Path.{◌≡◌, refl, ap, ◌∙◌}
use mathlib.Core.Bool.{Bool, true, ◌&&◌}
use mathlib.Core.List.{[], ◌∷◌}
use mathlib.Core.Logic.{◌⊎◌, inl, inr}
use native.Mathlib.Nat.{eq-or-lt_of_le}
use native.Mathlib.Omega.{arith}
use lib.Dec.{T}
use lib.ListN.{get_or, drop}
use Rattle.lists.specs.Lists.{Words, all, rises}
use Rattle.lists.proofs.Truth.{is_t, T→≡}
use Rattle.lists.proofs.Rises.{rises-at, rises-snoc}
use Rattle.rows.specs.Rows.{Row, Rows, cut, not_after, rising}
use Rattle.rows.specs.Words.{row}
use Rattle.rows.specs.Regions.{keys_rise}
use Rattle.rows.specs.Steps.{key_less}
use Rattle.rows.proofs.Cut.{cut-length, cut_at, cut-snoc, cut-suc, cut-zero}

module _ (R : Row → Row → Bool) (w : ℕ) (s : Words) where
  pub pairs-one : rises R (cut w 1 s) ≡ true
  unfolding rises
  pairs-one = rw (cut-suc w 0 s, cut-zero w (drop w s))

  -- one row more, that the last one stands so to
  pub pairs-more : ((a b c : Row) → T (R a b) → T (R b c) → T (R a c)) → (i : ℕ) → 0 < i → rises R (cut w i s) ≡ true
      → R (row w (i - 1) s) (row w i s) ≡ true → rises R (cut w (i + 1) s) ≡ true
  pairs-more chain i pos h e =
      ap (rises R) (cut-snoc w i s)
      ∙ T→≡ _ (rises-snoc R [] (cut w i s) (row w i s) (is_t h) (λ j l. let m : j < i = rw cut-length at l in to j (eq-or-lt_of_le (omega arith))))
    where
      last : get_or (cut w i s) (i - 1) [] ≡ row w (i - 1) s
      last = cut_at w i s (i - 1) (omega arith)

      to : (j : ℕ) → (j ≡ i - 1) ⊎ (j < i - 1) → T (R (get_or (cut w i s) j []) (row w i s))
      to j (inl q) = rw (q, last) (is_t e)
      to j (inr m) =
          chain (get_or (cut w i s) j []) (row w (i - 1) s) (row w i s)
          (rw (← last) (rises-at R [] (cut w i s) (is_t h) j (i - 1) m (rw cut-length (omega arith)))) (is_t e)

pub rising-is : (rows : Rows) → rising rows ≡ rises not_after rows
unfolding rises rising
rising-is [] = refl
rising-is (r ∷ rows) = ap (λ b. all (not_after r) rows && b) (rising-is rows)

pub keys-are : (rows : Rows) → keys_rise rows ≡ rises key_less rows
unfolding rises keys_rise
keys-are [] = refl
keys-are (r ∷ rows) = ap (λ b. all (key_less r) rows && b) (keys-are rows)
