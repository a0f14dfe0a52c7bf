-- A model with other rows in one part.
-- Assumes nothing.
use Prim.Native.Nat.{ℕ, ◌<◌, ◌≤◌}
use mathlib.Core.Path.{◌≡◌, sym, ap, ◌∙◌, subst}
use mathlib.Core.List.{[], ◌∷◌, ◌++◌}
use native.Mathlib.Omega.{arith}
use lib.ListN.{length, get_or, set, length-append, length-set}
use lib.Seq.{set-append_left, set-append_seam, set_out, set-get_or, get_or-set_same, get_or-set_other}
use borrow.Author.Tests.{eq-eqb, ne_eqb}
use Rattle.rows.specs.Rows.{Rows}
use Rattle.meaning.specs.Base.{Tables, rows_of}
use Rattle.meaning.specs.Meaning.{Model}
use Rattle.meaning.specs.Store.{part_rows}
use Rattle.laws.proofs.Lists.{here-or}
use Rattle.places.specs.Stands.{with_part}

module _ (m : Model) (n : ℕ) (many : length m.sides ≡ n) (rows : Rows) where
  -- a side table's rows, or the list's
  pub with-side : (t : ℕ) → t < n → with_part m t rows ≡ record { sides = set m.sides t rows; list = m.list }
  unfolding with_part
  with-side t l = let d : t ≡ length m.sides → ⊥ = (λ q. omega arith) in rw (ne_eqb t (length m.sides) d)

  pub with-list : with_part m n rows ≡ record { sides = m.sides; list = rows }
  unfolding with_part
  with-list = rw (eq-eqb n (length m.sides) (sym many), set_out m.sides n rows (omega arith))

  pub with-many : (part : ℕ) → length (with_part m part rows).sides ≡ n
  unfolding with_part
  with-many part = length-set m.sides part rows ∙ many

  -- all parts at once: one of them is set
  with-parts : (part : ℕ) → part ≤ n → (with_part m part rows).sides ++ ((with_part m part rows).list ∷ []) ≡ set (m.sides ++ (m.list ∷ [])) part rows
  with-parts part l =
      here-or (λ part. part ≤ n → (with_part m part rows).sides ++ ((with_part m part rows).list ∷ []) ≡ set (m.sides ++ (m.list ∷ [])) part rows) n part
      (λ l. rw with-list
      (sym (subst (λ (k : ℕ). set (m.sides ++ (m.list ∷ [])) k rows ≡ m.sides ++ (rows ∷ [])) many (set-append_seam m.sides m.list [] rows))))
      (λ d l. let k : part < n = omega arith in rw (with-side part k) (sym (set-append_left m.sides (m.list ∷ []) part rows (omega arith)))) l

  pub with-own : (part : ℕ) → part ≤ n → part_rows (with_part m part rows) part ≡ rows
  with-own part l =
      ap (λ (l : Tables). get_or l part []) (with-parts part l)
      ∙ get_or-set_same (m.sides ++ (m.list ∷ [])) part rows [] (omega (arith, length-append m.sides (m.list ∷ [])))

  pub with-other : (part q : ℕ) → part ≤ n → (q ≡ part → ⊥) → part_rows (with_part m part rows) q ≡ part_rows m q
  with-other part q l d =
      ap (λ (l : Tables). get_or l q []) (with-parts part l) ∙ get_or-set_other (m.sides ++ (m.list ∷ [])) part q rows [] d

-- a side table set to its own rows
pub side-itself : (m : Model) (t : ℕ) → set m.sides t (rows_of m.sides t) ≡ m.sides
side-itself m t = set-get_or m.sides t []
