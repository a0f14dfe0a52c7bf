-- The store as fill makes it: zeros stand for a model with no rows; with each side table written it stands for one more, and with the list for the meaning.
-- Assumes nothing.
use Prim.Native.Nat.{ℕ, ◌+◌, ◌*◌, ◌<◌, ◌≤◌}
use mathlib.Core.Path.{◌≡◌, refl, sym, ap, ◌∙◌, subst}
use mathlib.Core.Bool.{cond}
use mathlib.Core.List.{[], map}
use native.Mathlib.Omega.{arith}
use lib.Dec.{T, ltb, eqb, ltb→lt, lt→ltb}
use lib.ListN.{length, take, drop, set, replicate, length-set}
use lib.Seq.{ext_get_or}
use borrow.Author.Tests.{lt-ltb, le-ltb}
use Rattle.lists.specs.Lists.{Words, at, all}
use Rattle.lists.proofs.Truth.{same_test, map_same, up_to-mem}
use Rattle.rows.specs.Rows.{Rows, rising}
use Rattle.rows.specs.Regions.{Holds}
use Rattle.rows.proofs.Cut.{cut-zero}
use Rattle.rows.proofs.Sorted.{rising_none}
use Rattle.rows.proofs.Regions.{holds, all-zeros, all_drop, all_take}
use Rattle.meaning.specs.Sheet.{Sheet, tables}
use Rattle.meaning.specs.Plan.{kept, columns, size, start, store_length}
use Rattle.meaning.specs.Base.{Tables, rows_of}
use Rattle.meaning.specs.Meaning.{side_table, the_list, Model, meaning}
use Rattle.meaning.specs.Store.{part_rows, part_words, model_of}
use Rattle.laws.specs.Sheets.{Good}
use Rattle.laws.proofs.Lists.{here-or, by-set, at-up_to, length-up_to}
use Rattle.laws.proofs.Models.{part-side, by_part}
use Rattle.laws.proofs.Stores.{model-many, model-side}
use Rattle.laws.proofs.Qualified.{side-unkept}
use Rattle.places.specs.Stands.{slot, Stands, with_part}
use Rattle.places.proofs.Models.{with-side, with-list}
use Rattle.places.proofs.Stands.{stands-rows}
use Rattle.walks.proofs.Lists.{zeros-at}
use Rattle.filling.specs.Written.{partly}

-- a store's side tables are those of the model that it stands for
pub sides-stand : (s : Sheet) → Good s → (ws : Words) (m : Model) → Stands s ws m → (model_of s ws).sides ≡ m.sides
sides-stand s g ws m st =
    ext_get_or [] (model_of s ws).sides m.sides (model-many s ws ∙ sym st.many) (λ t l.
    let inside : t < s.n = omega (arith, l, model-many s ws) in
    model-side s ws t inside ∙ stands-rows s g ws m st t (omega arith) ∙ part-side m s.n st.many t inside)

module _ (s : Sheet) (base : Tables) where
  pub partly-many : (t : ℕ) → length (partly s base t).sides ≡ s.n
  unfolding partly
  partly-many t = length-up_to (λ u. cond (ltb u t) (side_table s base u) []) s.n

  side : (t u : ℕ) → u < s.n → rows_of (partly s base t).sides u ≡ cond (ltb u t) (side_table s base u) []
  unfolding partly
  side t u l = at-up_to (λ u. cond (ltb u t) (side_table s base u) []) [] s.n u l

  none : (part : ℕ) → part ≤ s.n → part_rows (partly s base 0) part ≡ []
  unfolding partly
  none part l =
      by_part (partly s base 0) s.n (partly-many 0) (λ part rows. rows ≡ []) (λ t l. side 0 t l ∙ rw (le-ltb t 0 (omega arith))) refl part l

  -- Zeros
  module _ (g : Good s) (ws : Words) (long : length ws ≡ store_length s) (zeros : ws ≡ replicate (length ws) 0) where
    at_zero : (i : ℕ) → at ws i ≡ 0
    at_zero i = ap (λ (ws : Words). at ws i) zeros ∙ zeros-at (length ws) i

    all-zero : T (all (eqb 0) ws)
    all-zero = subst (λ (ws : Words). T (all (eqb 0) ws)) (sym zeros) (all-zeros (length ws))

    part-zero : (part : ℕ) → Holds (columns s part) 0 [] (part_words s ws part)
    unfolding part_words
    part-zero part =
        let words = take (size s part) (drop (start s part) ws) in
        holds (columns s part) 0 [] words (cut-zero (columns s part) words)
        (record {
          fits = omega arith;
          up = subst (λ (rows : Rows). T (rising rows)) (sym (cut-zero (columns s part) words)) rising_none;
          zeros =
              all_drop (eqb 0) (0 * columns s part) words
              (all_take (eqb 0) (size s part) (drop (start s part) ws) (all_drop (eqb 0) (start s part) ws all-zero));
        })

    pub zeros-stand : Stands s ws (partly s base 0)
    zeros-stand =
        record {
          long = long;
          many = partly-many 0;
          absent = λ t a b. at_zero t;
          holds = λ part l. rw (at_zero (slot s part), none part l) (part-zero part);
        }

  -- One side table more, which alters no other: written, or unkept
  same : (t u : ℕ) → (u ≡ t → ⊥) → cond (ltb u t) (side_table s base u) [] ≡ cond (ltb u (t + 1)) (side_table s base u) []
  same t u d =
      ap (λ b. cond b (side_table s base u) [])
      (same_test (ltb u t) (ltb u (t + 1)) (λ h. lt→ltb u (t + 1) (omega (arith, ltb→lt u t h))) (λ h. lt→ltb u t (omega (arith, ltb→lt u (t + 1) h, d))))

  pub partly-next : (t : ℕ) → t < s.n → with_part (partly s base t) t (side_table s base t) ≡ partly s base (t + 1)
  unfolding partly
  partly-next t l =
      with-side (partly s base t) s.n (partly-many t) (side_table s base t) t l
      ∙ (λ i. record { sides = sides i; list = [] })
    where
      sides : set (partly s base t).sides t (side_table s base t) ≡ (partly s base (t + 1)).sides
      sides =
          ext_get_or [] (set (partly s base t).sides t (side_table s base t)) (partly s base (t + 1)).sides
          (length-set (partly s base t).sides t (side_table s base t) ∙ partly-many t ∙ sym (partly-many (t + 1))) (λ u i.
          by-set [] (λ u rows. u < s.n → rows ≡ rows_of (partly s base (t + 1)).sides u) (partly s base t).sides t (side_table s base t)
          (omega (arith, partly-many t))
          (λ i. sym (side (t + 1) t i ∙ rw (lt-ltb t (t + 1) (omega arith))))
          (λ u d i. side t u i ∙ same t u d ∙ sym (side (t + 1) u i)) u
          (omega (arith, i, length-set (partly s base t).sides t (side_table s base t), partly-many t)))

  pub partly-unkept : (t : ℕ) → t < s.n → (T (kept s t) → ⊥) → partly s base t ≡ partly s base (t + 1)
  unfolding partly
  partly-unkept t l k = λ i. record { sides = sides i; list = [] }
    where
      sides : map (λ u. cond (ltb u t) (side_table s base u) []) (tables s) ≡ map (λ u. cond (ltb u (t + 1)) (side_table s base u) []) (tables s)
      sides =
          map_same (λ u. cond (ltb u t) (side_table s base u) []) (λ u. cond (ltb u (t + 1)) (side_table s base u) []) (tables s) (λ u m.
          here-or (λ u. cond (ltb u t) (side_table s base u) [] ≡ cond (ltb u (t + 1)) (side_table s base u) []) t u
          (rw (le-ltb t t (omega arith), lt-ltb t (t + 1) (omega arith)) (sym (side-unkept s base t k))) (λ d. same t u d))

  -- all of them
  pub partly-sides : (partly s base s.n).sides ≡ (meaning s base).sides
  unfolding partly meaning
  partly-sides =
      map_same (λ u. cond (ltb u s.n) (side_table s base u) []) (side_table s base) (tables s) (λ u m. rw (lt-ltb u s.n (up_to-mem s.n u m)))

  -- and the list
  pub partly-end : with_part (partly s base s.n) s.n (the_list s base) ≡ meaning s base
  unfolding meaning
  partly-end =
      with-list (partly s base s.n) s.n (partly-many s.n) (the_list s base)
      ∙ (λ i. record { sides = partly-sides i; list = the_list s base })
