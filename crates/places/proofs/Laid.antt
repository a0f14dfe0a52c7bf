-- Rows laid end to end in a run, and zeros after them: one row written behind them, and the rows read back.
-- Assumes nothing.
use Prim.Native.Nat.{ℕ, zero, suc, ◌+◌, ◌-◌, ◌*◌, ◌≤◌}
use mathlib.Core.Path.{◌≡◌, sym, ap, ◌∙◌, subst}
use mathlib.Core.List.{[], ◌∷◌, ◌++◌, append-nil}
use native.Mathlib.Omega.{arith}
use lib.Dec.{T, eqb}
use lib.ListN.{length, take, drop, replicate, length-append, length-replicate}
use lib.Seq.{take_at, drop_at, drop-drop, take_all}
use Rattle.lists.specs.Lists.{Words, all, flat}
use Rattle.lists.proofs.Places.{append_assoc}
use Rattle.rows.specs.Rows.{Row, Rows, Wide, cut, rising}
use Rattle.rows.specs.Words.{written}
use Rattle.rows.specs.Regions.{laid, Holds}
use Rattle.rows.proofs.Cut.{length-flat, cut-flat}
use Rattle.rows.proofs.Regions.{holds, all-zeros}

pub laid_none : (size : ℕ) → replicate size 0 ≡ laid size []
unfolding laid
laid_none size = let e : size - 0 ≡ size = omega arith in rw e

drop-zeros : (j k : ℕ) → drop j (replicate {A = ℕ} k 0) ≡ replicate (k - j) 0
drop-zeros zero k = let e : k - 0 ≡ k = omega arith in rw e
drop-zeros (suc j) zero = let e : 0 - suc j ≡ 0 = omega arith in rw e
drop-zeros (suc j) (suc k) = let e : suc k - suc j ≡ k - j = omega arith in rw e (drop-zeros j k)

flat-one : (rows : Rows) (r : Row) → flat (rows ++ (r ∷ [])) ≡ flat rows ++ r
flat-one [] r = append-nil r
flat-one (q ∷ rows) r = ap (λ (l : Words). q ++ l) (flat-one rows r) ∙ sym (append_assoc q (flat rows) r)

-- Rows of w columns that have room
module _ (w size : ℕ) (rows : Rows) (wide : Wide w rows) where
  long : length (flat rows) ≡ length rows * w
  long = length-flat w rows wide

  pub laid-long : length rows * w ≤ size → length (laid size rows) ≡ size
  unfolding laid
  laid-long h = simp (length-append, length-replicate) (omega (arith, long))

  -- one more
  pub laid_more : (r : Row) → length r ≡ w → length rows * w + w ≤ size → written (laid size rows) (length rows * w) r w ≡ laid size (rows ++ (r ∷ []))
  unfolding laid written
  laid_more r e h =
      let zeros : Words = replicate (size - length (flat rows)) 0 in
      let front : take (length rows * w) (flat rows ++ zeros) ≡ flat rows = take_at (flat rows) zeros (length rows * w) long in
      let left : size - length (flat rows) - w ≡ size - length (flat rows ++ r) = omega (arith, long, length-append (flat rows) r) in
      let back : drop (length rows * w + w) (flat rows ++ zeros) ≡ replicate (size - length (flat rows) - w) 0 =
      sym (drop-drop w (length rows * w) (flat rows ++ zeros))
      ∙ ap (drop w) (drop_at (flat rows) zeros (length rows * w) long)
      ∙ drop-zeros w (size - length (flat rows)) in
      rw (front, back, take_all w r (omega arith), flat-one rows r, left)

  pub laid-zeros : T (all (eqb 0) (drop (length rows * w) (laid size rows)))
  unfolding laid
  laid-zeros =
      let z = size - length (flat rows) in
      subst (λ (ws : Words). T (all (eqb 0) ws)) (sym (drop_at (flat rows) (replicate z 0) (length rows * w) long)) (all-zeros z)

  pub laid-cut : cut w (length rows) (laid size rows) ≡ rows
  unfolding laid
  laid-cut = cut-flat w rows (replicate (size - length (flat rows)) 0) wide

  -- rising rows, as they stand
  pub laid-holds : length rows * w ≤ size → T (rising rows) → Holds w (length rows) rows (laid size rows)
  laid-holds h u =
      holds w (length rows) rows (laid size rows) laid-cut
      (record {
        fits = omega (arith, laid-long h);
        up = subst (λ (rows : Rows). T (rising rows)) (sym laid-cut) u;
        zeros = laid-zeros;
      })
