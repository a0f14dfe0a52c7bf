-- Laws of a spliced list that `lists` does not have: the words of the part itself, and of what stands before it.
-- Assumes nothing.
use Prim.Native.Nat.{ℕ, zero, suc, ◌-◌, ◌<◌, ◌≤◌}
use mathlib.Core.Path.{◌≡◌, sym, ap, ◌∙◌}
use mathlib.Core.List.{List, [], ◌∷◌, ◌++◌}
use native.Mathlib.Omega.{arith}
use lib.ListN.{length, get_or, take, drop, length-append, length-take, length-drop, get_or-append}
use lib.Seq.{length-take-le, take-nil, take_at, drop_at, take-append-le, get_or-take, take-take}
use Rattle.lists.specs.Parts.{part, splice}

take-drop : (f g : ℕ) (ws : List ℕ) → take (g - f) (drop f ws) ≡ drop f (take g ws)
take-drop zero g ws = let e : g - 0 ≡ g = omega arith in rw e
take-drop (suc f) zero ws = let e : 0 - suc f ≡ 0 = omega arith in rw e
take-drop (suc f) (suc g) [] = take-nil (suc g - suc f)
take-drop (suc f) (suc g) (x ∷ ws) = let e : suc g - suc f ≡ g - f = omega arith in rw e (take-drop f g ws)

module _ (s : List ℕ) (a b : ℕ) (p : List ℕ) (h : a ≤ b) (l : b ≤ length s) where
  pub length-splice : length p ≡ b - a → length (splice s a b p) ≡ length s
  unfolding splice
  length-splice e = simp (length-append, length-take, length-drop) (omega arith)

  -- the part itself
  pub part-splice : length p ≡ b - a → part (splice s a b p) a b ≡ p
  unfolding part splice
  part-splice e =
      let f : length (take a s) ≡ a = length-take-le a s (omega arith) in
      rw (drop_at (take a s) (p ++ drop b s) a f, take_at p (drop b s) (b - a) e)

  -- what stands before it
  pub take-splice : (k : ℕ) → k ≤ a → take k (splice s a b p) ≡ take k s
  unfolding splice
  take-splice k j =
      let f : length (take a s) ≡ a = length-take-le a s (omega arith) in
      let i : k ≤ length (take a s) = omega arith in
      rw (take-append-le k (take a s) (p ++ drop b s) i, take-take k a s j)

  pub at-splice : (i : ℕ) → i < a → get_or (splice s a b p) i 0 ≡ get_or s i 0
  unfolding splice
  at-splice i j =
      let f : length (take a s) ≡ a = length-take-le a s (omega arith) in
      let k : i < length (take a s) = omega arith in
      get_or-append (take a s) (p ++ drop b s) 0 i k ∙ get_or-take a s i 0 j

  pub part-before : (f g : ℕ) → g ≤ a → part (splice s a b p) f g ≡ part s f g
  unfolding part
  part-before f g k = take-drop f g (splice s a b p) ∙ ap (drop f) (take-splice g k) ∙ sym (take-drop f g s)
