-- Laws of parts: what stands in the whole when a lent part is back, and what stands beside it.
-- Assumes nothing.
use Prim.Native.Nat.{ℕ, ◌-◌, ◌≤◌}
use mathlib.Core.Path.{◌≡◌, refl, sym, ap, ◌∙◌}
use mathlib.Core.List.{List}
use native.Mathlib.Omega.{arith}
use native.Mathlib.Nat.{add-sub_of_le}
use lib.ListN.{length, drop, length-take, length-drop}
use lib.Seq.{drop-drop}
use borrow.Rule.Slice.PartMut.{put_mid, Post-is, drop_put}
use Rattle.lists.specs.Parts.{part, splice}

-- what stands in the store when the part that was lent is back
pub put_back : (s : List ℕ) (a b : ℕ) (p q : List ℕ) → a ≤ b → p ≡ q → put_mid a (b - a) s p ≡ splice s a b q
unfolding splice
put_back s a b p q h e = rw (Post-is a b s h, e)

pub length_part : (s : List ℕ) (a b : ℕ) → b ≤ length s → length (part s a b) ≡ b - a
unfolding part
length_part s a b h = simp (length-take, length-drop) (omega arith)

-- words from b on are as they were
pub drop-splice : (s : List ℕ) (a b f : ℕ) (p : List ℕ) → a ≤ b → b ≤ length s → length p ≡ b - a → b ≤ f → drop f (splice s a b p) ≡ drop f s
drop-splice s a b f p h l e k =
    rw (← add-sub_of_le k, ← drop-drop (f - b) b (splice s a b p), ← drop-drop (f - b) b s)
    (ap (drop (f - b)) (ap (drop b) (sym (put_back s a b p p h refl)) ∙ drop_put a b s p h l e))

pub part-after : (s : List ℕ) (a b f g : ℕ) (p : List ℕ) → a ≤ b → b ≤ length s → length p ≡ b - a → b ≤ f → part (splice s a b p) f g ≡ part s f g
unfolding part
part-after s a b f g p h l e k = rw (drop-splice s a b f p h l e k)
