-- Laws of cutting a run of words into rows.
-- Assumes nothing.
use Prim.Native.Nat.{ℕ, zero, suc, ◌+◌, ◌*◌, ◌<◌, ◌≤◌}
use mathlib.Core.Path.{◌≡◌, refl, sym, ap, ap₂, ◌∙◌}
use mathlib.Core.List.{[], ◌∷◌, ◌++◌, append_assoc}
use native.Mathlib.Nat.{not-suc-le-zero, le_of_suc-le-suc, zero-add, suc-add, zero-mul, suc-mul, mul-le-mul_right}
use native.Mathlib.Omega.{arith}
use lib.Dec.{eqb, eqb→eq}
use lib.ListN.{length, get_or, take, drop, length-append, length-take, length-drop, take-append-drop}
use lib.Seq.{take_at, drop_at, take-append-le, drop-append-le, drop-drop, take-add, length-take-le, get_or-take, get_or-drop}
use Rattle.lists.specs.Lists.{Words, at, flat}
use Rattle.lists.proofs.Truth.{eq→eqb, all_cons, all_first, all_rest}
use Rattle.rows.specs.Rows.{Row, Rows, Wide, cut}
use Rattle.rows.specs.Words.{row}

-- row i of n lies within the words
pub row_fits : (w n i len : ℕ) → i < n → n * w ≤ len → i * w + w ≤ len
row_fits w n i len h l = omega (arith, suc-mul i w, mul-le-mul_right {m = suc i} {n = n} w h)

pub cut-length : (w k : ℕ) (ws : Words) → length (cut w k ws) ≡ k
unfolding cut
cut-length w zero ws = refl
cut-length w (suc k) ws = ap suc (cut-length w k (drop w ws))

-- row i
pub cut_at : (w k : ℕ) (ws : Words) (i : ℕ) → i < k → get_or (cut w k ws) i [] ≡ take w (drop (i * w) ws)
unfolding cut
cut_at w zero ws i h = absurd (not-suc-le-zero h)
cut_at w (suc k) ws zero h = rw (zero-mul w)
cut_at w (suc k) ws (suc i) h =
    cut_at w k (drop w ws) i (le_of_suc-le-suc h) ∙ (let e : w + i * w ≡ suc i * w = omega (arith, suc-mul i w) in rw (drop-drop (i * w) w ws, e))

pub row-length : (w i : ℕ) (ws : Words) → i * w + w ≤ length ws → length (take w (drop (i * w) ws)) ≡ w
row-length w i ws fits = simp (length-take, length-drop) (omega arith)

-- column j of row i
pub row_at : (w i : ℕ) (ws : Words) (j : ℕ) → j < w → at (take w (drop (i * w) ws)) j ≡ at ws (i * w + j)
row_at w i ws j h = rw (get_or-take, get_or-drop)

pub cut-zero : (w : ℕ) (ws : Words) → cut w 0 ws ≡ []
unfolding cut
cut-zero w ws = refl

pub cut-suc : (w k : ℕ) (ws : Words) → cut w (suc k) ws ≡ take w ws ∷ cut w k (drop w ws)
unfolding cut
cut-suc w k ws = refl

pub cut-cons : (w k : ℕ) (r : Row) (ws : Words) → length r ≡ w → cut w (suc k) (r ++ ws) ≡ r ∷ cut w k ws
unfolding cut
cut-cons w k r ws e = rw (take_at r ws w e, drop_at r ws w e)

-- a rows, then b rows
pub cut-split : (w a b : ℕ) (ws : Words) → cut w (a + b) ws ≡ cut w a ws ++ cut w b (drop (a * w) ws)
unfolding cut
cut-split w zero b ws = rw (zero-add, zero-mul)
cut-split w (suc a) b ws =
    let m : w + a * w ≡ suc a * w = omega (arith, suc-mul a w) in
    rw (suc-add, ← m, ← drop-drop (a * w) w ws) (ap (λ (l : Rows). take w ws ∷ l) (cut-split w a b (drop w ws)))

-- one row more
pub cut-snoc : (w i : ℕ) (s : Words) → cut w (i + 1) s ≡ cut w i s ++ (row w i s ∷ [])
unfolding cut
cut-snoc w i s = cut-split w i 1 s

pub take-cut : (w a b : ℕ) (ws : Words) → take a (cut w (a + b) ws) ≡ cut w a ws
take-cut w a b ws = rw (cut-split, take_at (cut w a ws) (cut w b (drop (a * w) ws)) a (cut-length w a ws))

pub drop-cut : (w a b : ℕ) (ws : Words) → drop a (cut w (a + b) ws) ≡ cut w b (drop (a * w) ws)
drop-cut w a b ws = rw (cut-split, drop_at (cut w a ws) (cut w b (drop (a * w) ws)) a (cut-length w a ws))

-- what stands behind the rows does not count
pub cut-front : (w k : ℕ) (xs ys : Words) → k * w ≤ length xs → cut w k (xs ++ ys) ≡ cut w k xs
unfolding cut
cut-front w zero xs ys h = refl
cut-front w (suc k) xs ys h =
    let m : w ≤ length xs = omega (arith, suc-mul k w) in
    let l : k * w ≤ length (drop w xs) = simp length-drop (omega (arith, suc-mul k w)) in
    rw (take-append-le w xs ys m, drop-append-le w xs ys m) (ap (λ (rows : Rows). take w xs ∷ rows) (cut-front w k (drop w xs) ys l))

pub cut-take : (w k : ℕ) (ws : Words) (m : ℕ) (ys : Words) → m ≡ k * w → m ≤ length ws → cut w k (take m ws ++ ys) ≡ cut w k ws
cut-take w k ws m ys e h =
    let l : k * w ≤ length (take m ws) = simp length-take (omega arith) in
    cut-front w k (take m ws) ys l ∙ sym (cut-front w k (take m ws) (drop m ws) l) ∙ ap (cut w k) (take-append-drop m ws)

-- rows that have w columns each
pub wide-first : (w : ℕ) (r : Row) (rows : Rows) → Wide w (r ∷ rows) → length r ≡ w
wide-first w r rows h = eqb→eq (length r) w (all_first (λ r. eqb (length r) w) r rows h)

pub wide-rest : (w : ℕ) (r : Row) (rows : Rows) → Wide w (r ∷ rows) → Wide w rows
wide-rest w r rows h = all_rest (λ r. eqb (length r) w) r rows h

pub wide-cons : (w : ℕ) (r : Row) (rows : Rows) → length r ≡ w → Wide w rows → Wide w (r ∷ rows)
wide-cons w r rows e h = all_cons (λ r. eqb (length r) w) r rows (eq→eqb e) h

pub wide-cut : (w k : ℕ) (ws : Words) → k * w ≤ length ws → Wide w (cut w k ws)
unfolding cut
wide-cut w zero ws h = tt
wide-cut w (suc k) ws h =
    wide-cons w (take w ws) (cut w k (drop w ws)) (length-take-le w ws (omega (arith, suc-mul k w)))
    (wide-cut w k (drop w ws) (simp length-drop (omega (arith, suc-mul k w))))

pub length-flat : (w : ℕ) (rows : Rows) → Wide w rows → length (flat rows) ≡ length rows * w
length-flat w [] h = sym (zero-mul w)
length-flat w (r ∷ rows) h =
    length-append r (flat rows) ∙ ap₂ ◌+◌ (wide-first w r rows h) (length-flat w rows (wide-rest w r rows h)) ∙ omega (arith, suc-mul (length rows) w)

-- rows of one width, laid end to end and cut again
pub cut-flat : (w : ℕ) (rows : Rows) (rest : Words) → Wide w rows → cut w (length rows) (flat rows ++ rest) ≡ rows
unfolding cut
cut-flat w [] rest h = refl
cut-flat w (r ∷ rows) rest h =
    rw (append_assoc r (flat rows) rest, take_at r (flat rows ++ rest) w (wide-first w r rows h), drop_at r (flat rows ++ rest) w (wide-first w r rows h))
    (ap (λ (l : Rows). r ∷ l) (cut-flat w rows rest (wide-rest w r rows h)))

-- words cut into rows and laid end to end again
pub flat-cut : (w k : ℕ) (ws : Words) → flat (cut w k ws) ≡ take (k * w) ws
unfolding cut
flat-cut w zero ws = rw (zero-mul w)
flat-cut w (suc k) ws =
    let m : suc k * w ≡ w + k * w = omega (arith, suc-mul k w) in
    rw (m, take-add w (k * w) ws) (ap (λ (l : Words). take w ws ++ l) (flat-cut w k (drop w ws)))
