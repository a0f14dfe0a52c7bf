-- The rows of a part cleared from one on; and that rows which were put behind its rows are taken back so.
-- Assumes nothing.
use Prim.Native.Nat.{ℕ, ◌+◌, ◌-◌, ◌*◌, ◌≤◌}
use mathlib.Core.Path.{◌≡◌, sym, ap, ap₂, ◌∙◌}
use mathlib.Core.List.{◌++◌, append_assoc}
use native.Mathlib.Nat.{mul-le-mul_right}
use native.Mathlib.Omega.{arith}
use lib.ListN.{length, take, drop, replicate, length-drop}
use lib.Seq.{take_at, take-take, take-add, length-take-le}
use borrow.Rule.Slice.PartMut.{put_mid}
use Rattle.lists.specs.Lists.{Words, flat}
use Rattle.lists.specs.Parts.{part, splice}
use Rattle.lists.proofs.Parts.{put_back}
use Rattle.lists.proofs.Places.{flat_append}
use Rattle.rows.specs.Rows.{Rows}
use Rattle.rows.specs.Regions.{laid}
use Rattle.rows.proofs.Cut.{length-flat}
use Rattle.store.specs.declared.Part.{Part}
use Rattle.store.specs.Parts.{size_of, stop_of, words_in, Within}
use Rattle.list_part.specs.Loose.{rows_cleared, Behind}
use Rattle.list_part.proofs.Rewrites.{anew-twice, behind-long, behind-words}

-- the rows from one on, filled with zeros
pub cleared-is : (p : Part) (old : Words) → Within p old → (k : ℕ) → k ≤ p.room → {e : ℕ} → e ≡ stop_of p → (x : Words)
    → x ≡ replicate (length (take (e - (p.start + k * p.columns)) (drop (p.start + k * p.columns) old))) 0
    → put_mid (p.start + k * p.columns) (e - (p.start + k * p.columns)) old x ≡ rows_cleared p old k
unfolding splice words_in part
cleared-is p old win k l end x is =
    let from = p.start + k * p.columns in
    let few : k * p.columns ≤ size_of p = mul-le-mul_right p.columns l in
    let rest = drop (stop_of p) old in
    let n : stop_of p - from ≡ size_of p - k * p.columns = omega arith in
    let size : stop_of p - p.start ≡ size_of p = omega arith in
    let front : take from old ≡ take p.start old ++ take (k * p.columns) (take (stop_of p - p.start) (drop p.start old)) =
    take-add p.start (k * p.columns) old
    ∙ ap (λ (l : Words). take p.start old ++ l) (sym (take-take (k * p.columns) (stop_of p - p.start) (drop p.start old) (omega arith))) in
    rw end
    (put_back old from (stop_of p) x (replicate (size_of p - k * p.columns) 0) (omega arith)
    ((rw end at is) ∙ ap (λ (n : ℕ). replicate n 0) (length-take-le (stop_of p - from) (drop from old) (omega (arith, win.ends, length-drop from old)) ∙ n)))
    ∙ ap (λ (l : Words). l ++ (replicate (size_of p - k * p.columns) 0 ++ rest)) front
    ∙ append_assoc (take p.start old) (take (k * p.columns) (take (stop_of p - p.start) (drop p.start old))) (replicate (size_of p - k * p.columns) 0 ++ rest)
    ∙ ap (λ (l : Words). take p.start old ++ l)
    (sym (append_assoc (take (k * p.columns) (take (stop_of p - p.start) (drop p.start old))) (replicate (size_of p - k * p.columns) 0) rest))

-- rows that were put behind those of a part are taken back by clearing
pub behind-back : (p : Part) (old : Words) → Within p old → (rows more : Rows) (ws : Words) → Behind p old rows old → Behind p old (rows ++ more) ws
    → rows_cleared p ws (length rows) ≡ old
unfolding laid
behind-back p old win rows more ws stand be =
    let w = p.columns in
    let size = size_of p in
    let zeros : Words = replicate (size - length (flat (rows ++ more))) 0 in
    let n : length (flat rows) ≡ length rows * w = length-flat w rows stand.wide in
    let whole : laid size (rows ++ more) ≡ flat rows ++ (flat more ++ zeros) =
    ap (λ (l : Words). l ++ zeros) (flat_append rows more) ∙ append_assoc (flat rows) (flat more) zeros in
    let front : take (length rows * w) (words_in p ws) ≡ flat rows =
    ap (take (length rows * w)) (behind-words p old win (rows ++ more) ws be ∙ whole) ∙ take_at (flat rows) (flat more ++ zeros) (length rows * w) n in
    let is : take (length rows * w) (words_in p ws) ++ replicate (size - length rows * w) 0 ≡ laid size rows = rw (front, n) in
    ap₂ (λ (s x : Words). splice s p.start (stop_of p) x) be.words is
    ∙ anew-twice p old win (laid size (rows ++ more)) (behind-long p old win (rows ++ more) ws be) (laid size rows) ∙ sym stand.words
