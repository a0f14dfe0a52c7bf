-- Moves of words within a run: a turn of each loop that writes, and the moves put together.
-- Assumes nothing.
use Prim.Native.Nat.{ℕ, ◌+◌, ◌-◌, ◌*◌, ◌<◌, ◌≤◌}
use mathlib.Core.Path.{◌≡◌}
use mathlib.Core.List.{◌++◌, append_assoc}
use native.Mathlib.Numerals.{add-one}
use native.Mathlib.Omega.{arith}
use lib.ListN.{length, take, drop, set, length-append, length-take, length-drop}
use lib.Seq.{paste, length-take-le, paste-zero, paste-suc}
use lib.Seq.{drop-drop, take-append-le, take-take}
use lib.Seq.{take_at, drop_at, take_all}
use Rattle.lists.specs.Lists.{Words, at}
use Rattle.rows.specs.Rows.{Row}
use Rattle.rows.specs.Words.{raised, lowered, written, put_words, shut_words}

-- What std's move of words within a run leaves: up, and down
pub raised-is : (s : Words) (k t w : ℕ) → k ≤ t → paste s (k + w) (drop k s) (t - k) ≡ raised s k t w
unfolding raised
raised-is s k t w h = let end : k + w + (t - k) ≡ t + w = omega arith in rw (end, append_assoc)

pub lowered-is : (s : Words) (t f n m : ℕ) → m ≡ n → paste s t (drop f s) m ≡ lowered s t f n
unfolding lowered
lowered-is s t f n m e = rw (e, append_assoc)

-- Over
pub written_start : (s : Words) (k : ℕ) (v : Words) → s ≡ written s k v 0
unfolding written
written_start s k v = paste-zero s k v

pub written_step : (s x : Words) (k : ℕ) (v : Words) (j : ℕ) → k + j < length s → j < length v → x ≡ written s k v j
    → set x (k + j) (at v j) ≡ written s k v (j + 1)
unfolding written
written_step s x k v j h l inv = rw (inv, add-one j) (paste-suc s k v j 0 h l)

-- A row put in: the rows above up, then the row over the gap
pub put_is : (w n i : ℕ) (r : Row) (s y z : Words) → i * w ≤ n * w → n * w + w ≤ length s → length r ≡ w
    → y ≡ raised s (i * w) (n * w) w → z ≡ written y (i * w) r (length r) → z ≡ put_words w n i r s
unfolding raised written put_words
put_is w n i r s y z le fits len ey ez =
    let f = i * w in
    let head : Words = take (f + w) s in
    let rest : Words = take (n * w - f) (drop f s) ++ drop (n * w + w) s in
    let hl : length head ≡ f + w = length-take-le (f + w) s (omega arith) in
    let a : take f y ≡ take f s = rw (ey, take-append-le f head rest (omega arith), take-take f (f + w) s (omega arith)) in
    let b : drop (f + w) y ≡ rest = rw (ey, drop_at head rest (f + w) hl) in
    rw (ez, len, a, b, take_all w r (omega arith), append_assoc)

-- A row taken out: the rows above down, then v over the last
pub shut-is : (w n i : ℕ) (v s y z : Words) → i * w + w ≤ n * w → n * w ≤ length s → length v ≡ w
    → y ≡ lowered s (i * w) (i * w + w) (n * w - (i * w + w)) → z ≡ written y (n * w - w) v w → z ≡ shut_words w n i v s
unfolding lowered written shut_words
shut-is w n i v s y z le fits len ey ez =
    let f = i * w in
    let t = n * w - w in
    let m = n * w - (f + w) in
    let head : Words = take f s ++ take m (drop (f + w) s) in
    let hl : length head ≡ t = simp (length-append, length-take, length-drop) (omega arith) in
    let ft : f + m ≡ t = omega arith in
    let e : y ≡ head ++ drop t s = rw (ey, ft, append_assoc) in
    let a : take t y ≡ head = rw (e, take_at head (drop t s) t hl) in
    let k : t + w ≡ n * w = omega arith in
    let b : drop (t + w) y ≡ drop (n * w) s = rw (← drop-drop w t y, e, drop_at head (drop t s) t hl, drop-drop w t s, k) in
    rw (ez, a, b, take_all w v (omega arith)) (simp append_assoc)
