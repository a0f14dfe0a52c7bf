-- What the words of a sheet say, by number: its edges, conditions and listings are those of numbers 0, 1, .., and so its widths and rooms
-- where the words are as many as the counts say.
-- Assumes nothing.
use Prim.Native.Nat.{ℕ, zero, suc, ◌+◌, ◌*◌, ◌<◌}
use mathlib.Core.Path.{◌≡◌, refl, sym, ap, ap₂, ◌∙◌, subst, fun_ext}
use mathlib.Core.List.{List, ◌∷◌, ◌++◌, map, map-map}
use native.Mathlib.Nat.{zero-add}
use native.Mathlib.Numerals.{add-one}
use native.Mathlib.Omega.{arith}
use lib.ListN.{length, take, drop, length-take, length-drop, length-map}
use lib.Seq.{get_or-take, get_or-drop, ext_get_or}
use Rattle.lists.specs.Lists.{Words, at, Mem, up_to}
use Rattle.lists.proofs.Truth.{mem-map, mem-up_to}
use Rattle.lists.proofs.Places.{length_from, get_or-map-from}
use Rattle.rows.specs.Rows.{Row, Rows, cut}
use Rattle.rows.proofs.Cut.{cut-zero, cut-suc, cut-split}
use Rattle.meaning.specs.Sheet.{table_count, edge_count, condition_count, listed_count, edges_at, conditions_at, listed_at, rooms_at}
use Rattle.meaning.specs.Sheet.{sheet_of, edge_of, condition_of, listed_of, width, room}
use Rattle.sheet.specs.Numbered.{width_no, edge_no, condition_no, listing_no, room_no}
use Rattle.sheet.specs.Rules.{Counts}
use Rattle.sheet.proofs.Numbers.{up_more}

-- a run cut into rows: row i begins at word i * w
pub cut_up : (w k : ℕ) (ws : Words) → cut w k ws ≡ map (λ i. take w (drop (i * w) ws)) (up_to k)
cut_up w zero ws = cut-zero w ws
cut_up w (suc k) ws =
    ap (λ (m : ℕ). cut w m ws) (sym (add-one k)) ∙ cut-split w k 1 ws
    ∙ ap₂ ◌++◌ (cut_up w k ws) (cut-suc w 0 (drop (k * w) ws) ∙ ap (λ (l : Rows). take w (drop (k * w) ws) ∷ l) (cut-zero w _))
    ∙ sym (up_more (λ i. take w (drop (i * w) ws)) k)

-- word j of row i, in a run that begins at word a
word : (w i a j k : ℕ) (ws : Words) → j < w → a + (i * w + j) ≡ k → at (take w (drop (i * w) (drop a ws))) j ≡ at ws k
word w i a j k ws h e = rw (get_or-take, get_or-drop, get_or-drop, e)

-- records read from rows are records read by number
records : {A : Type 0} (f : Row → A) (g : ℕ → A) (w k a : ℕ) (ws : Words)
    → ((i : ℕ) → f (take w (drop (i * w) (drop a ws))) ≡ g i) → map f (cut w k (drop a ws)) ≡ map g (up_to k)
records f g w k a ws h =
    ap (map f) (cut_up w k (drop a ws)) ∙ map-map f (λ i. take w (drop (i * w) (drop a ws))) (up_to k) ∙ ap (λ h. map h (up_to k)) (fun_ext h)

-- a row of four words, and of two
four : {A : Type 0} (f : ℕ → ℕ → ℕ → ℕ → A) (i a : ℕ) (ws : Words) →
    let row = take 4 (drop (i * 4) (drop a ws)) in
    f (at row 0) (at row 1) (at row 2) (at row 3)
    ≡ f (at ws (a + 4 * i)) (at ws (a + 4 * i + 1)) (at ws (a + 4 * i + 2)) (at ws (a + 4 * i + 3))
four f i a ws =
    rw (
      word 4 i a 0 (a + 4 * i) ws (omega arith) (omega arith),
      word 4 i a 1 (a + 4 * i + 1) ws (omega arith) (omega arith),
      word 4 i a 2 (a + 4 * i + 2) ws (omega arith) (omega arith),
      word 4 i a 3 (a + 4 * i + 3) ws (omega arith) (omega arith),
    )

two : {A : Type 0} (f : ℕ → ℕ → A) (i a : ℕ) (ws : Words) →
    f (at (take 2 (drop (i * 2) (drop a ws))) 0) (at (take 2 (drop (i * 2) (drop a ws))) 1) ≡ f (at ws (a + 2 * i)) (at ws (a + 2 * i + 1))
two f i a ws = rw (word 2 i a 0 (a + 2 * i) ws (omega arith) (omega arith), word 2 i a 1 (a + 2 * i + 1) ws (omega arith) (omega arith))

pub edges_are : (ws : Words) → (sheet_of ws).edges ≡ map (edge_no ws) (up_to (edge_count ws))
unfolding sheet_of
edges_are ws =
    records edge_of (edge_no ws) 4 (edge_count ws) (edges_at ws) ws
    (λ i. four (λ c o p m. record { child = c; column = o; parent = p; promise = m }) i (edges_at ws) ws)

-- each edge is one of the sheet's
pub edge-there : (ws : Words) (k : ℕ) → k < edge_count ws → Mem (edge_no ws k) (sheet_of ws).edges
edge-there ws k l = subst (Mem (edge_no ws k)) (sym (edges_are ws)) (mem-map (edge_no ws) (up_to (edge_count ws)) k (mem-up_to (edge_count ws) k l))

pub conditions-are : (ws : Words) → (sheet_of ws).conditions ≡ map (condition_no ws) (up_to (condition_count ws))
unfolding sheet_of
conditions-are ws =
    records condition_of (condition_no ws) 4 (condition_count ws) (conditions_at ws) ws
    (λ i. four (λ t o l h. record { table = t; column = o; lowest = l; highest = h }) i (conditions_at ws) ws)

pub listed-are : (ws : Words) → (sheet_of ws).listed ≡ map (listing_no ws) (up_to (listed_count ws))
unfolding sheet_of
listed-are ws = records listed_of (listing_no ws) 2 (listed_count ws) (listed_at ws) ws (λ i. two (λ t o. record { table = t; column = o }) i (listed_at ws) ws)

pub n-is : (ws : Words) → (sheet_of ws).n ≡ table_count ws
unfolding sheet_of
n-is ws = refl

-- the words from a on, k of them
part_up : (ws : Words) (a k : ℕ) (l : List ℕ) → length l ≡ k → ((i : ℕ) → i < k → at l i ≡ at ws (a + i)) → l ≡ map (λ i. at ws (a + i)) (up_to k)
part_up ws a k l e h =
    ext_get_or 0 l (map (λ i. at ws (a + i)) (up_to k)) (e ∙ sym (length-map (up_to k) (λ i. at ws (a + i)) ∙ length_from 0 k))
    (λ i l. let m : i < k = omega arith in h i m ∙ sym (get_or-map-from (λ i. at ws (a + i)) 0 k 0 i m ∙ ap (λ (j : ℕ). at ws (a + j)) (zero-add i)))

module _ (ws : Words) (c : Counts ws) where
  pub widths-are : (sheet_of ws).widths ≡ map (width_no ws) (up_to (table_count ws))
  unfolding sheet_of
  widths-are =
      part_up ws 4 (table_count ws) (take (table_count ws) (drop 4 ws)) (simp (length-take, length-drop) (omega arith)) (λ i h. rw (get_or-take, get_or-drop))

  pub rooms-are : (sheet_of ws).rooms ≡ map (room_no ws) (up_to (table_count ws + 1))
  unfolding sheet_of
  rooms-are = part_up ws (rooms_at ws) (table_count ws + 1) (drop (rooms_at ws) ws) (simp length-drop (omega arith)) (λ i h. rw get_or-drop)

pub width_is : (ws : Words) (t : ℕ) → t < table_count ws → width (sheet_of ws) t ≡ width_no ws t
unfolding sheet_of
width_is ws t h = rw (get_or-take, get_or-drop)

pub room-is : (ws : Words) (t : ℕ) → room (sheet_of ws) t ≡ room_no ws t
unfolding sheet_of
room-is ws t = rw get_or-drop
