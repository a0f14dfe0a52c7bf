-- A side table is written in the order of its keys: the rows that come out rise, and they are the side table.
-- Assumes nothing.
use Prim.Native.Nat.{ℕ, suc, ◌+◌, ◌<◌, ◌≤◌}
use mathlib.Core.Path.{◌≡◌, refl, sym, ap, ap₂, ◌∙◌, subst}
use mathlib.Core.Bool.{Bool, true, false, cond, ◌&&◌}
use mathlib.Core.List.{List, [], ◌∷◌, ◌++◌, map, append-nil}
use native.Mathlib.Numerals.{add-one}
use native.Mathlib.Omega.{arith}
use lib.Dec.{T, ltb, lt→ltb}
use lib.ListN.{length, get_or, take, length-map}
use lib.Seq.{take-suc, take_all}
use Rattle.lists.specs.Lists.{at, Mem, all, select, up_to}
use Rattle.lists.specs.Totals.{total, Same}
use Rattle.lists.proofs.Truth.{all-get, all-make, mem-select, and-fst, and-snd, and_both}
use Rattle.lists.proofs.Totals.{same_map, same_select, same_length}
use Rattle.lists.proofs.Places.{map-get_or}
use Rattle.rows.specs.Rows.{Row, Rows, key, pick, rising, sorted, has_key, no_key_twice}
use Rattle.rows.specs.Regions.{keys_rise}
use Rattle.rows.proofs.Sorted.{same-rising, rising-sorted, same-sorted}
use Rattle.rows.proofs.Keys.{keys-rise}
use Rattle.rows.proofs.Ranks.{mem-at}
use Rattle.meaning.specs.Sheet.{Sheet}
use Rattle.meaning.specs.Plan.{kept, shown}
use Rattle.meaning.specs.Base.{Tables, rows_of}
use Rattle.meaning.specs.Meaning.{side_table}
use Rattle.laws.specs.Sheets.{Good}
use Rattle.laws.proofs.Lists.{select-append, map-append}
use Rattle.laws.proofs.Columns.{key-pick}
use Rattle.laws.proofs.Keys.{once-first, once-rest, once-same, key-mem}
use Rattle.laws.proofs.Qualified.{side-kept}
use Rattle.sheet.specs.Counted.{counted}
use Rattle.sheet.proofs.Numbers.{length_up}
use Rattle.filling.specs.Runs.{row_no}
use Rattle.filling.specs.Qualifies.{passing, numbered, side_rows}
use Rattle.filling.proofs.Qualifies.{qualified-pass, passing-rows}

-- the key of no row is after that of a later one
abbrev pub KeysUp : Rows → Type 0
KeysUp rows = (i j : ℕ) → i < j → j < length rows → key (get_or rows i []) ≤ key (get_or rows j [])

-- Keys that rise: from such rows, through a selection, through a map that keeps the keys
pub keys-up : (rows : Rows) → KeysUp rows → T (no_key_twice rows) → T (keys_rise rows)
unfolding keys_rise
keys-up [] h o = tt
keys-up (r ∷ rows) h o =
    and_both (all (λ s. ltb (key r) (key s)) rows) (keys_rise rows) (all-make (λ s. ltb (key r) (key s)) rows (λ s m. lt→ltb (key r) (key s) (before s m)))
    (keys-up rows (λ i j l m. h (suc i) (suc j) (omega arith) (omega arith)) (once-rest r rows o))
  where
    before : (s : Row) → Mem s rows → key r < key s
    before s m =
        let i = mem-at [] s rows m in
        let le : key r ≤ key (get_or rows i.0 []) = h 0 (suc i.0) (omega arith) (omega (arith, i.1)) in
        let same : key (get_or rows i.0 []) ≡ key s = ap key i.2 in
        let new : key r ≡ key s → ⊥ = λ q. once-first r rows o (subst (λ (k : ℕ). T (has_key k rows)) (sym q) (key-mem s rows m)) in
        omega arith

keys-select : (p : Row → Bool) (rows : Rows) → T (keys_rise rows) → T (keys_rise (select p rows))
unfolding keys_rise
keys-select p [] h = tt
keys-select p (r ∷ rows) h =
    go (p r) (keys-select p rows (and-snd (all (λ s. ltb (key r) (key s)) rows) (keys_rise rows) h))
  where
    less : T (all (λ s. ltb (key r) (key s)) rows)
    less = and-fst (all (λ s. ltb (key r) (key s)) rows) (keys_rise rows) h

    go : (b : Bool) → T (keys_rise (select p rows)) → T (keys_rise (cond b (r ∷ select p rows) (select p rows)))
    go true ih =
        and_both (all (λ s. ltb (key r) (key s)) (select p rows)) (keys_rise (select p rows))
        (all-make (λ s. ltb (key r) (key s)) (select p rows) (λ s m. all-get (λ s. ltb (key r) (key s)) rows less s (mem-select p rows s m).0)) ih
    go false ih = ih

keys-map : (f : Row → Row) → ((r : Row) → key (f r) ≡ key r) → (rows : Rows) → keys_rise (map f rows) ≡ keys_rise rows
unfolding keys_rise
keys-map f h [] = refl
keys-map f h (r ∷ rows) = ap₂ ◌&&◌ (each rows) (keys-map f h rows)
  where
    each : (rows : Rows) → all (λ s. ltb (key (f r)) (key s)) (map f rows) ≡ all (λ s. ltb (key r) (key s)) rows
    each [] = refl
    each (s ∷ rows) = ap₂ ◌&&◌ (ap₂ ltb (h r) (h s)) (each rows)

-- rows that rise are those that they are, sorted
rising-is : (xs ys : Rows) → T (rising xs) → Same xs ys → xs ≡ sorted ys
rising-is xs ys u h = same-rising xs (sorted ys) u (rising-sorted ys) (λ f. h f ∙ sym (same-sorted ys f))

-- All numbers of a table's rows
numbered-all : (rows : Rows) → numbered rows (up_to (length rows)) ≡ rows
unfolding numbered
numbered-all rows = rw (append-nil rows) at (map-get_or [] rows [])

pub numbered-same : (rows : Rows) (order : List ℕ) → Same order (up_to (length rows)) → Same (numbered rows order) rows
unfolding numbered
numbered-same rows order h f = same_map (λ i. get_or rows i []) order (up_to (length rows)) h f ∙ ap (total f) (numbered-all rows)

-- The side rows one after the other, for a loop over the numbers in order
module _ (s : Sheet) (base : Tables) (t : ℕ) (order : List ℕ) where
  pub side-none : side_rows s base t (take 0 order) ≡ []
  unfolding side_rows numbered
  side-none = refl

  module _ (j : ℕ) (l : j < length order) where
    next : side_rows s base t (take (j + 1) order)
        ≡ side_rows s base t (take j order) ++ map (pick (shown s t)) (select (passing s base false s.n t) (row_no base t (at order j) ∷ []))
    unfolding side_rows numbered row_no
    next =
        let row : ℕ → Row = (λ i. get_or (rows_of base t) i []) in
        let p = passing s base false s.n t in
        ap (λ (k : ℕ). map (pick (shown s t)) (select p (map row (take k order)))) (add-one j)
        ∙ ap (λ (o : List ℕ). map (pick (shown s t)) (select p (map row o))) (take-suc order j 0 l)
        ∙ ap (λ (rows : Rows). map (pick (shown s t)) (select p rows)) (map-append row (take j order) (at order j ∷ []))
        ∙ ap (map (pick (shown s t))) (select-append p (map row (take j order)) (row (at order j) ∷ []))
        ∙ map-append (pick (shown s t)) (select p (map row (take j order))) (select p (row (at order j) ∷ []))

    pub side-hit : passing s base false s.n t (row_no base t (at order j)) ≡ true
        → side_rows s base t (take (j + 1) order) ≡ side_rows s base t (take j order) ++ (pick (shown s t) (row_no base t (at order j)) ∷ [])
    side-hit e = next ∙ ap (λ b. side_rows s base t (take j order) ++ map (pick (shown s t)) (cond b (row_no base t (at order j) ∷ []) [])) e

    pub side-miss : passing s base false s.n t (row_no base t (at order j)) ≡ false
        → side_rows s base t (take (j + 1) order) ≡ side_rows s base t (take j order)
    side-miss e =
        next ∙ ap (λ b. side_rows s base t (take j order) ++ map (pick (shown s t)) (cond b (row_no base t (at order j) ∷ []) [])) e
        ∙ append-nil (side_rows s base t (take j order))

-- how many rows of a table are selected
pub select-count : (p : Row → Bool) (base : Tables) (t : ℕ) → length (select p (rows_of base t)) ≡ counted (λ i. p (row_no base t i)) (length (rows_of base t))
unfolding row_no
select-count p base t =
    ap (λ (rows : Rows). length (select p rows)) (sym (numbered-rows (rows_of base t)))
    ∙ length_up p (λ i. get_or (rows_of base t) i []) (length (rows_of base t))
  where
    numbered-rows : (rows : Rows) → map (λ i. get_or rows i []) (up_to (length rows)) ≡ rows
    numbered-rows rows = unfold numbered in numbered-all rows

-- In the end they are the side table
module _ (s : Sheet) (g : Good s) (base : Tables) (t : ℕ) (inside : t < s.n) (is : T (kept s t)) where
  rows : Rows
  rows = rows_of base t

  pub side-is : side_table s base t ≡ sorted (map (pick (shown s t)) (select (passing s base false s.n t) (rows_of base t)))
  side-is =
      side-kept s base t is
      ∙ ap (λ (rows : Rows). sorted (map (pick (shown s t)) rows)) (qualified-pass s base s.n t ∙ passing-rows s base false s.n t)

  pub side-all : (order : List ℕ) (j : ℕ) → Same order (up_to (length (rows_of base t))) → KeysUp (numbered (rows_of base t) order)
      → T (no_key_twice (rows_of base t)) → length order ≤ j → side_rows s base t (take j order) ≡ side_table s base t
  unfolding side_rows
  side-all order j same up once l =
      let some = numbered (rows_of base t) order in
      let p = passing s base false s.n t in
      let cols = pick (shown s t) in
      let perm = numbered-same (rows_of base t) order same in
      let k : T (keys_rise some) = keys-up some up (once-same (rows_of base t) some (λ f. sym (perm f)) once) in
      let m : T (keys_rise (map cols (select p some))) = subst T (sym (keys-map cols (key-pick s g t inside) (select p some))) (keys-select p some k) in
      let both : T (rising (map cols (select p some)) && no_key_twice (map cols (select p some))) = subst T (keys-rise (map cols (select p some))) m in
      ap (λ (o : List ℕ). map cols (select p (numbered (rows_of base t) o))) (take_all j order l)
      ∙ rising-is (map cols (select p some)) (map cols (select p (rows_of base t)))
      (and-fst (rising (map cols (select p some))) (no_key_twice (map cols (select p some))) both)
      (same_map cols (select p some) (select p (rows_of base t)) (same_select p some (rows_of base t) perm))
      ∙ sym side-is

  -- and as many as the qualified rows
  pub side-count : length (side_table s base t) ≡ counted (λ i. passing s base false s.n t (row_no base t i)) (length (rows_of base t))
  side-count =
      let p = passing s base false s.n t in
      let cols = pick (shown s t) in
      ap length side-is
      ∙ same_length (sorted (map cols (select p (rows_of base t)))) (map cols (select p (rows_of base t))) (same-sorted (map cols (select p (rows_of base t))))
      ∙ length-map (select p (rows_of base t)) cols
      ∙ select-count p base t
