-- A side table's rows as they are written: a row column by column, and each row behind those before it.
-- Assumes nothing.
use Prim.Native.Nat.{ℕ, zero, suc, ◌+◌, ◌*◌, ◌<◌, ◌≤◌}
use mathlib.Core.Path.{◌≡◌, refl, sym, ap, ap₂, ◌∙◌, subst}
use mathlib.Core.Bool.{true, false}
use mathlib.Core.List.{List, [], ◌∷◌, ◌++◌, map}
use native.Mathlib.Nat.{not-suc-le-zero, le_of_suc-le-suc, mul-le-mul_right}
use native.Mathlib.Omega.{arith}
use lib.Dec.{T}
use lib.ListN.{length, get_or, take, drop, set, length-map, length-append, take-append-drop}
use lib.Seq.{take_all}
use Rattle.lists.specs.Lists.{Words, at, select}
use Rattle.lists.proofs.Truth.{mem-get_or}
use Rattle.rows.specs.Rows.{Row, Rows, Wide, pick}
use Rattle.rows.specs.Words.{written}
use Rattle.rows.specs.Regions.{laid}
use Rattle.rows.proofs.Cut.{wide-cons}
use Rattle.rows.proofs.Moves.{written_step}
use Rattle.meaning.specs.Sheet.{Sheet, width, sheet_of, table_count}
use Rattle.meaning.specs.Plan.{kept, shown}
use Rattle.meaning.specs.Base.{Tables, rows_of}
use Rattle.meaning.specs.Meaning.{qualified_in}
use Rattle.laws.proofs.Lists.{select-append, map-append}
use Rattle.laws.proofs.Columns.{shown-below}
use Rattle.laws.proofs.Keys.{wide-sorted}
use Rattle.laws.proofs.Qualified.{side-kept}
use Rattle.sheet.proofs.Words.{n-is}
use Rattle.filling.specs.Runs.{row_no}
use Rattle.filling.specs.Qualifies.{passing, numbered, side_rows}
use Rattle.places.proofs.Laid.{laid_none, laid_more}
use Rattle.filling.proofs.Sides.{side-none, side-hit, side-miss, side-all}
use Rattle.base_run.specs.Bases.{tables_of, numbers_of}
use Rattle.base_run.proofs.Steps.{good_of}
use Rattle.base_qualified.specs.Qualifying.{passes_no}
use Rattle.base_qualified.proofs.Bases.{Based}
use Rattle.fill_sides.specs.Sides.{side_of, rows_to, PartReady, Front}
use Rattle.fill_sides.proofs.Numbers.{order-long, order_same, order-up}
use Rattle.fill_sides.proofs.Counts.{passes-all}

-- row i of table t as the side table shows it
unfoldable pub side_row_no : Words → Words → ℕ → ℕ → Row
side_row_no ws run t i = pick (shown (sheet_of ws) t) (row_no (tables_of ws run) t i)

-- One row: its columns are the table's, and each is written at its place
pub column-in : (s : Sheet) (t : ℕ) (columns : List ℕ) (k : ℕ) → columns ≡ shown s t → k < length columns → at columns k < width s t
column-in s t columns k e h = shown-below s t (at columns k) (rw (← e) (mem-get_or 0 columns k h))

picked : (columns : List ℕ) (r : Row) (k : ℕ) → k < length columns → at (pick columns r) k ≡ at r (at columns k)
picked [] r k h = absurd (not-suc-le-zero h)
picked (x ∷ columns) r zero h = refl
picked (x ∷ columns) r (suc k) h = picked columns r k (le_of_suc-le-suc h)

pub column-more : (s x : Words) (place : ℕ) (columns : List ℕ) (row : Row) (k : ℕ) → place + length columns ≤ length s → k < length columns
    → x ≡ written s place (pick columns row) k → set x (place + k) (at row (at columns k)) ≡ written s place (pick columns row) (k + 1)
column-more s x place columns row k fits m inv =
    ap (λ (v : ℕ). set x (place + k) v) (sym (picked columns row k m))
    ∙ written_step s x place (pick columns row) k (omega arith) (omega (arith, length-map columns (at row))) inv

-- Rows of the same columns
wide-picks : (columns : List ℕ) (rows : Rows) → Wide (length columns) (map (pick columns) rows)
wide-picks columns [] = tt
wide-picks columns (r ∷ rows) = wide-cons (length columns) (pick columns r) (map (pick columns) rows) (length-map columns (at r)) (wide-picks columns rows)

pub wide-side : (ws run : Words) (t : ℕ) → T (kept (sheet_of ws) t) → Wide (length (shown (sheet_of ws) t)) (side_of ws run t)
unfolding side_of
wide-side ws run t is =
    let cols = shown (sheet_of ws) t in
    let rows = qualified_in (sheet_of ws) (tables_of ws run) (sheet_of ws).n t in
    rw (side-kept (sheet_of ws) (tables_of ws run) t is) (wide-sorted (length cols) (map (pick cols) rows) (wide-picks cols rows))

-- the first rows in key order give no more than all
side-append : (s : Sheet) (base : Tables) (t : ℕ) (xs ys : List ℕ) → side_rows s base t (xs ++ ys) ≡ side_rows s base t xs ++ side_rows s base t ys
unfolding side_rows numbered
side-append s base t xs ys =
    let row : ℕ → Row = (λ i. get_or (rows_of base t) i []) in
    let p = passing s base false s.n t in
    ap (λ (rows : Rows). map (pick (shown s t)) (select p rows)) (map-append row xs ys)
    ∙ ap (map (pick (shown s t))) (select-append p (map row xs) (map row ys))
    ∙ map-append (pick (shown s t)) (select p (map row xs)) (select p (map row ys))

side-front : (s : Sheet) (base : Tables) (t : ℕ) (order : List ℕ) (j : ℕ) → length (side_rows s base t (take j order)) ≤ length (side_rows s base t order)
side-front s base t order j =
    let front = side_rows s base t (take j order) in
    let rest = side_rows s base t (drop j order) in
    let whole : length (side_rows s base t order) ≡ length front + length rest =
    ap (λ (o : List ℕ). length (side_rows s base t o)) (sym (take-append-drop j order)) ∙ ap length (side-append s base t (take j order) (drop j order))
    ∙ length-append front rest in
    omega arith

module _ {ws run : Words} {starts order : List ℕ} (b : Based ws run starts order) {t : ℕ} {columns : List ℕ} {part₀ : Words}
    (a : PartReady ws run t columns part₀) where
  inside : t < (sheet_of ws).n
  inside = omega (arith, a.table, n-is ws)

  long : length (numbers_of run order t) ≡ at run t
  long = order-long b a.table

  rows_all : (j : ℕ) → at run t ≤ j → rows_to ws run order t j ≡ side_of ws run t
  unfolding rows_to side_of
  rows_all j h =
      let l = a.table in
      side-all (sheet_of ws) (good_of ws b.laid.good) (tables_of ws run) t inside a.is-kept (numbers_of run order t) j
      (order_same b l) (order-up b l) (b.once t l) (omega (arith, long))

  rows_few : (j : ℕ) → length (rows_to ws run order t j) ≤ length (side_of ws run t)
  unfolding rows_to
  rows_few j =
      let o = numbers_of run order t in
      omega (
        arith,
        side-front (sheet_of ws) (tables_of ws run) t o j,
        ap length (rows_all (at run t) (omega arith)),
        ap (λ (o : List ℕ). length (side_rows (sheet_of ws) (tables_of ws run) t o)) (take_all (at run t) o (omega (arith, long))),
      )

  wide_rows : (j : ℕ) → Wide (length (shown (sheet_of ws) t)) (rows_to ws run order t j)
  unfolding rows_to side_rows
  wide_rows j =
      let rows = numbered (rows_of (tables_of ws run) t) (take j (numbers_of run order t)) in
      wide-picks (shown (sheet_of ws) t) (select (passing (sheet_of ws) (tables_of ws run) false (sheet_of ws).n t) rows)

  pub front-none : Front (rows_to ws run order t 0) (length part₀) 0 part₀
  unfolding rows_to
  front-none =
      let none = side-none (sheet_of ws) (tables_of ws run) t (numbers_of run order t) in
      record { many-are = rw none; words = rw none (a.zeros ∙ laid_none (length part₀)); long = refl }

  pub front-end : (many : ℕ) (part : Words) (j : ℕ) → at run t ≤ j → Front (rows_to ws run order t j) (length part₀) many part
      → Front (side_of ws run t) (length part₀) many part
  front-end many part j h f = subst (λ (rows : Rows). Front rows (length part₀) many part) (rows_all j h) f

  -- Row j in key order
  module _ (many : ℕ) (part : Words) (j i n : ℕ) (f : Front (rows_to ws run order t j) (length part₀) many part)
      (h : j < at run t) (number : i ≡ at (numbers_of run order t) j) (all : n ≡ table_count ws) where
    decides : passes_no ws run false n t i
        ≡ passing (sheet_of ws) (tables_of ws run) false (sheet_of ws).n t (row_no (tables_of ws run) t (at (numbers_of run order t) j))
    decides =
        passes-all ws run n t i all ∙ ap (λ (i : ℕ). passing (sheet_of ws) (tables_of ws run) false (sheet_of ws).n t (row_no (tables_of ws run) t i)) number

    pub front-miss : passes_no ws run false n t i ≡ false → Front (rows_to ws run order t (j + 1)) (length part₀) many part
    unfolding rows_to
    front-miss q =
        let same = side-miss (sheet_of ws) (tables_of ws run) t (numbers_of run order t) j (omega (arith, long)) (sym decides ∙ q) in
        subst (λ (rows : Rows). Front rows (length part₀) many part) (sym same) f

    module _ (q : passes_no ws run false n t i ≡ true) where
      more : rows_to ws run order t (j + 1) ≡ rows_to ws run order t j ++ (side_row_no ws run t i ∷ [])
      unfolding rows_to side_row_no
      more =
          let o = numbers_of run order t in
          side-hit (sheet_of ws) (tables_of ws run) t o j (omega (arith, long)) (sym decides ∙ q)
          ∙ ap (λ (i : ℕ). side_rows (sheet_of ws) (tables_of ws run) t (take j o) ++ (pick (shown (sheet_of ws) t) (row_no (tables_of ws run) t i) ∷ []))
          (sym number)

      more-long : length (rows_to ws run order t (j + 1)) ≡ many + 1
      more-long = ap length more ∙ length-append (rows_to ws run order t j) (side_row_no ws run t i ∷ []) ∙ omega (arith, f.many-are)

      pub front-room : many * length columns + length columns ≤ length part₀
      front-room =
          let less : many < length (side_of ws run t) = omega (arith, more-long, rows_few (j + 1)) in
          omega (arith, mul-le-mul_right (length columns) less, a.room)

      pub front-hit : {row : Row} → row ≡ row_no (tables_of ws run) t i → (after : Words) → length after ≡ length part
          → after ≡ written part (many * length columns) (pick columns row) (length columns)
          → Front (rows_to ws run order t (j + 1)) (length part₀) (many + 1) after
      unfolding side_row_no
      front-hit is after k v =
          let w : after ≡ written part (many * length columns) (side_row_no ws run t i) (length columns) =
          v ∙ ap₂ (λ (cs : List ℕ) (r : Row). written part (many * length columns) (pick cs r) (length columns)) a.columns-are is in
          let rows = rows_to ws run order t j in
          let r = side_row_no ws run t i in
          let same = ap length a.columns-are in
          let wide : Wide (length columns) rows = rw same (wide_rows j) in
          let r-wide = length-map (shown (sheet_of ws) t) (at (row_no (tables_of ws run) t i)) ∙ sym same in
          let now : after ≡ laid (length part₀) (rows ++ (r ∷ [])) =
          w ∙ rw (f.words, f.many-are) (laid_more (length columns) (length part₀) rows wide r r-wide (rw f.many-are at front-room)) in
          record {
            many-are = sym more-long;
            words = now ∙ ap (laid (length part₀)) (sym more);
            long = k ∙ f.long;
          }
