-- The numbers of a table's rows in key order: where they stand, that each is one of the table's, and that their rows' keys rise.
-- Assumes nothing.
use Prim.Native.Nat.{ℕ, zero, suc, ◌*◌, ◌<◌}
use mathlib.Core.Path.{◌≡◌, refl, sym, ap, ◌∙◌}
use mathlib.Core.List.{List, [], ◌∷◌}
use native.Mathlib.Nat.{not-suc-le-zero, le_of_suc-le-suc}
use native.Mathlib.Omega.{arith}
use lib.ListN.{length, get_or, length-map}
use Rattle.lists.specs.Lists.{Words, at, up_to}
use Rattle.lists.specs.Totals.{total, Same}
use Rattle.rows.specs.Rows.{Rows, key}
use Rattle.rows.proofs.Cut.{cut_at}
use Rattle.rows.proofs.Search.{row-key}
use Rattle.key_order.proofs.Keys.{climbs, ordered-number}
use Rattle.meaning.specs.Sheet.{width, sheet_of, table_count}
use Rattle.meaning.specs.Base.{rows_of}
use Rattle.sheet.proofs.Words.{n-is}
use Rattle.filling.specs.Runs.{table_words}
use Rattle.filling.specs.Qualifies.{numbered}
use Rattle.filling.proofs.Runs.{words_long, rows_are}
use Rattle.filling.proofs.Sides.{KeysUp}
use Rattle.base_run.specs.Bases.{tables_of, numbers_of}
use Rattle.base_run.proofs.Lends.{width_some, numbers-many}
use Rattle.base_run.proofs.Tests.{rows-count}
use Rattle.base_qualified.proofs.Bases.{Based}

numbered-at : (rows : Rows) (order : List ℕ) (i : ℕ) → i < length order → get_or (numbered rows order) i [] ≡ get_or rows (at order i) []
unfolding numbered
numbered-at rows [] i h = absurd (not-suc-le-zero h)
numbered-at rows (x ∷ order) zero h = refl
numbered-at rows (x ∷ order) (suc i) h = numbered-at rows order i (le_of_suc-le-suc h)

numbered-long : (rows : Rows) (order : List ℕ) → length (numbered rows order) ≡ length order
unfolding numbered
numbered-long rows order = length-map order (λ i. get_or rows i [])

module _ {ws run : Words} {starts order : List ℕ} (b : Based ws run starts order) {t : ℕ} (l : t < table_count ws) where
  inside : t < (sheet_of ws).n
  inside = omega (arith, n-is ws)

  pub order-long : length (numbers_of run order t) ≡ at run t
  order-long = numbers-many b.laid l order b.orders.long

  -- all of the table's
  pub order_same : Same (numbers_of run order t) (up_to (length (rows_of (tables_of ws run) t)))
  order_same f = (b.orders.ordered t l).same f ∙ ap (λ (k : ℕ). total f (up_to k)) (order-long ∙ sym (rows-count b.laid t l))

  order_row : (j : ℕ) → j < at run t → at (numbers_of run order t) j < at run t
  order_row j h =
      omega (
        arith,
        order-long,
        ordered-number (table_words (sheet_of ws) run t) (width (sheet_of ws) t) (numbers_of run order t) (width_some b.laid l)
            (rw order-long (omega (arith, words_long (sheet_of ws) run b.laid.counted t inside))) (b.orders.ordered t l) j (omega (arith, order-long)),
      )

  -- one of them, as it is lent
  module _ {ns : List ℕ} (is : ns ≡ numbers_of run order t) {j : ℕ} (h : j < length ns) {i : ℕ} (e : i ≡ at ns j) where
    pub number_turn : j < at run t
    number_turn = omega (arith, ap length is, order-long)

    pub number_is : i ≡ at (numbers_of run order t) j
    number_is = rw is at e

    pub number_in : i < at run t
    number_in = omega (arith, number_is, order_row j number_turn)

  -- in the order of their keys
  key_of : (i : ℕ) → i < at run t → key (get_or (rows_of (tables_of ws run) t) i []) ≡ at (table_words (sheet_of ws) run t) (i * width (sheet_of ws) t)
  unfolding tables_of
  key_of i h =
      let w = width (sheet_of ws) t in
      let words = table_words (sheet_of ws) run t in
      ap (λ (rows : Rows). key (get_or rows i [])) (rows_are (sheet_of ws) run b.laid.counted t inside)
      ∙ ap key (cut_at w (at run t) words i h)
      ∙ row-key w i words (width_some b.laid l)

  pub order-up : KeysUp (numbered (rows_of (tables_of ws run) t) (numbers_of run order t))
  order-up i j h k =
      let rows = rows_of (tables_of ws run) t in
      let o = numbers_of run order t in
      let long : j < at run t = omega (arith, numbered-long rows o, order-long) in
      let words = table_words (sheet_of ws) run t in
      let w = width (sheet_of ws) t in
      let first : key (get_or (numbered rows o) i []) ≡ at words (at o i * w) =
      ap key (numbered-at rows o i (omega (arith, order-long))) ∙ key_of (at o i) (order_row i (omega arith)) in
      let next : key (get_or (numbered rows o) j []) ≡ at words (at o j * w) =
      ap key (numbered-at rows o j (omega (arith, order-long))) ∙ key_of (at o j) (order_row j long) in
      omega (arith, climbs words w o (b.orders.ordered t l).up i j (omega arith) (omega (arith, order-long)))
