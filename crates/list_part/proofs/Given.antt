-- The marked rows of a run given one table's columns, one after the other; and how such a row then stands to what it was.
-- Assumes nothing.
use Prim.Native.Nat.{ℕ, suc, ◌+◌, ◌*◌, ◌<◌, ◌≤◌}
use mathlib.Core.Path.{◌≡◌, refl, sym, ap, ap₂, ◌∙◌}
use mathlib.Core.Bool.{Bool, true, false, cond, true≢false}
use mathlib.Core.List.{List, [], ◌∷◌, ◌++◌}
use native.Mathlib.Numerals.{add-one}
use native.Mathlib.Omega.{arith}
use lib.Dec.{T, eqb}
use lib.ListN.{length, get_or, take, drop, set, take-append-drop, drop_of_length-le}
use lib.Seq.{take_all, take-suc, take-suc-set, drop-cons}
use borrow.Author.Tests.{eq-eqb, ne_eqb}
use Rattle.lists.specs.Lists.{Words, at, flat}
use Rattle.std.specs.declared.cmp.Ordering.{Ordering}
use Rattle.std.specs.Ordering.{is_ne, nat_cmp, MatchOrdering}
use Rattle.std.specs.Cmp.{ranks}
use Rattle.std.specs.declared.cmp.Ordering.TheVariants.{Less, Equal, Greater}
use Rattle.rows.specs.Rows.{Row, Rows, Wide, cut, word_order, then_by, row_order, smaller}
use Rattle.rows.specs.Words.{row, written}
use Rattle.rows.specs.Marks.{altered, is_marked, Numbers}
use Rattle.rows.proofs.Ordered.{same→≡, word-less, word-greater, word-equal, less-smaller, greater-smaller, order-equal}
use Rattle.rows.proofs.Cut.{wide-first, wide-rest, wide-cons, cut_at, cut-length, row-length, row_at, row_fits, flat-cut}
use Rattle.rows.proofs.Regions.{cut-written, written_behind, written-long}
use Rattle.meaning.specs.Sheet.{Listed, sheet_of, listed_count}
use Rattle.meaning.specs.Change.{with_columns}
use Rattle.laws.proofs.Lists.{at-up_to}
use Rattle.sheet.specs.Numbered.{listing_no}
use Rattle.sheet.specs.Read.{ReadsListing}
use Rattle.sheet.specs.declared.reading.Listing.{Listing}
use Rattle.sheet.proofs.Words.{listed-are}
use Rattle.list_part.specs.Gives.{gives, shows, given, row_with, row_given, turn_of}
use Rattle.list_part.proofs.Words.{gives-length, gives-own, gives_other, listed-many}
use Rattle.list_part.proofs.Altering.{altered-at, altered-none, one_more, next-marked, next-free}

-- altered rows are as wide
pub wide-altered : (w : ℕ) (mark : ℕ → Bool) (f : Row → Row) (rows : Rows) → ((r : Row) → length r ≡ w → length (f r) ≡ w) → Wide w rows
    → Wide w (altered mark f rows)
unfolding altered
wide-altered w mark f [] h k = tt
wide-altered w mark f (r ∷ rows) h k =
    wide-cons w (cond (mark 0) (f r) r) (altered next f rows) (go (mark 0) (wide-first w r rows k)) (wide-altered w next f rows h (wide-rest w r rows k))
  where
    next : ℕ → Bool
    next i = mark (suc i)

    go : (b : Bool) → length r ≡ w → length (cond b (f r) r) ≡ w
    go true e = h r e
    go false e = e

-- The rows at the first j numbers are given, and every other word is as it was
pub record Giving (ws : Words) (t : ℕ) (r : Row) (numbers : Words) (n : ℕ) (s : Words) (j : ℕ) (x : Words) : Type 0 where
  pub long : length x ≡ length s
  pub rows : cut (listed_count ws) n x ≡ altered (is_marked (take j numbers)) (gives ws t r) (cut (listed_count ws) n s)
  pub behind : drop (n * listed_count ws) x ≡ drop (n * listed_count ws) s

module _ (ws : Words) (t : ℕ) (r : Row) (numbers : Words) (n : ℕ) (s : Words) where
  pub giving-start : Giving ws t r numbers n s 0 s
  unfolding is_marked
  giving-start =
      record { long = refl; rows = sym (altered-none (is_marked (take 0 numbers)) (gives ws t r) (cut (listed_count ws) n s) (λ i. refl)); behind = refl }

  module _ (fits : n * listed_count ws ≤ length s) (run : Numbers n numbers) (j : ℕ) (l : j < length numbers) (i : ℕ) (e : i ≡ at numbers j)
      (x : Words) (g : Giving ws t r numbers n s j x) where
    below : i < n
    below = omega (arith, e, run.below j l)

    pub row_inside : i * listed_count ws + listed_count ws ≤ length x
    row_inside = omega (arith, g.long, row_fits (listed_count ws) n i (length s) below fits)

    was : row (listed_count ws) i x ≡ get_or (cut (listed_count ws) n s) i []
    was =
        let w = listed_count ws in
        sym (cut_at w n x i below) ∙ ap (λ (rows : Rows). get_or rows i []) g.rows
        ∙ altered-at (is_marked (take j numbers)) (gives ws t r) (cut w n s) i (rw cut-length below)
        ∙ rw (next-free n numbers run j i l e)

    pub giving-next : (y : Words) → y ≡ row_given ws t r i x → Giving ws t r numbers n s (j + 1) y
    giving-next y ey =
        let w = listed_count ws in
        let v = gives ws t r (row w i x) in
        let fit : n * w ≤ length x = omega (arith, g.long) in
        let len : length v ≡ w = gives-length ws t r (row w i x) (row-length w i x row_inside) in
        record {
          long = ap length ey ∙ written-long w n i v x below fit len ∙ g.long;
          rows =
              ap (cut w n) ey ∙ cut-written w n i v x below fit len
              ∙ ap₂ (λ (rows : Rows) (q : Row). set rows i (gives ws t r q)) g.rows was
              ∙ sym (one_more (gives ws t r) (cut w n s) (is_marked (take j numbers)) (is_marked (take (j + 1) numbers)) i (rw cut-length below)
              (next-free n numbers run j i l e) (next-marked n numbers run j i l e));
          behind = ap (drop (n * w)) ey ∙ written_behind w n i v x below fit len ∙ g.behind;
        }

  pub giving-end : (j : ℕ) (x : Words) → length numbers ≤ j → Giving ws t r numbers n s j x → x ≡ given ws t r numbers n s
  unfolding given
  giving-end j x l g =
      let w = listed_count ws in
      sym (take-append-drop (n * w) x)
      ∙ ap₂ ◌++◌ (sym (flat-cut w n x) ∙ ap flat (g.rows ∙ ap (λ (ns : Words). altered (is_marked ns) (gives ws t r) (cut w n s)) (take_all j numbers l)))
      g.behind

-- One row given, word by word
module _ (ws : Words) (t : ℕ) (r : Row) (i : ℕ) (s : Words) (fits : i * listed_count ws + listed_count ws ≤ length s) where
  long : length (row (listed_count ws) i s) ≡ listed_count ws
  long = row-length (listed_count ws) i s fits

  pub with-long : length (row_with ws t r i s) ≡ listed_count ws
  with-long = gives-length ws t r (row (listed_count ws) i s) long

  module _ (k : ℕ) (l : k < listed_count ws) (d : Listing) (reads : ReadsListing ws k d) where
    pub word-own : d.table ≡ t → at r d.column ≡ at (row_with ws t r i s) k
    word-own e = sym (gives-own ws t r (row (listed_count ws) i s) long k l d reads e)

    pub word-other : (d.table ≡ t → ⊥) → (p : ℕ) → p ≡ listed_count ws → at s (i * p + k) ≡ at (row_with ws t r i s) k
    word-other n p e =
        ap (λ (p : ℕ). at s (i * p + k)) e
        ∙ sym (gives_other ws t r (row (listed_count ws) i s) long k l d reads n ∙ row_at (listed_count ws) i s k l)

  pub word_more : (x : Words) (k : ℕ) → k < length x → k < listed_count ws → take k x ≡ take k (row_with ws t r i s)
      → take (k + 1) (set x k (at (row_with ws t r i s) k)) ≡ take (k + 1) (row_with ws t r i s)
  word_more x k h l e =
      let v = row_with ws t r i s in
      rw (add-one, take-suc-set x k (at v k) h, take-suc v k 0 (omega (arith, with-long)), e)

  pub word_end : (x : Words) (p k : ℕ) → p ≡ listed_count ws → k ≤ p → p ≤ k → take k x ≡ take k (row_with ws t r i s)
      → take (listed_count ws) x ≡ row_with ws t r i s
  word_end x p k many a b e =
      let same : listed_count ws ≡ k = omega arith in
      ap (λ (n : ℕ). take n x) same ∙ e ∙ take_all k (row_with ws t r i s) (omega (arith, with-long))

  -- the row, put where it stood
  pub given-is : (p : ℕ) → p ≡ listed_count ws → (x y : Words) → take (listed_count ws) x ≡ row_with ws t r i s
      → y ≡ written s (i * p) (take p x) (length (take p x)) → y ≡ row_given ws t r i s
  given-is p many x y is e = e ∙ rw (many, is, with-long)

-- How a row that shows old's values stands, with new's, to what it was
order-turn : (ls : List Listed) (t : ℕ) (old new row : Row) → length row ≡ length ls → row ≡ with_columns ls t old row
    → row_order (with_columns ls t new row) row ≡ turn_of ls t old new
unfolding row_order turn_of then_by
order-turn [] t old new [] e h = refl
order-turn [] t old new (v ∷ row) e h = absurd (omega arith)
order-turn (l ∷ ls) t old new [] e h = absurd (omega arith)
order-turn (l ∷ ls) t old new (v ∷ row) e h =
    go (eqb l.table t) (ap (λ (r : Row). at r 0) h) (order-turn ls t old new row (omega arith) (ap (drop 1) h))
  where
    go : (b : Bool) → v ≡ cond b (at old l.column) v → row_order (with_columns ls t new row) row ≡ turn_of ls t old new
        → then_by (word_order (cond b (at new l.column) v) v) (row_order (with_columns ls t new row) row)
        ≡ cond b (then_by (word_order (at new l.column) (at old l.column)) (turn_of ls t old new)) (turn_of ls t old new)
    go true q ih = ap₂ (λ (u : ℕ) (o : Ordering). then_by (word_order (at new l.column) u) o) q ih
    go false q ih = rw (word-equal v v refl) ih

module _ (ws : Words) (t : ℕ) (old new row : Row) (wide : length row ≡ listed_count ws) (h : T (shows ws t old row)) where
  turned : row_order (gives ws t new row) row ≡ turn_of (sheet_of ws).listed t old new
  unfolding gives shows
  turned = order-turn (sheet_of ws).listed t old new row (wide ∙ sym (listed-many ws)) (same→≡ row (with_columns (sheet_of ws).listed t old row) h)

  pub turn_up : Greater ≡ turn_of (sheet_of ws).listed t old new → smaller row (gives ws t new row) ≡ true
  turn_up e = greater-smaller (gives ws t new row) row (turned ∙ sym e)

  pub turn-down : Less ≡ turn_of (sheet_of ws).listed t old new → smaller (gives ws t new row) row ≡ true
  turn-down e = less-smaller (gives ws t new row) row (turned ∙ sym e)

  pub turn-none : Equal ≡ turn_of (sheet_of ws).listed t old new → gives ws t new row ≡ row
  turn-none e = order-equal (gives ws t new row) row (turned ∙ sym e)

-- how std compares two words
word-is : (x y : ℕ) → nat_cmp x y ≡ word_order x y
word-is x y = go (nat_cmp x y) (ranks x y)
  where
    go : (o : Ordering) → MatchOrdering o (x < y) (x ≡ y) (y < x) → o ≡ word_order x y
    go Less h = sym (word-less x y h)
    go Equal h = sym (word-equal x y h)
    go Greater h = sym (word-greater x y h)

-- the loop that finds it: listed column k
module _ (ws : Words) (t : ℕ) (old new : Row) (k : ℕ) (l : k < listed_count ws) (d : Listing) (reads : ReadsListing ws k d)
    (inv : turn_of (sheet_of ws).listed t old new ≡ turn_of (drop k (sheet_of ws).listed) t old new) where
  step : turn_of (sheet_of ws).listed t old new
      ≡ cond (eqb d.table t) (then_by (word_order (at new d.column) (at old d.column)) (turn_of (drop (k + 1) (sheet_of ws).listed) t old new))
      (turn_of (drop (k + 1) (sheet_of ws).listed) t old new)
  unfolding turn_of
  step =
      let ls = (sheet_of ws).listed in
      let is : get_or ls k (listing_no ws k) ≡ listing_no ws k =
      ap (λ (ls : List Listed). get_or ls k (listing_no ws k)) (listed-are ws) ∙ at-up_to (listing_no ws) (listing_no ws k) (listed_count ws) k l in
      inv ∙ ap (λ (ls : List Listed). turn_of ls t old new)
      (drop-cons ls k (listing_no ws k) (rw (← listed-many ws) at l) ∙ ap (λ (x : Listed). x ∷ drop (suc k) ls) is)
      ∙ rw (reads.table_is, reads.column-is, add-one k)

  pub turn-other : (d.table ≡ t → ⊥) → turn_of (sheet_of ws).listed t old new ≡ turn_of (drop (k + 1) (sheet_of ws).listed) t old new
  turn-other n = step ∙ rw (ne_eqb d.table t n)

  module _ (own : d.table ≡ t) (o : Ordering) (e : o ≡ nat_cmp (at new d.column) (at old d.column)) where
    rest : Ordering
    rest = turn_of (drop (k + 1) (sheet_of ws).listed) t old new

    here : turn_of (sheet_of ws).listed t old new ≡ then_by o rest
    unfolding rest
    here = step ∙ rw (eq-eqb d.table t own) (ap (λ (o : Ordering). then_by o rest) (sym (e ∙ word-is (at new d.column) (at old d.column))))

    -- it decides, where the two values differ
    pub turn-way : is_ne o ≡ true → o ≡ turn_of (sheet_of ws).listed t old new
    unfolding then_by
    turn-way d = decides o d ∙ sym here
      where
        decides : (o : Ordering) → is_ne o ≡ true → o ≡ then_by o rest
        decides Less d = refl
        decides Equal d = absurd (true≢false (sym d))
        decides Greater d = refl

    pub turn-same : is_ne o ≡ false → turn_of (sheet_of ws).listed t old new ≡ turn_of (drop (k + 1) (sheet_of ws).listed) t old new
    unfolding rest then_by
    turn-same d = here ∙ goes_on o d
      where
        goes_on : (o : Ordering) → is_ne o ≡ false → then_by o rest ≡ rest
        goes_on Less d = absurd (true≢false d)
        goes_on Equal d = refl
        goes_on Greater d = absurd (true≢false d)

pub turn_end : (ws : Words) (t : ℕ) (old new : Row) (k : ℕ) → listed_count ws ≤ k
    → turn_of (sheet_of ws).listed t old new ≡ turn_of (drop k (sheet_of ws).listed) t old new → Equal ≡ turn_of (sheet_of ws).listed t old new
unfolding turn_of
turn_end ws t old new k l inv = sym (inv ∙ rw (drop_of_length-le (sheet_of ws).listed {i = k} (omega (arith, listed-many ws))))
