-- A row with one table's columns given, word by word.
-- Assumes nothing.
use Prim.Native.Nat.{ℕ, zero, suc, ◌+◌, ◌*◌, ◌<◌, ◌≤◌}
use mathlib.Core.Path.{◌≡◌, refl, sym, ap, ◌∙◌}
use mathlib.Core.Bool.{cond}
use mathlib.Core.List.{List, [], ◌∷◌}
use native.Mathlib.Nat.{le_of_suc-le-suc, not-suc-le-zero}
use native.Mathlib.Omega.{arith}
use lib.Dec.{eqb}
use lib.ListN.{length, get_or}
use lib.Seq.{ext_get_or}
use borrow.Author.Tests.{eqb-true, eq-eqb, ne_eqb}
use Rattle.lists.specs.Lists.{Words, at}
use Rattle.lists.specs.Loops.{every}
use Rattle.lists.proofs.Truth.{is_t, T→≡, same_test}
use Rattle.lists.proofs.Loops.{every-at, every-from}
use Rattle.rows.specs.Rows.{Row, same_row}
use Rattle.rows.specs.Words.{row}
use Rattle.rows.proofs.Ordered.{same→≡, ≡→same}
use Rattle.rows.proofs.Cut.{row-length, row_at}
use Rattle.meaning.specs.Sheet.{Listed, sheet_of, listed_count}
use Rattle.meaning.specs.Change.{with_columns}
use Rattle.laws.proofs.Lists.{at-up_to, length-up_to}
use Rattle.laws.proofs.Columns.{with-length}
use Rattle.sheet.specs.Numbered.{listing_no}
use Rattle.sheet.specs.Read.{ReadsListing}
use Rattle.sheet.specs.declared.reading.Listing.{Listing}
use Rattle.sheet.proofs.Words.{listed-are}
use Rattle.list_part.specs.Gives.{gives, shows, row_shows, row_with}

with_at : (ls : List Listed) (t : ℕ) (r row : Row) (j : ℕ) (d : Listed) → length row ≡ length ls → j < length ls
    → at (with_columns ls t r row) j ≡ cond (eqb (get_or ls j d).table t) (at r (get_or ls j d).column) (at row j)
with_at [] t r row j d e l = absurd (not-suc-le-zero l)
with_at (x ∷ ls) t r [] j d e l = absurd (omega arith)
with_at (x ∷ ls) t r (v ∷ row) zero d e l = refl
with_at (x ∷ ls) t r (v ∷ row) (suc j) d e l = with_at ls t r row j d (omega arith) (le_of_suc-le-suc l)

pub listed-many : (ws : Words) → length (sheet_of ws).listed ≡ listed_count ws
listed-many ws = ap length (listed-are ws) ∙ length-up_to (listing_no ws) (listed_count ws)

module _ (ws : Words) (t : ℕ) (r row : Row) (wide : length row ≡ listed_count ws) where
  pub gives-length : length (gives ws t r row) ≡ listed_count ws
  unfolding gives
  gives-length = with-length (sheet_of ws).listed t r row (wide ∙ sym (listed-many ws)) ∙ listed-many ws

  gives_at : (j : ℕ) → j < listed_count ws
      → at (gives ws t r row) j ≡ cond (eqb (listing_no ws j).table t) (at r (listing_no ws j).column) (at row j)
  unfolding gives
  gives_at j h =
      let d = listing_no ws j in
      let e : get_or (sheet_of ws).listed j d ≡ d
      = ap (λ (ls : List Listed). get_or ls j d) (listed-are ws) ∙ at-up_to (listing_no ws) d (listed_count ws) j h in
      with_at (sheet_of ws).listed t r row j d (wide ∙ sym (listed-many ws)) (omega (arith, listed-many ws)) ∙ rw e

  module _ (j : ℕ) (h : j < listed_count ws) (l : Listing) (reads : ReadsListing ws j l) where
    pub gives-own : l.table ≡ t → at (gives ws t r row) j ≡ at r l.column
    gives-own e = gives_at j h ∙ rw (← reads.table_is, ← reads.column-is, eq-eqb l.table t e)

    pub gives_other : (l.table ≡ t → ⊥) → at (gives ws t r row) j ≡ at row j
    gives_other d = gives_at j h ∙ rw (← reads.table_is, ne_eqb l.table t d)

-- Row i of a run of words shows r's values where each of its words is the one that it would be given
module _ (ws : Words) (t : ℕ) (r : Row) (s : Words) (i p : ℕ) (many : p ≡ listed_count ws) (fits : i * listed_count ws + listed_count ws ≤ length s) where
  here : Row
  here = row (listed_count ws) i s

  here-long : length here ≡ listed_count ws
  unfolding here
  here-long = row-length (listed_count ws) i s fits

  here-at : (j : ℕ) → j < listed_count ws → at s (i * listed_count ws + j) ≡ at here j
  unfolding here
  here-at j h = sym (row_at (listed_count ws) i s j h)

  gave : Row
  gave = gives ws t r here

  gave-long : length gave ≡ listed_count ws
  unfolding gave
  gave-long = gives-length ws t r here here-long

  pub shows-each : every (λ k. eqb (at s (i * p + k)) (at (row_with ws t r i s) k)) p ≡ row_shows ws t r i s
  unfolding shows here gave
  shows-each =
      rw many
      (same_test _ (same_row here gave)
      (λ h. ≡→same here gave
      (ext_get_or 0 here gave (here-long ∙ sym gave-long) (λ j l. sym (here-at j (omega (arith, here-long)))
      ∙ eqb-true _ _ (every-at _ j (listed_count ws) (omega (arith, here-long)) (T→≡ _ h)))))
      (λ h. is_t (every-from _ (listed_count ws) (λ j l. eq-eqb _ _ (here-at j l ∙ ap (λ (x : Row). at x j) (same→≡ here gave h))))))
