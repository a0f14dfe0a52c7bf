-- The part's marked rows with one table's columns given: they stand there in any order, and zeros after them.
-- Assumes nothing.
use Prim.Native.Nat.{ℕ, ◌*◌, ◌-◌, ◌≤◌}
use mathlib.Core.Path.{◌≡◌, sym, ap, ◌∙◌}
use mathlib.Core.List.{◌++◌}
use native.Mathlib.Omega.{arith}
use lib.ListN.{length, drop, replicate, length-drop}
use Rattle.lists.specs.Lists.{Words, flat}
use Rattle.lists.specs.Parts.{splice}
use Rattle.rows.specs.Rows.{Row, Rows, Wide, cut}
use Rattle.rows.specs.Regions.{laid}
use Rattle.rows.specs.Marks.{altered, is_marked}
use Rattle.rows.proofs.Cut.{wide-cut, length-flat, cut-length}
use Rattle.rows.proofs.Regions.{zeros-are}
use Rattle.meaning.specs.Sheet.{listed_count}
use Rattle.walks.proofs.Marks.{length-altered}
use Rattle.list_part.specs.Gives.{gives, given}
use Rattle.list_part.proofs.Words.{gives-length}
use Rattle.list_part.proofs.Given.{wide-altered}
use Rattle.store.specs.declared.Part.{Part}
use Rattle.store.specs.Parts.{size_of, stop_of, words_in, count_in, rows_in, Kept}
use Rattle.store.proofs.Parts.{part-long}
use Rattle.list_part.specs.Loose.{rows_given, Behind}

module _ (sheet : Words) (t : ℕ) (r : Row) (numbers : Words) (p : Part) (old : Words) (k : Kept p old)
    (few : count_in p old ≤ p.room) (w : p.columns ≡ listed_count sheet) where
  pub altered_rows : Rows
  altered_rows = altered (is_marked numbers) (gives sheet t r) (rows_in p old)

  many : length altered_rows ≡ count_in p old
  unfolding altered_rows rows_in
  many = length-altered (is_marked numbers) (gives sheet t r) (rows_in p old) ∙ cut-length p.columns (count_in p old) (words_in p old)

  wide : Wide p.columns altered_rows
  unfolding altered_rows rows_in
  wide =
      wide-altered p.columns (is_marked numbers) (gives sheet t r) (rows_in p old) (λ q e. gives-length sheet t r q (e ∙ w) ∙ sym w)
      (wide-cut p.columns (count_in p old) (words_in p old) k.region.fits)

  given-laid : given sheet t r numbers (count_in p old) (words_in p old) ≡ laid (size_of p) altered_rows
  unfolding given laid altered_rows rows_in
  given-laid =
      let n = count_in p old in
      let words = words_in p old in
      ap (λ (v : ℕ). flat (altered (is_marked numbers) (gives sheet t r) (cut v n words)) ++ drop (n * v) words) (sym w)
      ∙ ap (λ (l : Words). flat altered_rows ++ l) (zeros-are (drop (n * p.columns) words) k.region.zeros ∙ ap (λ (j : ℕ). replicate j 0) size)
    where
      size : length (drop (count_in p old * p.columns) (words_in p old)) ≡ size_of p - length (flat altered_rows)
      size =
          omega (
            arith,
            length-drop (count_in p old * p.columns) (words_in p old),
            part-long p old k.within,
            length-flat p.columns altered_rows wide,
            ap (λ (j : ℕ). j * p.columns) many,
          )

  pub behind-given : (exit : Words) → exit ≡ rows_given sheet t r numbers p old
      → Behind p old (altered (is_marked numbers) (gives sheet t r) (rows_in p old)) exit
  unfolding altered_rows
  behind-given exit e = record { words = e ∙ ap (splice old p.start (stop_of p)) given-laid; wide = wide; fits = omega (arith, many) }
