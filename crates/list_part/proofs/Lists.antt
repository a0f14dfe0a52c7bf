-- The list's part: its columns are the sheet's listed ones, in a sound store it is kept, and its rows have room; and a row made in the front of a run.
-- Assumes nothing.
use Prim.Native.Nat.{ℕ, ◌<◌, ◌≤◌}
use mathlib.Core.Path.{◌≡◌, sym, ap, ◌∙◌}
use mathlib.Core.List.{◌++◌}
use native.Mathlib.Omega.{arith}
use lib.Dec.{T}
use lib.ListN.{length, take, length-append}
use lib.Seq.{take_at}
use Rattle.lists.specs.Lists.{Words}
use Rattle.rows.specs.Rows.{Row}
use Rattle.rows.proofs.Cut.{cut-length}
use Rattle.meaning.specs.Sheet.{Sheet, sheet_of, listed_count}
use Rattle.meaning.specs.Meaning.{Way, list_row}
use Rattle.meaning.specs.Store.{model_of, sound}
use Rattle.laws.specs.Sheets.{Good}
use Rattle.laws.proofs.Columns.{columns-list, list-row-length}
use Rattle.laws.proofs.Stores.{sound-get}
use Rattle.sheet.specs.Rules.{Rules}
use Rattle.places.proofs.Stands.{sound-stands}
use Rattle.list_part.proofs.Words.{listed-many}
use Rattle.store.specs.declared.Part.{Part}
use Rattle.list_part.specs.Loose.{row_put}
use Rattle.store.specs.Parts.{words_in, count_in, rows_in, Lies, Kept}
use Rattle.store.proofs.Lying.{count-is, lies-kept}

-- a part has as many rows as its count says
pub rows-many : (p : Part) (ws : Words) → length (rows_in p ws) ≡ count_in p ws
unfolding rows_in
rows-many p ws = cut-length p.columns (count_in p ws) (words_in p ws)

-- the list's are as wide as the sheet says
pub row_listed : (ws : Words) (way : Way) → length (list_row (sheet_of ws) way) ≡ listed_count ws
row_listed ws way = list-row-length (sheet_of ws) way ∙ listed-many ws

module _ (ws : Words) (list : Part) (lies : Lies (sheet_of ws) (sheet_of ws).n list) where
  pub list-columns : list.columns ≡ listed_count ws
  list-columns = lies.columns-is ∙ columns-list (sheet_of ws) ∙ listed-many ws

  pub columns-few : Rules ws → list.columns ≤ 16
  columns-few ru = omega (arith, list-columns, ru.counts.listed-few)

  pub columns-some : Rules ws → 0 < list.columns
  columns-some ru = omega (arith, list-columns, ru.counts.listed-some)

  pub row-wide : (way : Way) → length (list_row (sheet_of ws) way) ≡ list.columns
  row-wide way = row_listed ws way ∙ sym list-columns

module _ (s : Sheet) (g : Good s) (store : Words) (so : T (sound s store)) (list : Part) (lies : Lies s s.n list) where
  pub list-kept : Kept list store
  list-kept = lies-kept s s.n list lies g store (model_of s store) (sound-stands s g store so)

  pub list-room : count_in list store ≤ list.room
  list-room = omega (arith, count-is s s.n list lies store, lies.room-is, (sound-get s store so).within s.n (omega arith))

-- the first w words of a run that a call has written, as long as what it wrote
module _ (w : ℕ) (x z l : Words) (e : x ≡ l) (long : length l ≡ w) where
  pub front-there : w ≤ length (x ++ z)
  front-there = omega (arith, length-append x z, ap length e)

  pub front-is : take w (x ++ z) ≡ l
  front-is = take_at x z w (ap length e ∙ long) ∙ e

  pub front-wide : length (take w (x ++ z)) ≡ w
  front-wide = ap length front-is ∙ long

-- row k that is another's words
pub put_is : (p : Part) (ws exit : Words) (k : ℕ) (row : Row) {l : Row} → exit ≡ row_put p ws k row → row ≡ l → exit ≡ row_put p ws k l
put_is p ws exit k row e h = e ∙ ap (row_put p ws k) h
