-- The side tables as a whole: all have room, zeros stand for a store in which none is written, and what stands when all are.
-- Assumes nothing.
use mathlib.Core.Path.{◌≡◌, ap, sym}
use lib.ListN.{length, replicate}
use Rattle.lists.specs.Lists.{Words}
use Rattle.lists.specs.Loops.{every}
use Rattle.meaning.specs.Sheet.{sheet_of, table_count}
use Rattle.meaning.specs.Plan.{store_length}
use Rattle.laws.specs.Sheets.{Good}
use Rattle.places.specs.Stands.{Stands}
use Rattle.sheet.proofs.Words.{n-is}
use Rattle.filling.specs.Written.{partly, side_fits}
use Rattle.filling.proofs.Models.{zeros-stand}
use Rattle.base_run.specs.Bases.{tables_of}
use Rattle.fill_sides.specs.Sides.{fits_no, partly_of}

module _ (ws run : Words) where
  pub fits_all : every (fits_no ws run) (table_count ws) ≡ every (side_fits (sheet_of ws) (tables_of ws run)) (sheet_of ws).n
  unfolding fits_no
  fits_all = ap (every (side_fits (sheet_of ws) (tables_of ws run))) (sym (n-is ws))

  pub none_written : Good (sheet_of ws) → (store : Words) → length store ≡ store_length (sheet_of ws) → store ≡ replicate (length store) 0
      → Stands (sheet_of ws) store (partly_of ws run 0)
  unfolding partly_of
  none_written g store long zeros = zeros-stand (sheet_of ws) (tables_of ws run) g store long zeros

  pub all-written : partly_of ws run (table_count ws) ≡ partly (sheet_of ws) (tables_of ws run) (sheet_of ws).n
  unfolding partly_of
  all-written = ap (partly (sheet_of ws) (tables_of ws run)) (sym (n-is ws))
