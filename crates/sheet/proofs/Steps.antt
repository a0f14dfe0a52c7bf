-- What a record that was read says of its test: an edge's, a condition's and a listing's fields in place of the sheet's words.
-- Assumes nothing.
use Prim.Native.Nat.{ℕ}
use mathlib.Core.Path.{◌≡◌}
use mathlib.Core.Bool.{not, ◌&&◌}
use lib.Dec.{leb, ltb}
use Rattle.lists.specs.Lists.{Words}
use Rattle.lists.specs.Loops.{some}
use Rattle.meaning.specs.Sheet.{sheet_of, table_count, has_column, good_edge, good_condition, good_listed}
use Rattle.sheet.specs.declared.reading.Edge.{Edge}
use Rattle.sheet.specs.declared.reading.Condition.{Condition}
use Rattle.sheet.specs.declared.reading.Listing.{Listing}
use Rattle.sheet.specs.Read.{ReadsEdge, ReadsCondition, ReadsListing}
use Rattle.sheet.specs.Tests.{edge_passes, condition_passes, listing_names, listing_passes}
use Rattle.sheet.proofs.Words.{n-is}

module _ (ws : Words) (k : ℕ) where
  pub edge-test : {e : Edge} → ReadsEdge ws k e
      → edge_passes ws k ≡ (has_column (sheet_of ws) e.child e.column && leb 1 e.column && ltb e.parent (table_count ws) && leb e.promise 1)
  unfolding edge_passes good_edge
  edge-test r = rw (← r.child-is, ← r.column-is, ← r.parent_is, ← r.promise-is, n-is ws)

  pub condition-test : {d : Condition} → ReadsCondition ws k d
      → condition_passes ws k ≡ (has_column (sheet_of ws) d.table d.column && leb d.lowest d.highest)
  unfolding condition_passes good_condition
  condition-test r = rw (← r.table_is, ← r.column-is, ← r.lowest-is, ← r.highest-is)

  pub listing-test : {l : Listing} → ReadsListing ws k l
      → listing_passes ws k ≡ (has_column (sheet_of ws) l.table l.column && not (some (listing_names ws l.table l.column) k))
  unfolding listing_passes good_listed
  listing-test r = rw (← r.table_is, ← r.column-is)
