-- What the code reads of a sheet: an edge, a condition or a listing by its number, field by field.
-- Assumes nothing.
use Rattle.std.specs.Prelude.{ℕ, ◌≡◌}
use Rattle.lists.specs.Lists.{Words}
use Rattle.sheet.specs.Numbered.{edge_no, condition_no, listing_no}
use Rattle.sheet.specs.declared.reading.Edge.{Edge}
use Rattle.sheet.specs.declared.reading.Condition.{Condition}
use Rattle.sheet.specs.declared.reading.Listing.{Listing}

pub record ReadsEdge (ws : Words) (k : ℕ) (e : Edge) : Type 0 where
  pub child-is : e.child ≡ (edge_no ws k).child
  pub column-is : e.column ≡ (edge_no ws k).column
  pub parent_is : e.parent ≡ (edge_no ws k).parent
  pub promise-is : e.promise ≡ (edge_no ws k).promise

pub record ReadsCondition (ws : Words) (k : ℕ) (d : Condition) : Type 0 where
  pub table_is : d.table ≡ (condition_no ws k).table
  pub column-is : d.column ≡ (condition_no ws k).column
  pub lowest-is : d.lowest ≡ (condition_no ws k).lowest
  pub highest-is : d.highest ≡ (condition_no ws k).highest

pub record ReadsListing (ws : Words) (k : ℕ) (l : Listing) : Type 0 where
  pub table_is : l.table ≡ (listing_no ws k).table
  pub column-is : l.column ≡ (listing_no ws k).column
