-- `write_side` meets its contract. The part is lent on, comes back with the side table, and its count is set.
-- Assumes nothing.
use Rattle.fill_sides.proofs.Stores.{tables-in, part-within, columns-end, part-ready, store-written}
use native.Mathlib.Omega.{arith}
use Rattle.fill_sides.proofs.write_side.Goals as goal

pub part_of-p-requires : goal.part_of-p-requires
part_of-p-requires c =
    let both = tables-in c.requires in
    record {
      number_le_tables = both.0;
      tables_le_most_tables = both.1;
    }

pub overflow_add-shown : goal.overflow_add-shown
overflow_add-shown c = omega (arith, columns-end c.requires c.part_of-p.ensures)

pub slice_bounds-shown-end : goal.slice_bounds-shown-end
slice_bounds-shown-end c = omega (arith, columns-end c.requires c.part_of-p.ensures)

pub end-requires : goal.end-requires
end-requires c = omega (arith, part-within c.requires c.part_of-p.ensures)

pub offset_bounds-store-p : goal.offset_bounds-store-p
offset_bounds-store-p c = omega (arith, part-within c.requires c.part_of-p.ensures)

pub slice_bounds-write_part-end : goal.slice_bounds-write_part-end
slice_bounds-write_part-end c = omega (arith, c.end.ensures, part-within c.requires c.part_of-p.ensures)

pub write_part-many-requires : goal.write_part-many-requires
write_part-many-requires c = rw c.end.ensures (part-ready c.requires c.part_of-p.ensures)

pub offset_bounds-store-p-2 : goal.offset_bounds-store-p-2
offset_bounds-store-p-2 c = omega (arith, part-within c.requires c.part_of-p.ensures)

pub bounds-store-p : goal.bounds-store-p
bounds-store-p c = omega (arith, part-within c.requires c.part_of-p.ensures)

pub returns : goal.returns
returns c = rw c.end.ensures (store-written c.requires c.part_of-p.ensures _ _ (rw c.end.ensures at c.write_part-many.ensures))
