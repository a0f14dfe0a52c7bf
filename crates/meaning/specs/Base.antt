-- Document 01, "Base tables and lawful changes".
-- Assumes nothing.
use Rattle.std.specs.Prelude.{ℕ, ◌+◌, ◌*◌, Bool, true, false, cond, not, ◌&&◌, ◌||◌, List, [], ◌∷◌, map, ltb, leb, eqb, length, get_or, drop, set}
use Rattle.lists.specs.Lists.{Words, at, all, any, up_to, sum}
use Rattle.rows.specs.Rows.{Row, Rows, key, cut, has_row, take_row, has_key, no_key_twice}
use Rattle.meaning.specs.Limits.{most_rows}
use Rattle.meaning.specs.Sheet.{Edge, Sheet, tables, width, edges_into}
use Rattle.meaning.specs.Plan.{is_promised, promised, is_child_column, in_condition}

-- for each table its rows
abbrev pub Tables : Type 0
Tables = List Rows

abbrev pub rows_of : Tables → ℕ → Rows
rows_of base t = get_or base t []

-- The run: n counts, then the rows, table by table. The place of table t's first row, and at n the run's length
unfoldable pub base_start : Sheet → Words → ℕ → ℕ
base_start s run t = s.n + sum (map (λ u. at run u * width s u) (up_to t))

unfoldable pub base_of : Sheet → Words → Tables
base_of s run = map (λ t. cut (width s t) (at run t) (drop (base_start s run t) run)) (tables s)

-- r's parent along an edge stands among the parent table's rows
abbrev pub has_parent_in : (ℕ → Rows) → Row → Edge → Bool
has_parent_in rows r e = has_key (at r e.column) (rows e.parent)

-- r meets the promise of an edge that leaves its table
abbrev pub is_met : Tables → Row → Edge → Bool
is_met base r e = has_parent_in (rows_of base) r e

-- every promised edge that leaves t finds r's parent
unfoldable pub has_parents : Sheet → Tables → ℕ → Row → Bool
has_parents s base t r = all (is_met base r) (promised s t)

-- "Every row has its table's width"
abbrev pub has_width : Sheet → ℕ → Row → Bool
has_width s t r = eqb (length r) (width s t)

-- "They are lawful if no key stands twice in a table and every promised edge finds its parent"
unfoldable pub lawful_table : Sheet → Tables → ℕ → Bool
lawful_table s base t = all (has_width s t) (rows_of base t) && no_key_twice (rows_of base t) && all (has_parents s base t) (rows_of base t)

unfoldable pub lawful : Sheet → Tables → Bool
lawful s base = all (lawful_table s base) (tables s)

-- Refusal 10: the run's length, its counts, and lawful base tables
unfoldable pub good_base : Sheet → Words → Bool
good_base s run =
    eqb (length run) (base_start s run s.n) && all (λ t. leb (at run t) most_rows) (tables s) && lawful s (base_of s run)

-- a change call's words: kind 1 inserts new, 2 deletes old, 3 updates old to new
pub record Change : Type 0 where
  pub kind : ℕ
  pub table : ℕ
  pub old : Row
  pub new : Row

-- a change by its words
abbrev pub change_of : ℕ → ℕ → Row → Row → Change
change_of kind t r r' = record { kind = kind; table = t; old = r; new = r' }

abbrev pub by_kind : {A : Type 0} → ℕ → A → A → A → A → A
by_kind kind insert delete update other = cond (eqb kind 1) insert (cond (eqb kind 2) delete (cond (eqb kind 3) update other))

-- Refusal 5: "kind not 1 insert, 2 delete, 3 update; no such table; a row not of the table's width; an update with two keys";
-- "the unused row has length 0"
unfoldable pub good_change : Sheet → Change → Bool
good_change s c =
    ltb c.table s.n
    && by_kind c.kind
    (eqb (length c.old) 0 && has_width s c.table c.new)
    (has_width s c.table c.old && eqb (length c.new) 0)
    (has_width s c.table c.old && has_width s c.table c.new && eqb (key c.old) (key c.new))
    false

-- "Tied columns are those in a condition or used as a child column"
unfoldable pub tied : Sheet → ℕ → ℕ → Bool
tied s t c = in_condition s t c || is_child_column s t c

-- r and r' of table t have the same value in each tied column
unfoldable pub same_tied : Sheet → ℕ → Row → Row → Bool
same_tied s t r r' = all (λ c. not (tied s t c) || eqb (at r c) (at r' c)) (up_to (width s t))

-- Refusal 6: "an update alters a tied column"
unfoldable pub tied_stay : Sheet → Change → Bool
tied_stay s c = by_kind c.kind true true (same_tied s c.table c.old c.new) true

-- a child row q refers to this key along an edge
abbrev pub refers : Edge → ℕ → Row → Bool
refers e k q = eqb (at q e.column) k

-- some child row refers to this key of t on a promised edge
unfoldable pub has_promised_child : Sheet → Tables → ℕ → ℕ → Bool
has_promised_child s base t k = any (λ e. is_promised e && any (refers e k) (rows_of base e.child)) (edges_into s t)

-- "Lawful: an insert whose key is new and whose promised parents exist; a delete of a row that exists exactly so, with no child on a
-- promised edge; an update of a row that exists exactly so, with the same key and no tied column altered"
unfoldable pub lawful_change : Sheet → Tables → Change → Bool
lawful_change s base c =
    good_change s c
    && by_kind c.kind
    (not (has_key (key c.new) (rows_of base c.table)) && has_parents s base c.table c.new)
    (has_row c.old (rows_of base c.table) && not (has_promised_child s base c.table (key c.old)))
    (has_row c.old (rows_of base c.table) && tied_stay s c)
    false

-- the base tables after a change
unfoldable pub changed : Tables → Change → Tables
changed base c =
    let rows = rows_of base c.table in
    set base c.table (by_kind c.kind (c.new ∷ rows) (take_row c.old rows) (c.new ∷ take_row c.old rows) rows)
