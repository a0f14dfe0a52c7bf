-- Document 01, "The sheet": a sheet as words, what its words say, and refusals 1 to 3.
-- Assumes nothing.
use Rattle.std.specs.Prelude.{ℕ, zero, suc, ◌+◌, ◌*◌, ◌-◌, Bool, ◌&&◌, ◌||◌, List, map, ltb, leb, eqb, length, take, drop}
use Rattle.lists.specs.Lists.{Words, at, between, all, any, select, none_twice, up_to}
use Rattle.rows.specs.Rows.{Row, cut}
use Rattle.meaning.specs.Limits.{most_tables, most_columns, most_conditions, most_listed, most_room}
use Rattle.meaning.specs.Answers.{bad_counts, bad_words, no_tree, unless}

-- "The edge joins the child's column to the parent's key. Promise 1 says that every child row has its parent"
pub record Edge : Type 0 where
  pub child : ℕ
  pub column : ℕ
  pub parent : ℕ
  pub promise : ℕ

-- lowest ≤ the column's value ≤ highest
pub record Condition : Type 0 where
  pub table : ℕ
  pub column : ℕ
  pub lowest : ℕ
  pub highest : ℕ

pub record Listed : Type 0 where
  pub table : ℕ
  pub column : ℕ

pub record Sheet : Type 0 where
  pub n : ℕ
  pub widths : List ℕ
  pub edges : List Edge
  pub conditions : List Condition
  pub listed : List Listed
  pub rooms : List ℕ

abbrev pub edge_of : Row → Edge
edge_of w = record { child = at w 0; column = at w 1; parent = at w 2; promise = at w 3 }

abbrev pub condition_of : Row → Condition
condition_of w = record { table = at w 0; column = at w 1; lowest = at w 2; highest = at w 3 }

abbrev pub listed_of : Row → Listed
listed_of w = record { table = at w 0; column = at w 1 }

-- The words: n, e, c, p; n widths; e edges; c conditions; p listed columns; n + 1 rooms. How many there are of each
abbrev pub table_count : Words → ℕ
table_count ws = at ws 0

abbrev pub edge_count : Words → ℕ
edge_count ws = at ws 1

abbrev pub condition_count : Words → ℕ
condition_count ws = at ws 2

abbrev pub listed_count : Words → ℕ
listed_count ws = at ws 3

-- where each run of them begins
abbrev pub edges_at : Words → ℕ
edges_at ws = 4 + table_count ws

abbrev pub conditions_at : Words → ℕ
conditions_at ws = edges_at ws + 4 * edge_count ws

abbrev pub listed_at : Words → ℕ
listed_at ws = conditions_at ws + 4 * condition_count ws

abbrev pub rooms_at : Words → ℕ
rooms_at ws = listed_at ws + 2 * listed_count ws

-- what the words of a sheet say
unfoldable pub sheet_of : Words → Sheet
sheet_of ws =
    record {
      n = table_count ws;
      widths = take (table_count ws) (drop 4 ws);
      edges = map edge_of (cut 4 (edge_count ws) (drop (edges_at ws) ws));
      conditions = map condition_of (cut 4 (condition_count ws) (drop (conditions_at ws) ws));
      listed = map listed_of (cut 2 (listed_count ws) (drop (listed_at ws) ws));
      rooms = drop (rooms_at ws) ws;
    }

-- The tables 0 to n - 1, a table's width, and the room of a table or, at n, of the list
abbrev pub tables : Sheet → List ℕ
tables s = up_to s.n

abbrev pub width : Sheet → ℕ → ℕ
width s t = at s.widths t

abbrev pub room : Sheet → ℕ → ℕ
room s t = at s.rooms t

-- table t has a column of this number
abbrev pub has_column : Sheet → ℕ → ℕ → Bool
has_column s t column = ltb t s.n && ltb column (width s t)

-- Refusal 1: the counts are in range, e is n - 1, and the length is right
unfoldable pub good_counts : Words → Bool
good_counts ws =
    let n = table_count ws in
    let e = edge_count ws in
    let c = condition_count ws in
    let p = listed_count ws in
    between 1 most_tables n && eqb (e + 1) n && between 0 most_conditions c && between 1 most_listed p
    && eqb (length ws) (4 + 2 * n + 1 + 4 * e + 4 * c + 2 * p)

-- Refusal 2: each word is within the sheet's rules. An edge's child column is 1 to width - 1, its promise 0 or 1
unfoldable pub good_edge : Sheet → Edge → Bool
good_edge s e = has_column s e.child e.column && leb 1 e.column && ltb e.parent s.n && leb e.promise 1

unfoldable pub good_condition : Sheet → Condition → Bool
good_condition s d = has_column s d.table d.column && leb d.lowest d.highest

unfoldable pub good_listed : Sheet → Listed → Bool
good_listed s l = has_column s l.table l.column

abbrev pub same_listed : Listed → Listed → Bool
same_listed l m = eqb l.table m.table && eqb l.column m.column

unfoldable pub good_words : Sheet → Bool
good_words s =
    all (between 1 most_columns) s.widths
    && all (good_edge s) s.edges
    && all (good_condition s) s.conditions
    && all (good_listed s) s.listed
    && none_twice same_listed s.listed
    && all (between 0 most_room) s.rooms

-- Refusal 3: "Each table but one has exactly one edge into it, that one (the root) has none, and every table is reached from the root"
abbrev pub goes_into : ℕ → Edge → Bool
goes_into t e = eqb e.parent t

abbrev pub leaves : ℕ → Edge → Bool
leaves t e = eqb e.child t

abbrev pub edges_into : Sheet → ℕ → List Edge
edges_into s t = select (goes_into t) s.edges

abbrev pub edges_from : Sheet → ℕ → List Edge
edges_from s t = select (leaves t) s.edges

abbrev pub is_root : Sheet → ℕ → Bool
is_root s t = eqb (length (edges_into s t)) 0

-- t is reached in at most k edges: t is the root, or the child of an edge into t is reached in one less
abbrev pub reached : Sheet → ℕ → ℕ → Bool
reached s zero t = is_root s t
reached s (suc k) t = is_root s t || any (λ e. reached s k e.child) (edges_into s t)

-- there are n - 1 edges, so no path from the root is longer
unfoldable pub good_tree : Sheet → Bool
good_tree s =
    eqb (length (select (is_root s) (tables s))) 1
    && all (λ t. leb (length (edges_into s t)) 1) (tables s)
    && all (reached s (s.n - 1)) (tables s)

-- 0, or the refusal of these words as a sheet
unfoldable pub sheet_refusal : Words → ℕ
sheet_refusal ws = unless (good_counts ws) bad_counts (unless (good_words (sheet_of ws)) bad_words (unless (good_tree (sheet_of ws)) no_tree 0))
