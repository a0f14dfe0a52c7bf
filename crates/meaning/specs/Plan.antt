-- Document 01, "What is derived", of the sheet alone: Dep, Dep+, Need, which tables are kept, what they show, and where each part of the store begins.
-- The functions are meant for a sheet whose refusal is 0.
-- Assumes nothing.
use Rattle.std.specs.Prelude.{ℕ, zero, suc, ◌+◌, ◌*◌, Bool, cond, not, ◌&&◌, ◌||◌, List, [], ◌∷◌, map, ltb, eqb, length, get_or}
use Rattle.lists.specs.Lists.{Words, at, all, any, select, flat, member, up_to, sum}
use Rattle.meaning.specs.Limits.{count_words}
use Rattle.meaning.specs.Sheet.{Edge, Condition, Listed, Sheet, tables, width, room, edges_into, edges_from, is_root, sheet_of, sheet_refusal}

-- the table with no edge into it
unfoldable pub root : Sheet → ℕ
root s = at (select (is_root s) (tables s)) 0

-- the edge into a table that is not the root
unfoldable pub edge_into : Sheet → ℕ → Edge
edge_into s t = get_or (edges_into s t) 0 (record { child = 0; column = 0; parent = 0; promise = 0 })

-- every other table
unfoldable pub others : Sheet → ℕ → List ℕ
others s t = select (λ u. not (eqb u t)) (tables s)

-- the promised edges that leave R
abbrev pub is_promised : Edge → Bool
is_promised e = eqb e.promise 1

abbrev pub promised : Sheet → ℕ → List Edge
promised s t = select is_promised (edges_from s t)

-- "Dep(R): the parents of R along promised edges"
unfoldable pub dep : Sheet → ℕ → List ℕ
dep s t = map (λ e. e.parent) (promised s t)

-- "Dep+(R): all tables reached by repeating that": k tables are left on the path
abbrev pub dep_plus_in : Sheet → ℕ → ℕ → List ℕ
dep_plus_in s zero t = []
dep_plus_in s (suc k) t = flat (map (λ p. p ∷ dep_plus_in s k p) (dep s t))

unfoldable pub dep_plus : Sheet → ℕ → List ℕ
dep_plus s t = dep_plus_in s s.n t

-- l names column c of table t; some listing does
abbrev pub names : ℕ → ℕ → Listed → Bool
names t c l = eqb l.table t && eqb l.column c

abbrev pub is_listed : Sheet → ℕ → ℕ → Bool
is_listed s t c = any (names t c) s.listed

-- the list shows table t's key
abbrev pub key_listed : Sheet → ℕ → Bool
key_listed s t = is_listed s t 0

-- "Need(R): empty if R's key is listed; otherwise, if Q is the child with an edge into R, Q together with Need(Q); for the root, every other table":
-- k tables are left on the path
abbrev pub need_in : Sheet → ℕ → ℕ → List ℕ
need_in s zero t = []
need_in s (suc k) t =
    cond (key_listed s t) []
    (cond (eqb t (root s)) (others s t)
    ((edge_into s t).child ∷ need_in s k (edge_into s t).child))

unfoldable pub need : Sheet → ℕ → List ℕ
need s t = need_in s s.n t

-- "R has no side table exactly if Dep+(R) is every other table and R is in no table's Need"
unfoldable pub kept : Sheet → ℕ → Bool
kept s t = not (all (λ u. member u (dep_plus s t)) (others s t) && all (λ u. not (member t (need s u))) (tables s))

-- c is the child column of an edge that leaves t; c is in a condition on t
abbrev pub is_child_column : Sheet → ℕ → ℕ → Bool
is_child_column s t c = any (λ e. eqb e.column c) (edges_from s t)

abbrev pub conditions_on : Sheet → ℕ → List Condition
conditions_on s t = select (λ d. eqb d.table t) s.conditions

abbrev pub in_condition : Sheet → ℕ → ℕ → Bool
in_condition s t c = any (λ d. eqb d.column c) (conditions_on s t)

-- "R's side table shows, in rising column order, column 0, the child columns of edges that leave R, and R's listed columns"
unfoldable pub is_shown : Sheet → ℕ → ℕ → Bool
is_shown s t c = eqb c 0 || is_child_column s t c || is_listed s t c

unfoldable pub shown : Sheet → ℕ → List ℕ
shown s t = select (is_shown s t) (up_to (width s t))

-- The store's parts are numbered: part t is table t's, part n the list's. How many columns a part's rows have; 0 for an unkept table
unfoldable pub columns : Sheet → ℕ → ℕ
columns s part = cond (ltb part s.n) (cond (kept s part) (length (shown s part)) 0) (length s.listed)

-- how many words a part has room for
unfoldable pub size : Sheet → ℕ → ℕ
size s part = room s part * columns s part

-- the place of a part's first word: nine counts, and the parts before
unfoldable pub start : Sheet → ℕ → ℕ
start s part = count_words + sum (map (size s) (up_to part))

-- "Its length is 9 + the sum of room × shown columns over these"
unfoldable pub store_length : Sheet → ℕ
store_length s = start s (s.n + 1)

-- The plan call's answer: its number, root and store length, and of each table what is printed, with its place and room; sets rising
pub record TablePlan : Type 0 where
  pub kept : ℕ
  pub columns : List ℕ
  pub dep : List ℕ
  pub need : List ℕ
  pub start : ℕ
  pub room : ℕ

pub record Plan : Type 0 where
  pub number : ℕ
  pub root : ℕ
  pub store : ℕ
  pub tables : List TablePlan

-- a set of tables in rising order, each once
unfoldable pub in_order : Sheet → List ℕ → List ℕ
in_order s set = select (λ t. member t set) (tables s)

unfoldable pub table_plan : Sheet → ℕ → TablePlan
table_plan s t =
    record {
      kept = cond (kept s t) 1 0;
      columns = cond (kept s t) (shown s t) [];
      dep = in_order s (dep s t);
      need = in_order s (need s t);
      start = start s t;
      room = room s t;
    }

unfoldable pub good_plan : Sheet → Plan
good_plan s = record { number = 0; root = root s; store = store_length s; tables = map (table_plan s) (tables s) }

-- "plan: every other field zero"
abbrev pub no_plan : ℕ → Plan
no_plan number = record { number = number; root = 0; store = 0; tables = [] }

unfoldable pub plan : Words → Plan
plan sheet = cond (eqb (sheet_refusal sheet) 0) (good_plan (sheet_of sheet)) (no_plan (sheet_refusal sheet))
