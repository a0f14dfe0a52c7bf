-- What a good sheet is, as facts: every number it names is in range, and its edges are a tree in which each table has a depth below the root.
-- All that laws and contracts use of a sheet that no refusal meets.
-- Assumes nothing.
use Rattle.std.specs.Prelude.{ℕ, suc, ◌+◌, ◌<◌, ◌≤◌, ◌≡◌, T, length}
use Rattle.lists.specs.Lists.{Mem, none_twice}
use Rattle.meaning.specs.Limits.{most_tables, most_columns, most_conditions, most_listed, most_room}
use Rattle.meaning.specs.Sheet.{Edge, Condition, Listed, Sheet, width, room, same_listed, is_root}
use Rattle.meaning.specs.Plan.{root, edge_into}

-- the sheet's counts
pub record Counted (s : Sheet) : Type 0 where
  pub some : 1 ≤ s.n
  pub eight : s.n ≤ most_tables
  pub widths-many : length s.widths ≡ s.n
  pub edges-many : length s.edges + 1 ≡ s.n
  pub conditions-many : length s.conditions ≤ most_conditions
  pub listed-some : 1 ≤ length s.listed
  pub listed-many : length s.listed ≤ most_listed
  pub rooms-many : length s.rooms ≡ s.n + 1

pub record Good (s : Sheet) : Type 0 where
  pub counts : Counted s
  -- its words
  pub wide : (t : ℕ) → t < s.n → 1 ≤ width s t
  pub narrow : (t : ℕ) → t < s.n → width s t ≤ most_columns
  pub child-in : (e : Edge) → Mem e s.edges → e.child < s.n
  pub column-in : (e : Edge) → Mem e s.edges → e.column < width s e.child
  pub column-some : (e : Edge) → Mem e s.edges → 1 ≤ e.column
  pub parent_in : (e : Edge) → Mem e s.edges → e.parent < s.n
  pub promise-bit : (e : Edge) → Mem e s.edges → e.promise ≤ 1
  pub condition-in : (d : Condition) → Mem d s.conditions → d.table < s.n
  pub condition-column : (d : Condition) → Mem d s.conditions → d.column < width s d.table
  pub listed_in : (l : Listed) → Mem l s.listed → l.table < s.n
  pub listed-column : (l : Listed) → Mem l s.listed → l.column < width s l.table
  pub listed-once : T (none_twice same_listed s.listed)
  pub room_in : (part : ℕ) → part ≤ s.n → room s part ≤ most_room
  -- its tree: the root, the one edge into each other table, and how far each table is from the root
  pub root_in : root s < s.n
  pub only-root : (t : ℕ) → t < s.n → T (is_root s t) → t ≡ root s
  pub edge_in : (t : ℕ) → t < s.n → (t ≡ root s → ⊥) → Mem (edge_into s t) s.edges
  pub edge_to : (t : ℕ) → t < s.n → (t ≡ root s → ⊥) → (edge_into s t).parent ≡ t
  pub edge-one : (e : Edge) → Mem e s.edges → edge_into s e.parent ≡ e
  pub depth : ℕ → ℕ
  pub deeper : (e : Edge) → Mem e s.edges → depth e.parent ≡ suc (depth e.child)
  pub shallow : (t : ℕ) → t < s.n → depth t < s.n
  pub root-top : depth (root s) ≡ 0
