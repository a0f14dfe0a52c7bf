-- A sheet whose refusal is 0 is good: every number it names is in range, and its edges are a tree in which each table has a depth below the root.
-- All that later laws use of a sheet is the record `Good`.
-- Assumes nothing.
use Prim.Native.Nat.{ℕ, zero, suc, ◌+◌, ◌*◌, ◌-◌, ◌<◌, ◌≤◌}
use mathlib.Core.Path.{◌≡◌, refl, sym, ap, ◌∙◌, subst}
use mathlib.Core.Bool.{Bool, true, false, cond}
use mathlib.Core.List.{List, [], ◌∷◌}
use mathlib.Core.Logic.{◌⊎◌, inl, inr}
use native.Mathlib.Omega.{arith}
use lib.Dec.{T, ltb, leb, eqb, ltb→lt, leb→le}
use lib.ListN.{length, drop, length-take, length-drop, length-map}
use Rattle.lists.specs.Lists.{Words, between, Mem, all, any, select, none_twice}
use Rattle.lists.proofs.Truth.{all-get, any-get, mem-select, select-mem, mem-get_or, mem-up_to, up_to-mem, eq→eqb, eqb→≡}
use Rattle.lists.proofs.Truth.{false→F, or_cases, cond-true, cond-false}
use Rattle.rows.specs.Rows.{cut}
use Rattle.rows.proofs.Cut.{cut-length}
use Rattle.meaning.specs.Sheet.{Edge, Condition, Listed, Sheet, edge_of, condition_of, listed_of, edges_at, conditions_at, listed_at, rooms_at, sheet_of}
use Rattle.meaning.specs.Sheet.{tables, width, room, good_counts, good_edge, good_condition, good_listed, same_listed, good_words, goes_into, edges_into}
use Rattle.meaning.specs.Sheet.{is_root, reached, good_tree, sheet_refusal, table_count, edge_count, condition_count, listed_count}
use Rattle.meaning.specs.Plan.{root, edge_into}
use Rattle.meaning.specs.Demands.{sheet_tests}
use Rattle.laws.specs.Sheets.{Counted, Good}
use Rattle.laws.proofs.Lists.{Each, facts, single}
use Rattle.laws.proofs.Numbers.{Passed, first-zero, sheet-first}

-- the tests of a sheet beyond its counts, one by one
abbrev word_tests : Sheet → List Bool
word_tests s =
    all (between 1 8) s.widths ∷ all (good_edge s) s.edges ∷ all (good_condition s) s.conditions ∷ all (good_listed s) s.listed
    ∷ none_twice same_listed s.listed ∷ all (between 0 4096) s.rooms ∷ []

abbrev between_tests : ℕ → ℕ → ℕ → List Bool
between_tests lowest highest x = leb lowest x ∷ leb x highest ∷ []

abbrev edge_tests : Sheet → Edge → List Bool
edge_tests s e = ltb e.child s.n ∷ ltb e.column (width s e.child) ∷ leb 1 e.column ∷ ltb e.parent s.n ∷ leb e.promise 1 ∷ []

abbrev condition_tests : Sheet → Condition → List Bool
condition_tests s d = ltb d.table s.n ∷ ltb d.column (width s d.table) ∷ leb d.lowest d.highest ∷ []

abbrev listed_tests : Sheet → Listed → List Bool
listed_tests s l = ltb l.table s.n ∷ ltb l.column (width s l.table) ∷ []

abbrev tree_tests : Sheet → List Bool
tree_tests s =
    eqb (length (select (is_root s) (tables s))) 1 ∷ all (λ t. leb (length (edges_into s t)) 1) (tables s) ∷ all (reached s (s.n - 1)) (tables s) ∷ []

module _ (s : Sheet) (c : Counted s) (words-good : T (good_words s)) (tree-good : T (good_tree s)) where
  words : Each (word_tests s)
  unfolding good_words
  words = facts (word_tests s) words-good

  width-in : (t : ℕ) → t < s.n → Each (between_tests 1 8 (width s t))
  width-in t l =
      facts (between_tests 1 8 (width s t))
      (all-get (between 1 8) s.widths words.0 (width s t) (mem-get_or 0 s.widths t (omega (arith, c.widths-many))))

  room_in : (t : ℕ) → t ≤ s.n → Each (between_tests 0 4096 (room s t))
  room_in t l =
      facts (between_tests 0 4096 (room s t))
      (all-get (between 0 4096) s.rooms words.1.1.1.1.1.0 (room s t) (mem-get_or 0 s.rooms t (omega (arith, c.rooms-many))))

  edge : (e : Edge) → Mem e s.edges → Each (edge_tests s e)
  unfolding good_edge
  edge e m = facts (edge_tests s e) (all-get (good_edge s) s.edges words.1.0 e m)

  condition : (d : Condition) → Mem d s.conditions → Each (condition_tests s d)
  unfolding good_condition
  condition d m = facts (condition_tests s d) (all-get (good_condition s) s.conditions words.1.1.0 d m)

  listed : (l : Listed) → Mem l s.listed → Each (listed_tests s l)
  unfolding good_listed
  listed l m = facts (listed_tests s l) (all-get (good_listed s) s.listed words.1.1.1.0 l m)

  child-in : (e : Edge) → Mem e s.edges → e.child < s.n
  child-in e m = ltb→lt e.child s.n (edge e m).0

  parent_in : (e : Edge) → Mem e s.edges → e.parent < s.n
  parent_in e m = ltb→lt e.parent s.n (edge e m).1.1.1.0

  -- the tree
  tree : Each (tree_tests s)
  unfolding good_tree
  tree = facts (tree_tests s) tree-good

  one-root : length (select (is_root s) (tables s)) ≡ 1
  one-root = eqb→≡ (length (select (is_root s) (tables s))) 1 tree.0

  one-edge : (t : ℕ) → t < s.n → length (edges_into s t) ≤ 1
  one-edge t l = leb→le (length (edges_into s t)) 1 (all-get (λ t. leb (length (edges_into s t)) 1) (tables s) tree.1.0 t (mem-up_to s.n t l))

  reaches : (t : ℕ) → t < s.n → T (reached s (s.n - 1) t)
  reaches t l = all-get (reached s (s.n - 1)) (tables s) tree.1.1.0 t (mem-up_to s.n t l)

  the-edge : (t : ℕ) → t < s.n → (e : Edge) → Mem e (edges_into s t) → edge_into s t ≡ e
  unfolding edge_into
  the-edge t l e m = single (record { child = 0; column = 0; parent = 0; promise = 0 }) e (edges_into s t) (one-edge t l) m

  into : (e : Edge) → Mem e s.edges → Mem e (edges_into s e.parent)
  into e m = select-mem (goes_into e.parent) s.edges e m (eq→eqb {m = e.parent} refl)

  has-root : Mem (root s) (tables s) × T (is_root s (root s))
  unfolding root
  has-root = mem-select (is_root s) (tables s) (root s) (mem-get_or 0 (select (is_root s) (tables s)) 0 (omega (arith, one-root)))

  only-root : (t : ℕ) → t < s.n → T (is_root s t) → t ≡ root s
  unfolding root
  only-root t l h = sym (single 0 t (select (is_root s) (tables s)) (omega (arith, one-root)) (select-mem (is_root s) (tables s) t (mem-up_to s.n t l) h))

  edge-found : (t : ℕ) → t < s.n → (t ≡ root s → ⊥) → Mem (edge_into s t) s.edges × T (goes_into t (edge_into s t))
  unfolding edge_into
  edge-found t l d =
      let ne : length (edges_into s t) ≡ 0 → ⊥ = (λ q. d (only-root t l (eq→eqb q))) in
      mem-select (goes_into t) s.edges (edge_into s t)
      (mem-get_or (record { child = 0; column = 0; parent = 0; promise = 0 }) (edges_into s t) 0 (omega arith))

  -- how far a table is from the root; k edges are enough where t is reached in k
  depth_in : ℕ → ℕ → ℕ
  depth_in zero t = 0
  depth_in (suc k) t = cond (is_root s t) 0 (suc (depth_in k (edge_into s t).child))

  settled : (k t : ℕ) → t < s.n → T (reached s k t) → (depth_in (suc k) t ≡ depth_in k t) × (depth_in k t ≤ k)
  unfolding depth_in
  settled zero t l h = (cond-true (is_root s t) 0 1 h, omega arith)
  settled (suc k) t l h =
      go (is_root s t) refl (or_cases (is_root s t) (any (λ e. reached s k e.child) (edges_into s t)) h) (λ l h. settled k (edge_into s t).child l h)
    where
      q : ℕ
      q = (edge_into s t).child

      go : (b : Bool) → is_root s t ≡ b → T (is_root s t) ⊎ T (any (λ e. reached s k e.child) (edges_into s t))
          → (q < s.n → T (reached s k q) → (depth_in (suc k) q ≡ depth_in k q) × (depth_in k q ≤ k))
          → (cond b 0 (suc (depth_in (suc k) q)) ≡ cond b 0 (suc (depth_in k q))) × (cond b 0 (suc (depth_in k q)) ≤ suc k)
      go true e w ih = (refl, omega arith)
      go false e (inl r) ih = absurd (false→F e r)
      go false e (inr r) ih =
          let f = any-get (λ e. reached s k e.child) (edges_into s t) r in
          let p = the-edge t l f.0 f.1 in
          let i = ih (subst (λ (e : Edge). e.child < s.n) (sym p) (child-in f.0 (mem-select (goes_into t) s.edges f.0 f.1).0))
          (subst (λ (e : Edge). T (reached s k e.child)) (sym p) f.2) in
          (ap suc i.0, omega (arith, i.1))

  depth : ℕ → ℕ
  depth t = depth_in s.n t

  less : s.n ≡ suc (s.n - 1)
  less = omega (arith, c.some)

  depth-less : (t : ℕ) → t < s.n → depth t ≡ depth_in (s.n - 1) t
  unfolding depth
  depth-less t l = ap (λ k. depth_in k t) less ∙ (settled (s.n - 1) t l (reaches t l)).0

  deeper : (e : Edge) → Mem e s.edges → depth e.parent ≡ suc (depth e.child)
  unfolding depth depth_in
  deeper e m =
      ap (λ k. depth_in k e.parent) less
      ∙ cond-false (is_root s e.parent) 0 (suc (depth_in (s.n - 1) (edge_into s e.parent).child))
      (λ h. none (edges_into s e.parent) (eqb→≡ (length (edges_into s e.parent)) 0 h) (into e m))
      ∙ ap (λ d. suc (depth_in (s.n - 1) d.child)) (the-edge e.parent (parent_in e m) e (into e m))
      ∙ ap suc (sym (depth-less e.child (child-in e m)))
    where
      none : (xs : List Edge) → length xs ≡ 0 → Mem e xs → ⊥
      none [] q m = m
      none (x ∷ xs) q m = omega arith

  root-top : depth (root s) ≡ 0
  unfolding depth depth_in
  root-top = ap (λ k. depth_in k (root s)) less ∙ cond-true (is_root s (root s)) 0 (suc (depth_in (s.n - 1) (edge_into s (root s)).child)) has-root.1

  shallow : (t : ℕ) → t < s.n → depth t < s.n
  shallow t l = omega (arith, depth-less t l, (settled (s.n - 1) t l (reaches t l)).1)

  pub tested-good : Good s
  tested-good =
      record {
        counts = c;
        wide = λ t l. leb→le 1 (width s t) (width-in t l).0;
        narrow = λ t l. leb→le (width s t) 8 (width-in t l).1.0;
        child-in = child-in;
        column-in = λ e m. ltb→lt e.column (width s e.child) (edge e m).1.0;
        column-some = λ e m. leb→le 1 e.column (edge e m).1.1.0;
        parent_in = parent_in;
        promise-bit = λ e m. leb→le e.promise 1 (edge e m).1.1.1.1.0;
        condition-in = λ d m. ltb→lt d.table s.n (condition d m).0;
        condition-column = λ d m. ltb→lt d.column (width s d.table) (condition d m).1.0;
        listed_in = λ l m. ltb→lt l.table s.n (listed l m).0;
        listed-column = λ l m. ltb→lt l.column (width s l.table) (listed l m).1.0;
        listed-once = words.1.1.1.1.0;
        room_in = λ part l. leb→le (room s part) 4096 (room_in part l).1.0;
        root_in = up_to-mem s.n (root s) has-root.0;
        only-root = only-root;
        edge_in = λ t l d. (edge-found t l d).0;
        edge_to = λ t l d. eqb→≡ (edge_into s t).parent t (edge-found t l d).1;
        edge-one = λ e m. the-edge e.parent (parent_in e m) e (into e m);
        depth = depth;
        deeper = deeper;
        shallow = shallow;
        root-top = root-top;
      }

-- the tests of the counts
pub counted : (ws : Words) → T (good_counts ws) → Counted (sheet_of ws)
unfolding good_counts sheet_of
counted ws h =
    let n = table_count ws in
    let e = edge_count ws in
    let c = condition_count ws in
    let p = listed_count ws in
    let k = facts (leb 1 n ∷ leb n 8 ∷ eqb (e + 1) n ∷ between 0 16 c ∷ between 1 16 p ∷ eqb (length ws) (4 + 2 * n + 1 + 4 * e + 4 * c + 2 * p) ∷ []) h in
    let c-in = facts (leb 0 c ∷ leb c 16 ∷ []) k.1.1.1.0 in
    let p-in = facts (leb 1 p ∷ leb p 16 ∷ []) k.1.1.1.1.0 in
    let edges_are : e + 1 ≡ n = eqb→≡ (e + 1) n k.1.1.0 in
    let long : length ws ≡ 4 + 2 * n + 1 + 4 * e + 4 * c + 2 * p = eqb→≡ (length ws) _ k.1.1.1.1.1.0 in
    let c-is : length (sheet_of ws).conditions ≡ c = length-map (cut 4 c (drop (conditions_at ws) ws)) condition_of ∙ cut-length 4 c _ in
    let p-is : length (sheet_of ws).listed ≡ p = length-map (cut 2 p (drop (listed_at ws) ws)) listed_of ∙ cut-length 2 p _ in
    record {
      some = leb→le 1 n k.0;
      eight = leb→le n 8 k.1.0;
      widths-many = length-take n (drop 4 ws) ∙ omega (arith, length-drop 4 ws);
      edges-many = ap (λ k. k + 1) (length-map (cut 4 e (drop (edges_at ws) ws)) edge_of ∙ cut-length 4 e _) ∙ edges_are;
      conditions-many = subst (λ (k : ℕ). k ≤ 16) (sym c-is) (leb→le c 16 c-in.1.0);
      listed-some = subst (λ (k : ℕ). 1 ≤ k) (sym p-is) (leb→le 1 p p-in.0);
      listed-many = subst (λ (k : ℕ). k ≤ 16) (sym p-is) (leb→le p 16 p-in.1.0);
      rooms-many = length-drop (rooms_at ws) ws ∙ omega arith;
    }

pub sheet-passed : (ws : Words) → sheet_refusal ws ≡ 0 → Passed (sheet_tests ws)
sheet-passed ws e = first-zero (sheet_tests ws) tt _ (sheet-first ws) e

pub good-passed : (ws : Words) → Passed (sheet_tests ws) → Good (sheet_of ws)
good-passed ws p = tested-good (sheet_of ws) (counted ws p.0) p.1.0 p.1.1.0

pub good-sheet : (ws : Words) → sheet_refusal ws ≡ 0 → Good (sheet_of ws)
good-sheet ws e = good-passed ws (sheet-passed ws e)
