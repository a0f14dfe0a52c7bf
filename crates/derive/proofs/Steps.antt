-- The ways through the walks of Dep+ and Need, said of words and numbers.
-- Assumes nothing.
use Prim.Native.Nat.{ℕ, zero, suc, ◌-◌, ◌<◌, ◌≤◌}
use mathlib.Core.Path.{◌≡◌, refl, sym, ap, subst, ◌∙◌}
use mathlib.Core.Bool.{Bool, true, false, not, ◌&&◌, ◌||◌}
use mathlib.Core.List.{List, [], ◌∷◌}
use mathlib.Core.Logic.{◌⊎◌, inl, inr}
use native.Mathlib.Numerals.{sub-one}
use native.Mathlib.Omega.{arith}
use lib.Dec.{T, eqb, ltb, leb}
use lib.ListN.{length}
use borrow.Author.Tests.{eqb-true, eq-eqb, ne_eqb, ltb-true, ltb-false, leb-true, leb-false}
use Rattle.lists.specs.Lists.{Words, Mem, any, member}
use Rattle.lists.specs.Loops.{some, first}
use Rattle.lists.proofs.Truth.{T→≡, F→≡, same_test, select-mem, member→Mem, Mem→member, eq→eqb, eqb→≡}
use Rattle.lists.proofs.Loops.{first-at}
use Rattle.laws.proofs.Lists.{any-select}
use Rattle.meaning.specs.Sheet as Meant
use Rattle.meaning.specs.Sheet.{Sheet, sheet_of, goes_into, leaves, edges_into, is_root, table_count, edge_count, listed_count}
use Rattle.meaning.specs.Plan.{root, edge_into, others, is_promised, dep_plus_in, is_listed, names, is_shown}
use Rattle.sheet.specs.declared.reading.Edge.{Edge}
use Rattle.sheet.specs.Read.{ReadsEdge}
use Rattle.sheet.specs.Numbered.{edge_no, listing_no}
use Rattle.sheet.specs.Tests.{listing_names}
use Rattle.sheet.proofs.Numbers.{member-chosen, any-up, found, not_found, first_passes}
use Rattle.sheet.proofs.Words.{n-is, edges_are, edge-there, listed-are}
use Rattle.sheet.specs.Tree.{goes_no, root_no, Joined, GoodSheet}
use Rattle.sheet.proofs.Into.{into-none, into-first, into-only}
use Rattle.derive.specs.Derived.{dep_no, listed_no, need_no, leaves_by, shown_no}
use Rattle.derive.proofs.Paths.{LastEdge, last-edge, add-edge}

-- a test that is false because it cannot be passed
fails : (b : Bool) → (T b → ⊥) → false ≡ b
fails b h = sym (F→≡ b h)

-- Dep+ as a test and as membership
dep-mem : (ws : Words) (k t u : ℕ) → T (dep_no ws k t u) → Mem u (dep_plus_in (sheet_of ws) k t)
unfolding dep_no
dep-mem ws k t u h = member→Mem u (dep_plus_in (sheet_of ws) k t) h

mem-dep : (ws : Words) (k t u : ℕ) → Mem u (dep_plus_in (sheet_of ws) k t) → T (dep_no ws k t u)
unfolding dep_no
mem-dep ws k t u h = Mem→member u (dep_plus_in (sheet_of ws) k t) h

-- no edge is left on the path
pub dep-end : (ws : Words) (t u left : ℕ) → left ≡ 0 → false ≡ dep_no ws left t u
unfolding dep_no
dep-end ws t u left z = rw z

module _ (ws : Words) (u i : ℕ) (e : i ≡ first (goes_no ws u) (edge_count ws)) where
  -- the edge found goes into u
  pub goes-there : i < edge_count ws → (edge_no ws i).parent ≡ u
  unfolding goes_no
  goes-there h = eqb-true _ _ (rw (← e) at (first_passes (goes_no ws u) (edge_count ws) (found _ _ i e h)).1)

  -- an edge into u is the one found
  pub the-edge : Joined ws → i < edge_count ws → (x : Meant.Edge) → Mem x (sheet_of ws).edges → x.parent ≡ u → x ≡ edge_no ws i
  the-edge j h x m q =
      let l : u < table_count ws = omega (arith, goes-there h, (j.rules.edges i h).parent_in) in
      only (into-only ws u i e (j.one-into u l) h) (select-mem (goes_into u) (sheet_of ws).edges x m (eq→eqb q))
    where
      only : edges_into (sheet_of ws) u ≡ edge_no ws i ∷ [] → Mem x (edges_into (sheet_of ws) u) → x ≡ edge_no ws i
      only r k = go (subst (λ (l : List Meant.Edge). Mem x l) r k)
        where
          go : Mem x (edge_no ws i ∷ []) → x ≡ edge_no ws i
          go (inl z) = z
          go (inr z) = absurd z

  -- Dep+: no edge goes into u, it is not promised, it comes from t, or the walk goes on
  module _ (t : ℕ) where
    pub dep-none : (left : ℕ) → edge_count ws ≤ i → false ≡ dep_no ws left t u
    unfolding dep_no
    dep-none zero h = refl
    dep-none (suc left) h = fails (dep_no ws (suc left) t u) (λ m. go (last-edge (sheet_of ws) left t u (dep-mem ws (suc left) t u m)))
      where
        go : LastEdge (sheet_of ws) left t u → ⊥
        go x =
            subst (λ (l : List Meant.Edge). Mem x.edge l) (into-none ws u i e h)
            (select-mem (goes_into u) (sheet_of ws).edges x.edge x.there (eq→eqb x.goes))

    module _ (j : Joined ws) (h : i < edge_count ws) {x : Edge} (r : ReadsEdge ws i x) where
      pub dep-loose : (left : ℕ) → (x.promise ≡ 1 → ⊥) → false ≡ dep_no ws left t u
      unfolding dep_no
      dep-loose zero n = refl
      dep-loose (suc left) n = fails (dep_no ws (suc left) t u) (λ m. go (last-edge (sheet_of ws) left t u (dep-mem ws (suc left) t u m)))
        where
          go : LastEdge (sheet_of ws) left t u → ⊥
          go l = n (r.promise-is ∙ eqb→≡ _ _ (subst (λ (y : Meant.Edge). T (is_promised y)) (the-edge j h l.edge l.there l.goes) l.promised))

      -- the promised edge found is the last on a path
      dep-by : (left : ℕ) → x.promise ≡ 1 → (x.child ≡ t) ⊎ Mem x.child (dep_plus_in (sheet_of ws) left t) → T (dep_no ws (suc left) t u)
      dep-by left p from =
          mem-dep ws (suc left) t u (subst (λ (v : ℕ). Mem v (dep_plus_in (sheet_of ws) (suc left) t)) (goes-there h)
          (add-edge (sheet_of ws) left t (edge_no ws i) (edge-there ws i h) (eq→eqb (sym r.promise-is ∙ p))
          (subst (λ (v : ℕ). (v ≡ t) ⊎ Mem v (dep_plus_in (sheet_of ws) left t)) r.child-is from)))

      pub dep-here : (left : ℕ) → (left ≡ 0 → ⊥) → x.promise ≡ 1 → x.child ≡ t → true ≡ dep_no ws left t u
      dep-here zero z p q = absurd (z refl)
      dep-here (suc left) z p q = sym (T→≡ (dep_no ws (suc left) t u) (dep-by left p (inl q)))

      pub dep-on : (left : ℕ) (b : Bool) → (left ≡ 0 → ⊥) → x.promise ≡ 1 → (x.child ≡ t → ⊥) → b ≡ dep_no ws (left - 1) t x.child → b ≡ dep_no ws left t u
      dep-on zero b z p q w = absurd (z refl)
      dep-on (suc left) b z p q w =
          w ∙ ap (λ (k : ℕ). dep_no ws k t x.child) (sub-one (suc left))
          ∙ same_test (dep_no ws left t x.child) (dep_no ws (suc left) t u)
          (λ m. dep-by left p (inr (dep-mem ws left t x.child m)))
          (λ m. mem-dep ws left t x.child (back (last-edge (sheet_of ws) left t u (dep-mem ws (suc left) t u m))))
        where
          back : LastEdge (sheet_of ws) left t u → Mem x.child (dep_plus_in (sheet_of ws) left t)
          back l =
              go (subst (λ (v : ℕ). (v ≡ t) ⊎ Mem v (dep_plus_in (sheet_of ws) left t))
              (ap (λ (y : Meant.Edge). y.child) (the-edge j h l.edge l.there l.goes) ∙ sym r.child-is) l.from)
            where
              go : (x.child ≡ t) ⊎ Mem x.child (dep_plus_in (sheet_of ws) left t) → Mem x.child (dep_plus_in (sheet_of ws) left t)
              go (inl e) = absurd (q e)
              go (inr m) = m

-- a column is listed exactly if some listing names it: the first that does is found among all
pub listed-is : (ws : Words) (t c : ℕ) → listed_no ws t c ≡ some (listing_names ws t c) (listed_count ws)
unfolding listed_no listing_names
listed-is ws t c = ap (any (names t c)) (listed-are ws) ∙ any-up (names t c) (listing_no ws) (listed_count ws)

pub listed-test : (ws : Words) (t c l p : ℕ) → p ≡ listed_count ws → l ≡ first (listing_names ws t c) p → ltb l p ≡ listed_no ws t c
listed-test ws t c l p q e = go (ltb l p) refl ∙ ap (some (listing_names ws t c)) q ∙ sym (listed-is ws t c)
  where
    go : (b : Bool) → ltb l p ≡ b → b ≡ some (listing_names ws t c) p
    go true h = sym (found _ p l e (ltb-true _ _ h))
    go false h = sym (not_found _ p l e (ltb-false _ _ h))

-- the edge into a table, and whether it is the root
module _ (ws : Words) (t i : ℕ) (e : i ≡ first (goes_no ws t) (edge_count ws)) where
  pub edge-is : i < edge_count ws → edge_into (sheet_of ws) t ≡ edge_no ws i
  unfolding edge_into
  edge-is h = rw (into-first ws t i e h).1

  pub root-yes : GoodSheet ws → t < table_count ws → edge_count ws ≤ i → eqb t (root (sheet_of ws)) ≡ true
  root-yes g l h = eq-eqb _ _ (g.one-root t l (eq-eqb (length (edges_into (sheet_of ws) t)) 0 (ap length (into-none ws t i e h))))

  pub root-no : GoodSheet ws → i < edge_count ws → eqb t (root (sheet_of ws)) ≡ false
  root-no g h = ne_eqb _ _ (λ q. clash (eqb-true _ _ (subst (λ (r : ℕ). is_root (sheet_of ws) r ≡ true) (sym q) g.root_is)))
    where
      clash : length (edges_into (sheet_of ws) t) ≡ 0 → ⊥
      clash z = let x = into-first ws t i e h in omega (arith, ap length x.1)

-- the root is the first table with no edge into it
pub root-test : (ws : Words) (t i m : ℕ) → i ≡ first (goes_no ws t) (edge_count ws) → m ≡ edge_count ws → leb m i ≡ root_no ws t
unfolding root_no
root-test ws t i m e q = go (leb m i) refl
  where
    go : (b : Bool) → leb m i ≡ b → b ≡ is_root (sheet_of ws) t
    go true h = let l = leb-true m i h in sym (eq-eqb (length (edges_into (sheet_of ws) t)) 0 (ap length (into-none ws t i e (omega arith))))
    go false h =
        let l = leb-false m i h in
        let x = into-first ws t i e (omega arith) in
        sym (ne_eqb (length (edges_into (sheet_of ws) t)) 0 (λ z. omega (arith, ap length x.1)))

pub first-root : (ws : Words) → GoodSheet ws → first (root_no ws) (table_count ws) ≡ root (sheet_of ws)
unfolding root_no
first-root ws g = (first-at (root_no ws) (root (sheet_of ws)) (table_count ws) g.root_in (go (some (root_no ws) (root (sheet_of ws))) refl) g.root_is).1
  where
    go : (b : Bool) → some (root_no ws) (root (sheet_of ws)) ≡ b → b ≡ false
    go true h =
        let x = first_passes (root_no ws) (root (sheet_of ws)) h in
        absurd (omega (arith, x.0, g.root_in, g.one-root (first (root_no ws) (root (sheet_of ws))) (omega (arith, x.0, g.root_in)) x.1))
    go false h = refl

pub member-others : (s : Sheet) (t u : ℕ) → member u (others s t) ≡ (ltb u s.n && not (eqb u t))
unfolding others
member-others s t u = member-chosen (λ v. not (eqb v t)) s.n u

-- Need: no table is left, or t's key is listed
pub need-end : (ws : Words) (t u left : ℕ) → left ≡ 0 → false ≡ need_no ws left t u
unfolding need_no
need-end ws t u left z = rw z

module _ (ws : Words) (t u : ℕ) where
  pub need-listed : (left : ℕ) → (left ≡ 0 → ⊥) → listed_no ws t 0 ≡ true → false ≡ need_no ws left t u
  unfolding listed_no need_no
  need-listed zero z h = absurd (z refl)
  need-listed (suc left) z h = rw h

  -- otherwise t is the root, or the walk goes to the child of the edge into it
  module _ (g : GoodSheet ws) (h : t < table_count ws) (unlisted : listed_no ws t 0 ≡ false) (i : ℕ) (ie : i ≡ first (goes_no ws t) (edge_count ws)) where
    pub need-root : (left n : ℕ) → (left ≡ 0 → ⊥) → edge_count ws ≤ i → n ≡ table_count ws → (ltb u n && not (eqb u t)) ≡ need_no ws left t u
    unfolding listed_no need_no
    need-root zero n z r m = absurd (z refl)
    need-root (suc left) n z r m = rw (unlisted, root-yes ws t i ie g h r, member-others (sheet_of ws) t u, n-is ws ∙ sym m)

    module _ (r : i < edge_count ws) {x : Edge} (reads : ReadsEdge ws i x) where
      pub need-child : (left : ℕ) → (left ≡ 0 → ⊥) → x.child ≡ u → true ≡ need_no ws left t u
      unfolding listed_no need_no
      need-child zero z q = absurd (z refl)
      need-child (suc left) z q =
          rw (unlisted, root-no ws t i ie g r, edge-is ws t i ie r, ← reads.child-is, eq-eqb u x.child (sym q))

      pub need-on : (left : ℕ) (b : Bool) → (left ≡ 0 → ⊥) → (x.child ≡ u → ⊥) → b ≡ need_no ws (left - 1) x.child u → b ≡ need_no ws left t u
      unfolding listed_no need_no
      need-on zero b z q w = absurd (z refl)
      need-on (suc left) b z q w =
          rw (
            unlisted,
            root-no ws t i ie g r,
            edge-is ws t i ie r,
            ← reads.child-is,
            ne_eqb u x.child (λ k. q (sym k)),
            ← sub-one (suc left),
          ) w

-- shown, by number
pub shown-is : (ws : Words) (t c : ℕ) → shown_no ws t c ≡ (eqb c 0 || some (leaves_by ws t c) (edge_count ws) || listed_no ws t c)
unfolding shown_no is_shown leaves_by listed_no
shown-is ws t c =
    ap (λ a. eqb c 0 || a || is_listed (sheet_of ws) t c)
    (any-select (λ e. eqb e.column c) (leaves t) (sheet_of ws).edges ∙ ap (any (λ e. leaves t e && eqb e.column c)) (edges_are ws)
    ∙ any-up (λ e. leaves t e && eqb e.column c) (edge_no ws) (edge_count ws))
