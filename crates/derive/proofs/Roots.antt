-- Which tables are kept: every table but the root; and the root if an edge is not promised, or leads from the root to a table whose key is not listed.
-- Assumes nothing.
use Prim.Native.Nat.{ℕ, zero, suc, ◌<◌, ◌≤◌}
use mathlib.Core.Path.{◌≡◌, refl, sym, ap, subst, ◌∙◌}
use mathlib.Core.Bool.{Bool, true, not, ◌&&◌, ◌||◌}
use mathlib.Core.List.{List}
use mathlib.Core.Logic.{◌⊎◌, inl, inr, ⊎_elim}
use native.Mathlib.Omega.{arith}
use lib.Dec.{T, eqb}
use borrow.Author.Tests.{eqb-true, eqb-false}
use Rattle.lists.specs.Lists.{Words, Mem, all, any, member}
use Rattle.lists.specs.Loops.{some, first}
use Rattle.lists.proofs.Truth.{T→≡, F→not, not→F, same_test, decided, or_inl, or_inr, or_cases, and-fst, and-snd, and_both, all-make, any-get, any-make}
use Rattle.lists.proofs.Truth.{mem-select, member→Mem, Mem→member, up_to-mem, eq→eqb, eqb→≡}
use Rattle.meaning.specs.Sheet.{Edge, Sheet, sheet_of, tables, leaves, table_count, edge_count}
use Rattle.meaning.specs.Plan.{root, edge_into, others, is_promised, dep_plus, dep_plus_in, key_listed, need, kept}
use Rattle.laws.specs.Sheets.{Good}
use Rattle.laws.proofs.Sheets.{good-sheet}
use Rattle.laws.proofs.Trees.{parent_above, child-shallower, child-of, need-listed, need-root, need-child, kept_above, all-promised, not-needed}
use Rattle.sheet.specs.declared.reading.Edge as Declared
use Rattle.sheet.specs.Read.{ReadsEdge}
use Rattle.sheet.specs.Numbered.{edge_no}
use Rattle.sheet.specs.Tree.{goes_no, GoodSheet}
use Rattle.sheet.proofs.Numbers.{any-up}
use Rattle.sheet.proofs.Words.{n-is, edges_are}
use Rattle.derive.specs.Derived.{listed_no, keeps, keeps_no, kept_no}
use Rattle.derive.proofs.Paths.{add-edge}
use Rattle.derive.proofs.Steps.{root-yes, root-no}

module _ (s : Sheet) where
  no_other : (t : ℕ) → Mem t (others s t) → ⊥
  unfolding others
  no_other t m = not→F (eqb t t) (mem-select (λ u. not (eqb u t)) (tables s) t m).1 (eq→eqb {m = t} refl)

module _ (s : Sheet) (g : Good s) where
  -- an edge for which the root is kept: if it were unkept, the edge would be promised, and nobody would need the root
  for-edge : (e : Edge) → Mem e s.edges → T (keeps s (root s) e) → T (kept s (root s))
  unfolding keeps
  for-edge e m h = ⊎_elim (λ k. k) (λ k. absurd (go k (or_cases (not (is_promised e)) (leaves (root s) e && not (key_listed s e.parent)) h)))
      (decided (kept s (root s)))
    where
      go : (T (kept s (root s)) → ⊥) → T (not (is_promised e)) ⊎ T (leaves (root s) e && not (key_listed s e.parent)) → ⊥
      go k (inl h) =
          let x = all-promised s g k e.parent (g.parent_in e m) (parent_above s g e m) in
          not→F (is_promised e) h
          (subst (λ (y : Edge). T (is_promised y)) (sym (g.edge-one x.0 x.1.edge) ∙ ap (edge_into s) x.2 ∙ g.edge-one e m) x.1.promise)
      go k (inr h) =
          let a = and-fst (leaves (root s) e) (not (key_listed s e.parent)) h in
          let b = and-snd (leaves (root s) e) (not (key_listed s e.parent)) h in
          not-needed s g k e.parent (g.parent_in e m)
          (subst (λ (l : List ℕ). Mem (root s) l)
          (sym (need-child s g e.parent (g.parent_in e m) (parent_above s g e m) (not→F (key_listed s e.parent) b)))
          (inl (sym (eqb→≡ e.child (root s) a) ∙ ap (λ (y : Edge). y.child) (sym (g.edge-one e m)))))

  -- no edge keeps the root: each is promised, and leads from the root only to a table whose key is listed
  module _ (none : (e : Edge) → Mem e s.edges → T (keeps s (root s) e) → ⊥) where
    each-promised : (e : Edge) → Mem e s.edges → T (is_promised e)
    unfolding keeps
    each-promised e m =
        ⊎_elim (λ k. k) (λ k. absurd (none e m (or_inl (not (is_promised e)) (leaves (root s) e && not (key_listed s e.parent)) (F→not (is_promised e) k))))
        (decided (is_promised e))

    next-listed : (e : Edge) → Mem e s.edges → e.child ≡ root s → (T (key_listed s e.parent) → ⊥) → ⊥
    unfolding keeps
    next-listed e m q k =
        none e m (or_inr (not (is_promised e)) (leaves (root s) e && not (key_listed s e.parent))
        (and_both (leaves (root s) e) (not (key_listed s e.parent)) (eq→eqb q) (F→not (key_listed s e.parent) k)))

    -- so the root depends on every other table
    depends-on : (k u : ℕ) → u < s.n → (u ≡ root s → ⊥) → g.depth u ≤ k → Mem u (dep_plus_in s k (root s))
    depends-on zero u l d h = absurd (omega (arith, child-shallower s g u l d))
    depends-on (suc k) u l d h =
        subst (λ (v : ℕ). Mem v (dep_plus_in s (suc k) (root s))) (g.edge_to u l d)
        (add-edge s k (root s) (edge_into s u) (g.edge_in u l d) (each-promised (edge_into s u) (g.edge_in u l d))
        (⊎_elim (λ q. inl (eqb→≡ (edge_into s u).child (root s) q))
        (λ q. inr (depends-on k (edge_into s u).child (child-of s g u l d) (λ z. q (eq→eqb z)) (omega (arith, child-shallower s g u l d))))
        (decided (eqb (edge_into s u).child (root s)))))

    -- and no table needs it
    needs-not : (u : ℕ) → u < s.n → ((u ≡ root s → ⊥) → Mem (root s) (need s (edge_into s u).child) → ⊥) → Mem (root s) (need s u) → ⊥
    needs-not u l ih m =
        ⊎_elim (λ q. subst (λ (x : List ℕ). Mem (root s) x) (need-listed s g u q) m)
        (λ q. ⊎_elim (λ z. top q (eqb→≡ u (root s) z)) (λ z. below q (λ y. z (eq→eqb y))) (decided (eqb u (root s)))) (decided (key_listed s u))
      where
        top : (T (key_listed s u) → ⊥) → u ≡ root s → ⊥
        top q z =
            no_other s (root s) (subst (λ (x : List ℕ). Mem (root s) x) (need-root s g (λ k. q (subst (λ (v : ℕ). T (key_listed s v)) (sym z) k)))
            (subst (λ (v : ℕ). Mem (root s) (need s v)) z m))

        below : (T (key_listed s u) → ⊥) → (u ≡ root s → ⊥) → ⊥
        below q d = go (subst (λ (x : List ℕ). Mem (root s) x) (need-child s g u l d q) m)
          where
            go : (root s ≡ (edge_into s u).child) ⊎ Mem (root s) (need s (edge_into s u).child) → ⊥
            go (inl e) = next-listed (edge_into s u) (g.edge_in u l d) (sym e) (λ k. q (subst (λ (v : ℕ). T (key_listed s v)) (g.edge_to u l d) k))
            go (inr m) = ih d m

    unneeded : (k u : ℕ) → u < s.n → g.depth u ≤ k → Mem (root s) (need s u) → ⊥
    unneeded zero u l h m = needs-not u l (λ d m. absurd (omega (arith, child-shallower s g u l d))) m
    unneeded (suc k) u l h m =
        needs-not u l (λ d m. unneeded k (edge_into s u).child (child-of s g u l d) (omega (arith, child-shallower s g u l d)) m) m

    unkept : T (kept s (root s)) → ⊥
    unfolding kept dep_plus others
    unkept k =
        not→F (on-all && by-none) k
        (and_both on-all by-none
        (all-make (λ u. member u (dep_plus s (root s))) (others s (root s)) (λ u m.
        let x = mem-select (λ u. not (eqb u (root s))) (tables s) u m in
        let l = up_to-mem s.n u x.0 in
        Mem→member u (dep_plus s (root s))
        (depends-on s.n u l (λ q. not→F (eqb u (root s)) x.1 (eq→eqb q)) (omega (arith, g.shallow u l)))))
        (all-make (λ u. not (member (root s) (need s u))) (tables s) (λ u m.
        let l = up_to-mem s.n u m in
        F→not (member (root s) (need s u)) (λ h. unneeded s.n u l (omega (arith, g.shallow u l)) (member→Mem (root s) (need s u) h)))))
      where
        on-all : Bool
        on-all = all (λ u. member u (dep_plus s (root s))) (others s (root s))

        by-none : Bool
        by-none = all (λ u. not (member (root s) (need s u))) (tables s)

  root_kept : any (keeps s (root s)) s.edges ≡ kept s (root s)
  root_kept =
      same_test (any (keeps s (root s)) s.edges) (kept s (root s))
      (λ h. let x = any-get (keeps s (root s)) s.edges h in for-edge x.0 x.1 x.2)
      (λ k. ⊎_elim (λ h. h) (λ h. absurd (unkept (λ e m y. h (any-make (keeps s (root s)) s.edges e m y)) k)) (decided (any (keeps s (root s)) s.edges)))

-- by number: an edge goes into t, or none does
module _ (ws : Words) (g : GoodSheet ws) (t i : ℕ) (h : t < table_count ws) (e : i ≡ first (goes_no ws t) (edge_count ws)) where
  pub kept-child : i < edge_count ws → true ≡ kept_no ws t
  unfolding kept_no
  kept-child l =
      let good = good-sheet ws g.not-refused in
      sym (T→≡ (kept (sheet_of ws) t) (kept_above (sheet_of ws) good t (omega (arith, n-is ws)) (eqb-false _ _ (root-no ws t i e g l))))

  pub kept-root : edge_count ws ≤ i → some (keeps_no ws t) (edge_count ws) ≡ kept_no ws t
  unfolding kept_no keeps_no
  kept-root l =
      sym (any-up (keeps (sheet_of ws) t) (edge_no ws) (edge_count ws)) ∙ ap (any (keeps (sheet_of ws) t)) (sym (edges_are ws))
      ∙ subst (λ (r : ℕ). any (keeps (sheet_of ws) r) (sheet_of ws).edges ≡ kept (sheet_of ws) r) (sym (eqb-true _ _ (root-yes ws t i e g h l)))
      (root_kept (sheet_of ws) (good-sheet ws g.not-refused))

-- what an edge that was read says of keeping the root t
pub keeps-test : (ws : Words) (t i : ℕ) {x : Declared.Edge} → ReadsEdge ws i x
    → keeps_no ws t i ≡ (not (eqb x.promise 1) || (eqb x.child t && not (listed_no ws x.parent 0)))
unfolding keeps_no keeps listed_no
keeps-test ws t i r = rw (← r.promise-is, ← r.child-is, ← r.parent_is)
