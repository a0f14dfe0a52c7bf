-- What a good sheet's tree gives: Dep+ and Need meet the document's own sentences, only the root can be unkept, and what it means if it is.
-- Assumes nothing.
use Prim.Native.Nat.{ℕ, zero, suc, ◌+◌, ◌<◌, ◌≤◌}
use mathlib.Core.Path.{◌≡◌, refl, sym, ap, ◌∙◌}
use mathlib.Core.Bool.{Bool, cond, not, ◌&&◌}
use mathlib.Core.List.{[], ◌∷◌, map}
use mathlib.Core.Logic.{⊎_elim}
use native.Mathlib.Omega.{arith}
use lib.Dec.{T, eqb}
use Rattle.lists.specs.Lists.{Mem, all, flat, member}
use Rattle.lists.proofs.Truth.{F→not, not→F, all-get, mem-select, select-mem, map-mem, map_same, member→Mem, Mem→member, mem-up_to}
use Rattle.lists.proofs.Truth.{eq→eqb, eqb→≡, and-fst, and-snd, decided, cond-true, cond-false, or_inl, or_inr, or_cases}
use Rattle.meaning.specs.Sheet.{Edge, Sheet, tables, leaves, edges_from}
use Rattle.meaning.specs.Plan.{root, edge_into, others, is_promised, promised, dep, dep_plus_in, dep_plus, key_listed, need_in, need, kept}
use Rattle.meaning.specs.Change.{can_take}
use Rattle.laws.specs.Sheets.{Good}
use Rattle.laws.proofs.Lists.{here-or, mem-flat-map}

-- an edge that leaves t on a promise
pub record Promised (s : Sheet) (t : ℕ) (e : Edge) : Type 0 where
  pub edge : Mem e s.edges
  pub child : e.child ≡ t
  pub promise : T (is_promised e)

pub promised-is : (s : Sheet) (t : ℕ) (e : Edge) → Mem e (promised s t) → Promised s t e
promised-is s t e m =
    let a = mem-select is_promised (edges_from s t) e m in
    let b = mem-select (leaves t) s.edges e a.0 in
    record { edge = b.0; child = eqb→≡ e.child t b.1; promise = a.1 }

pub is-promised : (s : Sheet) (t : ℕ) (e : Edge) → Promised s t e → Mem e (promised s t)
is-promised s t e p =
    select-mem is_promised (edges_from s t) e (select-mem (leaves t) s.edges e p.edge (eq→eqb p.child)) p.promise

module _ (s : Sheet) (g : Good s) where
  -- a parent is another table than the child, and is not the root; a promised parent is one step deeper
  pub parent_above : (e : Edge) → Mem e s.edges → e.parent ≡ root s → ⊥
  parent_above e m q = omega (arith, g.deeper e m, ap g.depth q, g.root-top)

  pub parent-other : (e : Edge) → Mem e s.edges → e.parent ≡ e.child → ⊥
  parent-other e m q = omega (arith, g.deeper e m, ap g.depth q)

  pub promised-deeper : (t : ℕ) (e : Edge) → Promised s t e → g.depth e.parent ≡ suc (g.depth t)
  promised-deeper t e p = g.deeper e p.edge ∙ ap (λ c. suc (g.depth c)) p.child

  -- the child with the edge into t is one step less deep
  pub child-shallower : (t : ℕ) → t < s.n → (t ≡ root s → ⊥) → g.depth t ≡ suc (g.depth (edge_into s t).child)
  child-shallower t l d = ap g.depth (sym (g.edge_to t l d)) ∙ g.deeper (edge_into s t) (g.edge_in t l d)

  pub child-of : (t : ℕ) → t < s.n → (t ≡ root s → ⊥) → (edge_into s t).child < s.n
  child-of t l d = g.child-in (edge_into s t) (g.edge_in t l d)

  -- Dep+: the path of promised edges from t is short enough
  dep-fuel : (k t : ℕ) → t < s.n → s.n ≤ g.depth t + k → dep_plus_in s (suc k) t ≡ dep_plus_in s k t
  unfolding dep
  dep-fuel zero t l h = absurd (omega (arith, g.shallow t l))
  dep-fuel (suc k) t l h =
      ap flat (map_same (λ p. p ∷ dep_plus_in s (suc k) p) (λ p. p ∷ dep_plus_in s k p) (dep s t) (λ p m.
      let w = map-mem (λ e. e.parent) (promised s t) p m in
      let q = promised-is s t w.0 w.1 in
      ap (λ l. p ∷ l)
      (rw w.2 (dep-fuel k w.0.parent (g.parent_in w.0 q.edge) (omega (arith, promised-deeper t w.0 q))))))

  pub dep-plus-is : (t : ℕ) → t < s.n → dep_plus s t ≡ flat (map (λ p. p ∷ dep_plus s p) (dep s t))
  unfolding dep_plus
  dep-plus-is t l = sym (dep-fuel s.n t l (omega arith))

  -- Need: the path of children from t to the root is short enough
  need-fuel : (k t : ℕ) → t < s.n → g.depth t < k → need_in s (suc k) t ≡ need_in s k t
  need-fuel zero t l h = absurd (omega arith)
  need-fuel (suc k) t l h =
      here-or (λ u. u ≡ t → need_in s (suc (suc k)) t ≡ need_in s (suc k) t) (root s) t
      (λ q. ap (λ b. cond (key_listed s t) [] b)
      (cond-true (eqb t (root s)) (others s t) ((edge_into s t).child ∷ need_in s (suc k) (edge_into s t).child) (eq→eqb (sym q))
      ∙ sym (cond-true (eqb t (root s)) (others s t) ((edge_into s t).child ∷ need_in s k (edge_into s t).child) (eq→eqb (sym q)))))
      (λ d q. ap (λ b. cond (key_listed s t) [] (cond (eqb t (root s)) (others s t) ((edge_into s t).child ∷ b)))
      (need-fuel k (edge_into s t).child (child-of t l d) (omega (arith, child-shallower t l d))))
      refl

  pub need-listed : (t : ℕ) → T (key_listed s t) → need s t ≡ []
  unfolding need
  need-listed t h = go s.n
    where
      go : (k : ℕ) → need_in s k t ≡ []
      go zero = refl
      go (suc k) = cond-true (key_listed s t) [] (cond (eqb t (root s)) (others s t) ((edge_into s t).child ∷ need_in s k (edge_into s t).child)) h

  pub need-root : (T (key_listed s (root s)) → ⊥) → need s (root s) ≡ others s (root s)
  unfolding need
  need-root h = go s.n g.counts.some
    where
      go : (k : ℕ) → 1 ≤ k → need_in s k (root s) ≡ others s (root s)
      go zero l = absurd (omega arith)
      go (suc k) l =
          let r = root s in
          cond-false (key_listed s r) [] (cond (eqb r r) (others s r) ((edge_into s r).child ∷ need_in s k (edge_into s r).child)) h
          ∙ cond-true (eqb r r) (others s r) ((edge_into s r).child ∷ need_in s k (edge_into s r).child) (eq→eqb {m = r} refl)

  pub need-child : (t : ℕ) → t < s.n → (t ≡ root s → ⊥) → (T (key_listed s t) → ⊥) → need s t ≡ (edge_into s t).child ∷ need s (edge_into s t).child
  unfolding need
  need-child t l d h =
      sym (need-fuel s.n t l (g.shallow t l))
      ∙ cond-false (key_listed s t) [] (cond (eqb t (root s)) (others s t) ((edge_into s t).child ∷ need_in s s.n (edge_into s t).child)) h
      ∙ cond-false (eqb t (root s)) (others s t) ((edge_into s t).child ∷ need_in s s.n (edge_into s t).child) (λ q. d (eqb→≡ t (root s) q))

  -- a table in Dep+(t) is deeper than t, and a promised edge leads to it
  abbrev Below : ℕ → ℕ → Type 0
  Below t u = (g.depth t < g.depth u) × ((e : Edge) × Promised s e.child e × (e.parent ≡ u))

  dep-below : (k t u : ℕ) → Mem u (dep_plus_in s k t) → Below t u
  unfolding dep
  dep-below zero t u m = absurd m
  dep-below (suc k) t u m = go (mem-flat-map (λ p. p ∷ dep_plus_in s k p) (dep s t) u m) (λ p m. dep-below k p u m)
    where
      go : (p : ℕ) × Mem p (dep s t) × Mem u (p ∷ dep_plus_in s k p) → ((p : ℕ) → Mem u (dep_plus_in s k p) → Below p u) → Below t u
      go w ih =
          let f = map-mem (λ e. e.parent) (promised s t) w.0 w.1 in
          let p = promised-is s t f.0 f.1 in
          let up : g.depth w.0 ≡ suc (g.depth t) = ap g.depth f.2 ∙ promised-deeper t f.0 p in
          ⊎_elim
          (λ e. (
            omega (arith, ap g.depth e, up),
            (f.0, record { edge = p.edge; child = refl; promise = p.promise }, sym f.2 ∙ sym e),
          ))
          (λ m. (omega (arith, (ih w.0 m).0, up), (ih w.0 m).1)) w.2

  mem-others : (t u : ℕ) → u < s.n → (u ≡ t → ⊥) → Mem u (others s t)
  unfolding others
  mem-others t u l d = select-mem (λ u. not (eqb u t)) (tables s) u (mem-up_to s.n u l) (F→not (eqb u t) (λ e. d (eqb→≡ u t e)))

  -- Dep+(t) is every other table, and t is in no table's Need
  abbrev depends_on_all : ℕ → Bool
  depends_on_all t = all (λ u. member u (dep_plus s t)) (others s t)

  abbrev unneeded : ℕ → Bool
  unneeded t = all (λ u. not (member t (need s u))) (tables s)

  depends : (t u : ℕ) → T (depends_on_all t) → u < s.n → (u ≡ t → ⊥) → Below t u
  unfolding dep_plus
  depends t u h l d = dep-below s.n t u (member→Mem u (dep_plus s t) (all-get (λ u. member u (dep_plus s t)) (others s t) h u (mem-others t u l d)))

  -- only the root can be unkept
  pub kept_above : (t : ℕ) → t < s.n → (t ≡ root s → ⊥) → T (kept s t)
  unfolding kept
  kept_above t l d =
      F→not (depends_on_all t && unneeded t) (λ h.
      omega (arith, (depends t (root s) (and-fst (depends_on_all t) (unneeded t) h) g.root_in (λ q. d (sym q))).0, g.root-top))

  pub only-root-unkept : (t : ℕ) → t < s.n → (T (kept s t) → ⊥) → t ≡ root s
  only-root-unkept t l h = here-or (λ u. u ≡ t → t ≡ root s) (root s) t (λ q. sym q) (λ d q. absurd (h (kept_above t l d))) refl

  -- if the root is unkept, a promised edge leads to every other table, and the root is in no Need
  unkept : (T (kept s (root s)) → ⊥) → T (depends_on_all (root s) && unneeded (root s))
  unfolding kept
  unkept h =
      let b = depends_on_all (root s) && unneeded (root s) in
      ⊎_elim (λ k. k) (λ k. absurd (h (F→not b k))) (decided b)

  pub all-promised : (T (kept s (root s)) → ⊥) → (t : ℕ) → t < s.n → (t ≡ root s → ⊥) → (e : Edge) × Promised s e.child e × (e.parent ≡ t)
  all-promised h t l d = (depends (root s) t (and-fst (depends_on_all (root s)) (unneeded (root s)) (unkept h)) l d).1

  pub not-needed : (T (kept s (root s)) → ⊥) → (t : ℕ) → t < s.n → Mem (root s) (need s t) → ⊥
  not-needed h t l m =
      not→F (member (root s) (need s t))
      (all-get (λ u. not (member (root s) (need s u))) (tables s) (and-snd (depends_on_all (root s)) (unneeded (root s)) (unkept h)) t (mem-up_to s.n t l))
      (Mem→member (root s) (need s t) m)

  -- if ways can be taken, each other table is kept
  pub others-kept : (R : ℕ) → T (can_take s R) → (u : ℕ) → u < s.n → (u ≡ R → ⊥) → T (kept s u)
  unfolding can_take
  others-kept R h u l d =
      here-or (λ v. v ≡ u → T (kept s v)) (root s) u
      (λ q. ⊎_elim (λ e. absurd (d (sym q ∙ sym (eqb→≡ R (root s) e)))) (λ k. k) (or_cases (eqb R (root s)) (kept s (root s)) h))
      (λ e q. kept_above u l e) refl

  -- if not, R is not the root, and the root is unkept
  pub cannot-root : (R : ℕ) → (T (can_take s R) → ⊥) → R ≡ root s → ⊥
  unfolding can_take
  cannot-root R h q = h (or_inl (eqb R (root s)) (kept s (root s)) (eq→eqb q))

  pub cannot-unkept : (R : ℕ) → (T (can_take s R) → ⊥) → T (kept s (root s)) → ⊥
  unfolding can_take
  cannot-unkept R h k = h (or_inr (eqb R (root s)) (kept s (root s)) k)
