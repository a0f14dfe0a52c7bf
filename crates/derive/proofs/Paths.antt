-- Dep+ of a table, walked from its far end: a table is in it exactly if a promised edge goes into it from the table itself or from one in its Dep+.
-- Assumes nothing.
use Prim.Native.Nat.{ℕ, zero, suc}
use mathlib.Core.Path.{◌≡◌, refl, sym, subst, ◌∙◌}
use mathlib.Core.List.{List, [], ◌∷◌, map}
use mathlib.Core.Logic.{◌⊎◌, inl, inr}
use lib.Dec.{T}
use Rattle.lists.specs.Lists.{Mem, flat}
use Rattle.lists.proofs.Truth.{mem-map, map-mem, mem-select, select-mem, eq→eqb, eqb→≡}
use Rattle.laws.proofs.Lists.{mem-left, mem-right, mem-flat-map}
use Rattle.meaning.specs.Sheet.{Edge, Sheet, leaves, edges_from}
use Rattle.meaning.specs.Plan.{is_promised, promised, dep, dep_plus_in}

-- an element of one of the lists that are laid end to end
module _ {A B : Type 0} (f : A → List B) where
  pub mem-flat : (xs : List A) (x : A) (y : B) → Mem x xs → Mem y (f x) → Mem y (flat (map f xs))
  mem-flat [] x y m k = absurd m
  mem-flat (z ∷ xs) x y (inl e) k = mem-left (f z) (flat (map f xs)) y (subst (λ (w : A). Mem y (f w)) e k)
  mem-flat (z ∷ xs) x y (inr m) k = mem-right (f z) (flat (map f xs)) y (mem-flat xs x y m k)

module _ (s : Sheet) where
  -- a promised edge from t to p
  pub record PromisedEdge (t p : ℕ) : Type 0 where
    pub edge : Edge
    pub there : Mem edge s.edges
    pub promised : T (is_promised edge)
    pub leaves : edge.child ≡ t
    pub goes : edge.parent ≡ p

  pub dep-edge : (t p : ℕ) → Mem p (dep s t) → PromisedEdge t p
  unfolding dep
  dep-edge t p m =
      let x = map-mem (λ e. e.parent) (promised s t) p m in
      let a = mem-select is_promised (edges_from s t) x.0 x.1 in
      let b = mem-select (leaves t) s.edges x.0 a.0 in
      record { edge = x.0; there = b.0; promised = a.1; leaves = eqb→≡ _ _ b.1; goes = sym x.2 }

  pub edge-dep : (e : Edge) → Mem e s.edges → T (is_promised e) → Mem e.parent (dep s e.child)
  unfolding dep
  edge-dep e m h =
      mem-map (λ e. e.parent) (promised s e.child) e
      (select-mem is_promised (edges_from s e.child) e (select-mem (leaves e.child) s.edges e m (eq→eqb {m = e.child} refl)) h)

  -- the first table on the path
  first_step : (k t u : ℕ) → Mem u (dep_plus_in s (suc k) t) → (p : ℕ) × Mem p (dep s t) × ((u ≡ p) ⊎ Mem u (dep_plus_in s k p))
  first_step k t u m = mem-flat-map (λ p. p ∷ dep_plus_in s k p) (dep s t) u m

  step-first : (k t u p : ℕ) → Mem p (dep s t) → (u ≡ p) ⊎ Mem u (dep_plus_in s k p) → Mem u (dep_plus_in s (suc k) t)
  step-first k t u p m h = mem-flat (λ p. p ∷ dep_plus_in s k p) (dep s t) p u m h

  -- the last edge on the path
  pub record LastEdge (k t u : ℕ) : Type 0 where
    pub edge : Edge
    pub there : Mem edge s.edges
    pub promised : T (is_promised edge)
    pub goes : edge.parent ≡ u
    pub from : (edge.child ≡ t) ⊎ Mem edge.child (dep_plus_in s k t)

  -- a path of one edge
  one-edge : (k t u p : ℕ) → Mem p (dep s t) → u ≡ p → LastEdge k t u
  one-edge k t u p d e =
      let x = dep-edge t p d in
      record { edge = x.edge; there = x.there; promised = x.promised; goes = x.goes ∙ sym e; from = inl x.leaves }

  pub last-edge : (k t u : ℕ) → Mem u (dep_plus_in s (suc k) t) → LastEdge k t u
  last-edge zero t u m = go (first_step zero t u m)
    where
      go : (p : ℕ) × Mem p (dep s t) × ((u ≡ p) ⊎ Mem u (dep_plus_in s zero p)) → LastEdge zero t u
      go (p, d, inl e) = one-edge zero t u p d e
      go (p, d, inr k) = absurd k
  last-edge (suc k) t u m = go (first_step (suc k) t u m) (λ p q. last-edge k p u q)
    where
      go : (p : ℕ) × Mem p (dep s t) × ((u ≡ p) ⊎ Mem u (dep_plus_in s (suc k) p))
          → ((p : ℕ) → Mem u (dep_plus_in s (suc k) p) → LastEdge k p u) → LastEdge (suc k) t u
      go (p, d, inl e) ih = one-edge (suc k) t u p d e
      go (p, d, inr m) ih =
          let x = ih p m in
          record { edge = x.edge; there = x.there; promised = x.promised; goes = x.goes; from = inr (step-first k t x.edge.child p d x.from) }

  pub add-edge : (k t : ℕ) (e : Edge) → Mem e s.edges → T (is_promised e)
      → (e.child ≡ t) ⊎ Mem e.child (dep_plus_in s k t) → Mem e.parent (dep_plus_in s (suc k) t)
  add-edge zero t e m h from = go from
    where
      go : (e.child ≡ t) ⊎ Mem e.child (dep_plus_in s zero t) → Mem e.parent (dep_plus_in s 1 t)
      go (inl q) = step-first zero t e.parent e.parent (subst (λ (c : ℕ). Mem e.parent (dep s c)) q (edge-dep e m h)) (inl refl)
      go (inr q) = absurd q
  add-edge (suc k) t e m h from = go from (λ p r. add-edge k p e m h r)
    where
      go : (e.child ≡ t) ⊎ Mem e.child (dep_plus_in s (suc k) t)
          → ((p : ℕ) → (e.child ≡ p) ⊎ Mem e.child (dep_plus_in s k p) → Mem e.parent (dep_plus_in s (suc k) p))
          → Mem e.parent (dep_plus_in s (suc (suc k)) t)
      go (inl q) ih = step-first (suc k) t e.parent e.parent (subst (λ (c : ℕ). Mem e.parent (dep s c)) q (edge-dep e m h)) (inl refl)
      go (inr q) ih = let x = first_step k t e.child q in step-first (suc k) t e.parent x.0 x.1 (inr (ih x.0 x.2))
