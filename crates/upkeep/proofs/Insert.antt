-- One row more in lawful base tables, its key new and its promised parents there: no other row becomes qualified or ceases to be, for none refers
-- to the new key. So a lawful insert takes nothing and puts the row's side row and ways, and a lawful delete is the same read backwards.
-- Assumes nothing.
use Prim.Native.Nat.{ℕ, zero, suc, ◌<◌}
use mathlib.Core.Path.{◌≡◌, refl, sym, ap, ◌∙◌, subst}
use mathlib.Core.Bool.{Bool, true, false, cond}
use mathlib.Core.List.{[], ◌∷◌}
use mathlib.Core.Logic.{inl, inr}
use native.Mathlib.Omega.{arith}
use lib.Dec.{T, eqb}
use lib.ListN.{length}
use Rattle.lists.specs.Lists.{at, Mem, select}
use Rattle.lists.proofs.Truth.{F→≡, select-same, eqb→≡, and-fst}
use Rattle.rows.specs.Rows.{Row, Rows, key, has_key}
use Rattle.meaning.specs.Sheet.{Edge, Sheet}
use Rattle.meaning.specs.Base.{Tables, rows_of}
use Rattle.meaning.specs.Meaning.{qualified, qualified_in, Way, row_in, joins, holds, meaning}
use Rattle.meaning.specs.Change.{qualifies, can_take, no_effect, insert_effect, delete_effect}
use Rattle.laws.specs.Sheets.{Good}
use Rattle.laws.proofs.Lists.{here-or}
use Rattle.laws.proofs.Trees.{Promised, parent-other, all-promised, cannot-root, cannot-unkept}
use Rattle.laws.proofs.Ways.{Takes, takes-other, takes_one, is_way}
use Rattle.laws.proofs.Qualified.{qualified-same, joins-get, qualified_of}
use Rattle.laws.proofs.Meanings.{Met, Lawful}
use Rattle.upkeep.proofs.Replace.{Frame, having, alone, Judges, side-rows-one, side-rows-none, side-rows-nothing, rows-here, rows_other}
use Rattle.upkeep.proofs.Replace.{rows_alike, judges-self, none-nothing, none-unqualified, through-any, Moves, by-qualified}

-- a row that is put before others or left out does not matter to another key
key-past : (b : Bool) (k : ℕ) (r : Row) (rows : Rows) → (k ≡ key r → ⊥) → has_key k (cond b (r ∷ rows) rows) ≡ has_key k rows
key-past true k r rows d = rw (F→≡ (eqb k (key r)) (λ e. d (eqb→≡ k (key r) e)))
key-past false k r rows d = refl

module _ (s : Sheet) (g : Good s) (fr : Frame s) (r : Row) (law : Lawful s (having fr [])) (new : T (has_key (key r) fr.rest) → ⊥)
    (par : (e : Edge) → Promised s fr.table e → Met (having fr []) e.parent (at r e.column)) where
  abbrev A : Tables
  A = fr.base

  abbrev R : ℕ
  R = fr.table

  abbrev rest : Rows
  rest = fr.rest

  -- the base tables without r and with it
  abbrev E : Tables
  E = having fr []

  abbrev E' : Tables
  E' = having fr (r ∷ [])

  l : R < length A
  l = omega (arith, fr.many, fr.inside)

  -- no base row refers to r
  apart : (p x : ℕ) → Met E p x → p ≡ R → x ≡ key r → ⊥
  apart p x h e d =
      new (subst (λ (rows : Rows). T (has_key (key r) rows)) (rows-here s g fr [])
      (subst (λ (t : ℕ). Met E t (key r)) e (subst (λ (y : ℕ). Met E p y) d h)))

  -- so a key that is there is there as before
  same_key : (k p : ℕ) → p < s.n → (x : ℕ) → Met E p x → has_key x (qualified_in s E' k p) ≡ has_key x (qualified_in s E k p)
  same_key zero p l x h = refl
  same_key (suc k) p l x h =
      drop-r
      ∙ ap (has_key x) (select-same (qualified s (qualified_in s E' k) p) (qualified s (qualified_in s E k) p) (rows_of E p)
      (λ y m. qualified-same s (qualified_in s E' k) (qualified_in s E k) p y
      (λ e q. same_key k e.parent (g.parent_in e q.edge) (at y e.column) (law.parents p l y m e q))))
    where
      has : Rows → Bool
      has rows = has_key x (select (qualified s (qualified_in s E' k) p) rows)

      drop-r : has (rows_of E' p) ≡ has (rows_of E p)
      drop-r =
          here-or (λ u. u ≡ p → has (rows_of E' u) ≡ has (rows_of E u)) R p
          (λ e. ap has (rows-here s g fr (r ∷ []))
          ∙ key-past (qualified s (qualified_in s E' k) p r) x r (select (qualified s (qualified_in s E' k) p) rest) (apart p x h (sym e))
          ∙ ap has (sym (rows-here s g fr [])))
          (λ d e. ap has (rows_alike s g fr (r ∷ []) [] p d)) refl

  -- and a row whose parents are there is qualified as before
  still-qualified : (t : ℕ) (x : Row) → ((e : Edge) → Promised s t e → Met E e.parent (at x e.column))
      → qualified s (qualified_of s E') t x ≡ qualified s (qualified_of s E) t x
  still-qualified t x h =
      qualified-same s (qualified_of s E') (qualified_of s E) t x (λ e p. same_key s.n e.parent (g.parent_in e p.edge) (at x e.column) (h e p))

  -- the rows of both base tables find their parents in those without r
  parents-met : (t : ℕ) → t < s.n → (x : Row) → Mem x (rows_of E' t) → (e : Edge) → Promised s t e → Met E e.parent (at x e.column)
  parents-met t l x =
      here-or (λ t. t < s.n → Mem x (rows_of E' t) → (e : Edge) → Promised s t e → Met E e.parent (at x e.column)) R t
      (λ l m. mine (subst (λ (rows : Rows). Mem x rows) (rows-here s g fr (r ∷ [])) m))
      (λ d l m. law.parents t l x
      (subst (λ (rows : Rows). Mem x rows) (rows_alike s g fr (r ∷ []) [] t d) m)) l
    where
      mine : Mem x (r ∷ rest) → (e : Edge) → Promised s R e → Met E e.parent (at x e.column)
      mine (inl q) e p = subst (λ (y : Row). Met E e.parent (at y e.column)) (sym q) (par e p)
      mine (inr m) e p = law.parents R fr.inside x (subst (λ (rows : Rows). Mem x rows) (sym (rows-here s g fr [])) m) e p

  pub judges-in : Judges s (qualified_of s E) E'
  judges-in t l x m = still-qualified t x (parents-met t l x m)

  pub judges-out : Judges s (qualified_of s E') E
  judges-out t l x m = sym (still-qualified t x (law.parents t l x m))

  -- if ways cannot be taken, none goes through r: some base row would refer to r on a promised edge
  none-through : (T (can_take s R) → ⊥) → (way : Way) → Takes way (alone fr (r ∷ [])) → T (is_way s way) → ⊥
  none-through cannot way k w =
      let f = all-promised s g (cannot-unkept s g R cannot) R fr.inside (cannot-root s g R cannot) in
      let e = f.0 in
      let p = f.1 in
      let c-in : e.child < s.n = g.child-in e p.edge in
      let d : e.child ≡ R → ⊥ = (λ q. parent-other s g e p.edge (f.2 ∙ sym q)) in
      apart e.parent (at (row_in way e.child) e.column)
      (law.parents e.child c-in (row_in way e.child)
      (subst (λ (rows : Rows). Mem (row_in way e.child) rows) (sym (rows_other s g fr [] e.child d))
      (takes-other way A R l (r ∷ []) k e.child (omega (arith, fr.many)) d)) e p) f.2
      (joins-get s way (and-fst (joins s way) (holds s way) w) e p.edge ∙ ap (λ t. key (row_in way t)) f.2 ∙ ap key (takes_one way A R l r k))

  -- the effects of an insert and of a delete
  pub insert-moves : Moves s g fr [] (r ∷ []) (cond (qualifies s (meaning s E) R r) (insert_effect s (meaning s E) R r) no_effect)
  unfolding insert_effect
  insert-moves =
      by-qualified s g fr [] (Moves s g fr [] (r ∷ [])) r (insert_effect s (meaning s E) R r)
      (λ q. record {
        side-out = side-rows-nothing s F R;
        side-in = side-rows-one s F R r q;
        list-out = none-nothing s g fr;
        list-in = through-any s g fr [] (r ∷ []) judges-in r (inl refl) q none-through;
      })
      (λ q. record {
        side-out = side-rows-nothing s F R;
        side-in = side-rows-none s F R r q;
        list-out = none-nothing s g fr;
        list-in = none-unqualified s g fr F (r ∷ []) judges-in r (inl refl) q;
      })
    where
      F : ℕ → Rows
      F = qualified_of s E

  pub delete-moves : Moves s g fr (r ∷ []) [] (cond (qualifies s (meaning s E') R r) (delete_effect s (meaning s E') R r) no_effect)
  unfolding delete_effect
  delete-moves =
      by-qualified s g fr (r ∷ []) (Moves s g fr (r ∷ []) []) r (delete_effect s (meaning s E') R r)
      (λ q. record {
        side-out = side-rows-one s F R r q;
        side-in = side-rows-nothing s F R;
        list-out = through-any s g fr (r ∷ []) (r ∷ []) own r (inl refl) q none-through;
        list-in = none-nothing s g fr;
      })
      (λ q. record {
        side-out = side-rows-none s F R r q;
        side-in = side-rows-nothing s F R;
        list-out = none-unqualified s g fr F (r ∷ []) own r (inl refl) q;
        list-in = none-nothing s g fr;
      })
    where
      F : ℕ → Rows
      F = qualified_of s E'

      own : Judges s F E'
      own = judges-self s g fr (r ∷ [])
