-- An update found by key, where the root has no side table: a list row shows a key that is reached exactly if its way goes through r.
-- Assumes nothing.
use Prim.Native.Nat.{ℕ, zero, suc, ◌+◌, ◌<◌}
use mathlib.Core.Path.{◌≡◌, refl, sym, ap, ap₂, ◌∙◌, subst}
use mathlib.Core.Bool.{Bool, true, false, cond, ◌&&◌, ◌||◌}
use mathlib.Core.List.{List, [], ◌∷◌, map}
use mathlib.Core.Logic.{inl, inr}
use native.Mathlib.Nat.{add-zero}
use native.Mathlib.Omega.{arith}
use lib.Dec.{T, eqb}
use lib.ListN.{length, set, length-set}
use Rattle.lists.specs.Lists.{at, Mem, all, any, select, choices, member}
use Rattle.lists.specs.Totals.{total, Same}
use Rattle.lists.proofs.Truth.{is_t, T→≡, F→≡, all-make, all_same, any-get, any-make, eq→eqb, eqb→≡, same_test, and-fst, and-snd, and_both, cond-false}
use Rattle.lists.proofs.Totals.{total-map, total-select, total-zero, any_of, all_of}
use Rattle.rows.specs.Rows.{Row, Rows, key, pick, same_row, sorted, has_key, no_key_twice}
use Rattle.rows.proofs.Ordered.{≡→same}
use Rattle.rows.proofs.Sorted.{same-sorted, total-sorted}
use Rattle.meaning.specs.Sheet.{Edge, Listed, Sheet}
use Rattle.meaning.specs.Plan.{root, edge_into, others, key_listed, need_in, need, kept, shown}
use Rattle.meaning.specs.Base.{Tables, rows_of}
use Rattle.meaning.specs.Meaning.{within, Way, row_in, joined_by, held_by, joins, holds, list_row, the_list, Model, meaning}
use Rattle.meaning.specs.Change.{widened, wide_sides, can_take, referring, keys_reached, shows_key, rows_found, with_columns}
use Rattle.laws.specs.Updates.{Tied}
use Rattle.laws.specs.Sheets.{Good}
use Rattle.laws.proofs.Lists.{by-set, any-map, any-select, mem-left, mem-right}
use Rattle.laws.proofs.Trees.{kept_above, child-shallower, child-of, not-needed, cannot-root, cannot-unkept}
use Rattle.laws.proofs.Columns.{shown-key, shown-child, widened-pick, key-place, with_row}
use Rattle.laws.proofs.Keys.{key-mem, once-row}
use Rattle.laws.proofs.Ways.{Takes, takes-long, takes-here, takes-more, takes_one, total-ways}
use Rattle.laws.proofs.Ways.{choices-append, choices-swap, is_way, way_rows, total-way_rows, row-way}
use Rattle.laws.proofs.Qualified.{joins-get, qualified_of, qualified-mem, way_in, side-kept}
use Rattle.laws.proofs.Through.{wide-side}
use Rattle.laws.proofs.Meanings.{meaning-side}
use Rattle.upkeep.proofs.Replace.{Frame, having, alone}

-- Base tables in which no key stands twice, and one of their ways
module _ (s : Sheet) (g : Good s) (B : Tables) (many : length B ≡ s.n) (once : (t : ℕ) → t < s.n → T (no_key_twice (rows_of B t)))
    (way : Way) (takes : Takes way B) (w : T (is_way s way)) where
  abbrev m : Model
  m = meaning s B

  row : (t : ℕ) → t < s.n → Mem (row_in way t) (rows_of B t)
  row t l = takes.row t (omega arith)

  joined : T (joins s way)
  joined = and-fst (joins s way) (holds s way) w

  -- a test of some row of a side table at full width
  wide-any : (p : Row → Bool) (u : ℕ) → u < s.n → T (kept s u)
      → any p (rows_of (wide_sides s m) u) ≡ any (λ x. p (widened s u (pick (shown s u) x))) (qualified_of s B u)
  wide-any p u l k =
      ap (any p) (wide-side s m u l ∙ ap (map (widened s u)) (meaning-side s B u l ∙ side-kept s B u k))
      ∙ any-map p (widened s u) (sorted (map (pick (shown s u)) (qualified_of s B u)))
      ∙ any_of (λ x. p (widened s u x)) (sorted (map (pick (shown s u)) (qualified_of s B u))) (map (pick (shown s u)) (qualified_of s B u))
      (same-sorted (map (pick (shown s u)) (qualified_of s B u)))
      ∙ any-map (λ x. p (widened s u x)) (pick (shown s u)) (qualified_of s B u)

  -- one step: the child's row of the way has one of the keys passed to exactly if the row of t has one of the keys in hand
  pass : (t : ℕ) → t < s.n → (t ≡ root s → ⊥) → T (kept s (edge_into s t).child) → (keys : List ℕ)
      → member (key (row_in way (edge_into s t).child)) (referring s m t keys) ≡ member (key (row_in way t)) keys
  unfolding referring
  pass t l d k keys =
      any-map (eqb mine) key (select refers (rows_of (wide_sides s m) c))
      ∙ any-select (λ x. eqb mine (key x)) refers (rows_of (wide_sides s m) c)
      ∙ wide-any (λ x. refers x && eqb mine (key x)) c cl k
      ∙ same_test (any test (qualified_of s B c)) (member (key (row_in way t)) keys) there back
    where
      e : Edge
      e = edge_into s t

      c : ℕ
      c = (edge_into s t).child

      em : Mem e s.edges
      em = g.edge_in t l d

      cl : c < s.n
      cl = child-of s g t l d

      mine : ℕ
      mine = key (row_in way c)

      refers : Row → Bool
      refers q = member (at q e.column) keys

      stored : Row → Row
      stored x = widened s c (pick (shown s c) x)

      test : Row → Bool
      test x = refers (stored x) && eqb mine (key (stored x))

      edge-joins : at (row_in way c) e.column ≡ key (row_in way t)
      edge-joins = joins-get s way joined e em ∙ ap (λ u. key (row_in way u)) (g.edge_to t l d)

      column : (x : Row) → at (stored x) e.column ≡ at x e.column
      column x = widened-pick s c x e.column (shown-child s g e em)

      its-key : (x : Row) → key (stored x) ≡ key x
      its-key x = widened-pick s c x 0 (shown-key s g c cl)

      there : T (any test (qualified_of s B c)) → T (member (key (row_in way t)) keys)
      there h =
          let f = any-get test (qualified_of s B c) h in
          let x = f.0 in
          let a = and-fst (refers (stored x)) (eqb mine (key (stored x))) f.2 in
          let b = eqb→≡ mine (key (stored x)) (and-snd (refers (stored x)) (eqb mine (key (stored x))) f.2) in
          let same : x ≡ row_in way c = once-row (rows_of B c) (once c cl) x (row_in way c) (qualified-mem s g B c cl x f.1) (row c cl) (sym (b ∙ its-key x)) in
          subst (λ (v : ℕ). T (member v keys)) (column x ∙ ap (λ y. at y e.column) same ∙ edge-joins) a

      back : T (member (key (row_in way t)) keys) → T (any test (qualified_of s B c))
      back h =
          any-make test (qualified_of s B c) (row_in way c) (way_in s g B way row joined (and-snd (joins s way) (holds s way) w) s.n c cl (omega arith))
          (and_both (refers (stored (row_in way c))) (eqb mine (key (stored (row_in way c))))
          (subst (λ (v : ℕ). T (member v keys)) (sym (column (row_in way c) ∙ edge-joins)) h) (eq→eqb (sym (its-key (row_in way c)))))

  -- the walk: it stays above the root, whose side table is not needed
  pub reach : (k t : ℕ) (keys : List ℕ) → t < s.n → (t ≡ root s → ⊥) → g.depth t < k → (Mem (root s) (need_in s k t) → ⊥)
      → shows_key s (keys_reached s m k t keys) (list_row s way) ≡ member (key (row_in way t)) keys
  unfolding list_row
  reach zero t keys l d h n = absurd (omega arith)
  reach (suc k) t keys l d h n = go (key_listed s t) refl n (λ keys l d h n. reach k (edge_into s t).child keys l d h n)
    where
      c : ℕ
      c = (edge_into s t).child

      go : (b : Bool) → key_listed s t ≡ b
          → (Mem (root s) (cond b [] (cond (eqb t (root s)) (others s t) (c ∷ need_in s k c))) → ⊥)
          → ((keys : List ℕ) → c < s.n → (c ≡ root s → ⊥) → g.depth c < k → (Mem (root s) (need_in s k c) → ⊥)
          → shows_key s (keys_reached s m k c keys) (list_row s way) ≡ member (key (row_in way c)) keys)
          → shows_key s (cond b (record { table = t; keys = keys }) (keys_reached s m k c (referring s m t keys))) (list_row s way)
          ≡ member (key (row_in way t)) keys
      go true e n ih =
          ap (λ v. member v keys)
          (key-place (λ l. at (row_in way l.table) l.column) s.listed t (key (row_in way t)) (λ l p q. ap₂ (λ u v. at (row_in way u) v) p q) (is_t e))
      go false e n ih =
          ih (referring s m t keys) (child-of s g t l d) (λ q. n' (inl (sym q))) (omega (arith, child-shallower s g t l d)) (λ i. n' (inr i))
          ∙ pass t l d (kept_above s g c (child-of s g t l d) (λ q. n' (inl (sym q)))) keys
        where
          n' : Mem (root s) (c ∷ need_in s k c) → ⊥
          n' i =
              n (subst (λ (xs : List ℕ). Mem (root s) xs) (sym (cond-false (eqb t (root s)) (others s t) (c ∷ need_in s k c) (λ q. d (eqb→≡ t (root s) q)))) i)

module _ (s : Sheet) (g : Good s) (fr : Frame s) (r : Row) (once : (t : ℕ) → t < s.n → T (no_key_twice (rows_of (having fr (r ∷ [])) t)))
    (new : T (has_key (key r) fr.rest) → ⊥) (cannot : T (can_take s fr.table) → ⊥) where
  abbrev A : Tables
  A = fr.base

  abbrev R : ℕ
  R = fr.table

  abbrev rest : Rows
  rest = fr.rest

  abbrev B : Tables
  B = having fr (r ∷ [])

  abbrev finds : Row → Bool
  finds row = shows_key s (keys_reached s (meaning s B) s.n R (key r ∷ [])) row

  l : R < length A
  l = omega (arith, fr.many, fr.inside)

  -- a list row is found exactly if its way goes through r
  found-by : (way : Way) → Takes way B → T (is_way s way) → finds (list_row s way) ≡ (eqb (key (row_in way R)) (key r) || false)
  unfolding need
  found-by way k w =
      reach s g B (length-set A R (r ∷ rest) ∙ fr.many) once way k w s.n R (key r ∷ []) fr.inside (cannot-root s g R cannot) (g.shallow R fr.inside)
      (not-needed s g (cannot-unkept s g R cannot) R fr.inside)

  through-r : (way : Way) → Takes way (alone fr (r ∷ [])) → T (is_way s way) → finds (list_row s way) ≡ true
  through-r way k w =
      found-by way (takes-more way A R l (r ∷ []) k (r ∷ rest) (mem-left (r ∷ []) rest)) w
      ∙ ap (λ b. b || false) (T→≡ (eqb (key (row_in way R)) (key r)) (eq→eqb (ap key (takes_one way A R l r k))))

  not_through : (way : Way) → Takes way (alone fr rest) → T (is_way s way) → finds (list_row s way) ≡ false
  not_through way k w =
      found-by way (takes-more way A R l rest k (r ∷ rest) (mem-right (r ∷ []) rest)) w
      ∙ ap (λ b. b || false) (F→≡ (eqb (key (row_in way R)) (key r)) (λ q.
      new (subst (λ (k : ℕ). T (has_key k rest)) (eqb→≡ (key (row_in way R)) (key r) q) (key-mem (row_in way R) rest (takes-here way A R l rest k)))))

  -- so the rows found are those of the ways through r
  pub found-same : Same (rows_found s (meaning s B) R r) (way_rows s (alone fr (r ∷ [])))
  unfolding rows_found meaning the_list
  found-same f =
      total-select f finds (sorted (way_rows s B))
      ∙ total-sorted (λ row. cond (finds row) (f row) 0) (way_rows s B)
      ∙ total-way_rows s B (λ row. cond (finds row) (f row) 0)
      ∙ choices-append count A R (r ∷ []) rest l
      ∙ ap₂ ◌+◌
      (total-ways count (λ way. cond (is_way s way) (f (list_row s way)) 0) (alone fr (r ∷ []))
      (λ way k. ours way (is_way s way) (λ w. through-r way k (is_t w))))
      (total-ways count (λ way. 0) (alone fr rest) (λ way k. theirs way (is_way s way) (λ w. not_through way k (is_t w)))
      ∙ total-zero (choices (alone fr rest)))
      ∙ add-zero (total (λ way. cond (is_way s way) (f (list_row s way)) 0) (choices (alone fr (r ∷ []))))
      ∙ sym (total-way_rows s (alone fr (r ∷ [])) f)
    where
      count : Way → ℕ
      count way = cond (is_way s way) (cond (finds (list_row s way)) (f (list_row s way)) 0) 0

      ours : (way : Way) (b : Bool) → (b ≡ true → finds (list_row s way) ≡ true)
          → cond b (cond (finds (list_row s way)) (f (list_row s way)) 0) 0 ≡ cond b (f (list_row s way)) 0
      ours way true h = ap (λ b. cond b (f (list_row s way)) 0) (h refl)
      ours way false h = refl

      theirs : (way : Way) (b : Bool) → (b ≡ true → finds (list_row s way) ≡ false) → cond b (cond (finds (list_row s way)) (f (list_row s way)) 0) 0 ≡ 0
      theirs way true h = ap (λ b. cond b (f (list_row s way)) 0) (h refl)
      theirs way false h = refl

  -- they show r's values
  pub found-show : T (all (λ row. same_row row (with_columns s.listed R r row)) (rows_found s (meaning s B) R r))
  found-show =
      subst T (sym (all_of (λ row. same_row row (with_columns s.listed R r row)) (rows_found s (meaning s B) R r) (way_rows s (alone fr (r ∷ []))) found-same))
      (all-make (λ row. same_row row (with_columns s.listed R r row)) (way_rows s (alone fr (r ∷ []))) (λ row i.
      let a = row-way s (alone fr (r ∷ [])) row i in
      ≡→same row (with_columns s.listed R r row)
      (a.3 ∙ sym (with_row s R r a.0 a.0 (λ l k. each a.0 a.1 l (eqb l.table R) refl)) ∙ ap (with_columns s.listed R r) (sym a.3))))
    where
      each : (way : Way) → Takes way (alone fr (r ∷ [])) → (l : Listed) (b : Bool) → eqb l.table R ≡ b
          → cond b (at r l.column) (at (row_in way l.table) l.column) ≡ at (row_in way l.table) l.column
      each way k l' true e = ap (λ x. at x l'.column) (sym (ap (row_in way) (eqb→≡ l'.table R (is_t e)) ∙ takes_one way A R l r k))
      each way k l' false e = refl

  -- with r''s columns they are those of the ways through r'
  module _ (r' : Row) (tie : Tied s R r r') (way : Way) (takes : Takes way (alone fr (r ∷ []))) where
    abbrev way' : Way
    way' = set way R r'

    R-in : R < length way
    R-in = omega (arith, takes-long way A R l (r ∷ []) takes)

    -- columns in which r and r' agree
    agree : (t c : ℕ) → (t ≡ R → at r c ≡ at r' c) → at (row_in way' t) c ≡ at (row_in way t) c
    agree t c =
        by-set [] (λ t x. (t ≡ R → at r c ≡ at r' c) → at x c ≡ at (row_in way t) c) way R r' R-in
        (λ h. sym (h refl) ∙ ap (λ x. at x c) (sym (takes_one way A R l r takes))) (λ t d h. refl) t

    same_way : is_way s way' ≡ is_way s way
    unfolding joins holds
    same_way =
        ap₂ ◌&&◌
        (all_same (joined_by way') (joined_by way) s.edges
        (λ e m. ap₂ eqb (agree e.child e.column (tie.children e m)) (agree e.parent 0 (λ q. tie.keys))))
        (all_same (held_by way') (held_by way) s.conditions (λ d m. ap (within d) (agree d.table d.column (tie.conditions d m))))

    same_row_lem : with_columns s.listed R r' (list_row s way) ≡ list_row s way'
    same_row_lem =
        with_row s R r' way way' (λ l k.
        by-set [] (λ t x. cond (eqb t R) (at r' l.column) (at (row_in way t) l.column) ≡ at x l.column) way R r' R-in
        (ap (λ b. cond b (at r' l.column) (at (row_in way R) l.column)) (T→≡ (eqb R R) (eq→eqb {m = R} refl)))
        (λ t d. ap (λ b. cond b (at r' l.column) (at (row_in way t) l.column)) (F→≡ (eqb t R) (λ q. d (eqb→≡ t R q)))) l.table)

  pub found-new : (r' : Row) → Tied s R r r' → Same (map (with_columns s.listed R r') (rows_found s (meaning s B) R r)) (way_rows s (alone fr (r' ∷ [])))
  found-new r' tie f =
      total-map f (with_columns s.listed R r') (rows_found s (meaning s B) R r)
      ∙ found-same (λ row. f (with_columns s.listed R r' row))
      ∙ total-way_rows s (alone fr (r ∷ [])) (λ row. f (with_columns s.listed R r' row))
      ∙ total-ways (λ way. cond (is_way s way) (f (with_columns s.listed R r' (list_row s way))) 0)
      (λ way. cond (is_way s (set way R r')) (f (list_row s (set way R r'))) 0) (alone fr (r ∷ []))
      (λ way k. ap₂ (λ b row. cond b (f row) 0) (sym (same_way r' tie way k)) (same_row_lem r' tie way k))
      ∙ sym (total-way_rows s (alone fr (r' ∷ [])) f ∙ choices-swap (λ way. cond (is_way s way) (f (list_row s way)) 0) A R r r' l)
