-- Lawful base tables as a record, and the model that base tables mean.
-- Assumes nothing.
use Prim.Native.Nat.{ℕ, ◌<◌}
use mathlib.Core.Path.{◌≡◌, refl, sym, ap, ◌∙◌, subst}
use mathlib.Core.List.{[], ◌∷◌, map}
use native.Mathlib.Omega.{arith}
use lib.Dec.{T, leb, eqb}
use lib.ListN.{length, drop, set, length-set}
use lib.Seq.{ext_get_or}
use Rattle.lists.specs.Lists.{Words, at, Mem, all}
use Rattle.lists.specs.Totals.{Same}
use Rattle.lists.proofs.Truth.{all-get, all-make, mem-up_to, up_to-mem, eq→eqb, eqb→≡}
use Rattle.rows.specs.Rows.{Row, Rows, cut, put_rows, take_rows, has_key, no_key_twice}
use Rattle.meaning.specs.Sheet.{Edge, Sheet, tables, width}
use Rattle.meaning.specs.Plan.{promised}
use Rattle.meaning.specs.Base.{Tables, rows_of, base_start, base_of, is_met, has_parents, has_width, lawful_table, lawful, good_base}
use Rattle.meaning.specs.Meaning.{qualified, side_table, the_list, meaning}
use Rattle.meaning.specs.Change.{qualifies, Effect, after}
use Rattle.laws.specs.Sheets.{Good}
use Rattle.laws.proofs.Lists.{by-set, at-up_to, length-up_to, Each, facts, facts-make}
use Rattle.laws.proofs.Trees.{Promised, promised-is, is-promised, parent-other}
use Rattle.laws.proofs.Ways.{list_same}
use Rattle.laws.proofs.Qualified.{qualified-same, qualified_of, side_same, side-qualifies}

-- a value of a promised edge's column finds its parent in table p
abbrev pub Met : Tables → ℕ → ℕ → Type 0
Met B p v = T (has_key v (rows_of B p))

-- lawful base tables, one for each table of the sheet
pub record Lawful (s : Sheet) (B : Tables) : Type 0 where
  pub many : length B ≡ s.n
  pub widths : (t : ℕ) → t < s.n → (x : Row) → Mem x (rows_of B t) → length x ≡ width s t
  pub keys : (t : ℕ) → t < s.n → T (no_key_twice (rows_of B t))
  pub parents : (t : ℕ) → t < s.n → (x : Row) → Mem x (rows_of B t) → (e : Edge) → Promised s t e → Met B e.parent (at x e.column)

pub parents-get : (s : Sheet) (B : Tables) (t : ℕ) (r : Row) → T (has_parents s B t r) → (e : Edge) → Promised s t e → Met B e.parent (at r e.column)
unfolding has_parents
parents-get s B t r h e p = all-get (is_met B r) (promised s t) h e (is-promised s t e p)

pub parents-make : (s : Sheet) (B : Tables) (t : ℕ) (r : Row) → ((e : Edge) → Promised s t e → Met B e.parent (at r e.column)) → T (has_parents s B t r)
unfolding has_parents
parents-make s B t r f = all-make (is_met B r) (promised s t) (λ e m. f e (promised-is s t e m))

pub lawful-get : (s : Sheet) (B : Tables) → length B ≡ s.n → T (lawful s B) → Lawful s B
unfolding lawful lawful_table
lawful-get s B l h =
    record {
      many = l;
      widths = λ t k x m. eqb→≡ (length x) (width s t) (all-get (has_width s t) (rows_of B t) (table t k).0 x m);
      keys = λ t k. (table t k).1.0;
      parents = λ t k x m. parents-get s B t x (all-get (has_parents s B t) (rows_of B t) (table t k).1.1.0 x m);
    }
  where
    table : (t : ℕ) → t < s.n → Each (all (has_width s t) (rows_of B t) ∷ no_key_twice (rows_of B t) ∷ all (has_parents s B t) (rows_of B t) ∷ [])
    table t k =
        facts (all (has_width s t) (rows_of B t) ∷ no_key_twice (rows_of B t) ∷ all (has_parents s B t) (rows_of B t) ∷ [])
        (all-get (lawful_table s B) (tables s) h t (mem-up_to s.n t k))

pub lawful-make : (s : Sheet) (B : Tables) → Lawful s B → T (lawful s B)
unfolding lawful lawful_table
lawful-make s B l =
    all-make (lawful_table s B) (tables s) (λ t m.
    let k = up_to-mem s.n t m in
    facts-make (all (has_width s t) (rows_of B t) ∷ no_key_twice (rows_of B t) ∷ all (has_parents s B t) (rows_of B t) ∷ []) (
      all-make (has_width s t) (rows_of B t) (λ x i. eq→eqb (l.widths t k x i)),
      (l.keys t k, (all-make (has_parents s B t) (rows_of B t) (λ x i. parents-make s B t x (l.parents t k x i)), tt)),
    ))

-- table R of lawful base tables with other rows: its rows are lawful, and no row of another table loses its parent
pub lawful-set : (s : Sheet) → Good s → (B : Tables) → Lawful s B → (R : ℕ) → R < s.n → (rows : Rows)
    → ((x : Row) → Mem x rows → length x ≡ width s R) → T (no_key_twice rows)
    → ((x : Row) → Mem x rows → (e : Edge) → Promised s R e → Met B e.parent (at x e.column))
    → ((x : Row) (e : Edge) → Promised s e.child e → e.parent ≡ R → Mem x (rows_of B e.child) → T (has_key (at x e.column) rows))
    → Lawful s (set B R rows)
lawful-set s g B law R inside rows w k par child =
    record {
      many = length-set B R rows ∙ law.many;
      widths = by-set [] (λ t rows. t < s.n → (x : Row) → Mem x rows → length x ≡ width s t) B R rows l (λ i. w) (λ t d. law.widths t);
      keys = by-set [] (λ t rows. t < s.n → T (no_key_twice rows)) B R rows l (λ i. k) (λ t d. law.keys t);
      parents = by-set [] (λ t rows'. t < s.n → (x : Row) → Mem x rows' → (e : Edge) → Promised s t e → Met (set B R rows) e.parent (at x e.column))
          B R rows l (λ i x m e p. still x e p (par x m e p) (λ q. absurd (parent-other s g e p.edge (q ∙ sym p.child))))
          (λ t d i x m e p. still x e p (law.parents t i x m e p) (λ q.
          child x e (record { edge = p.edge; child = refl; promise = p.promise }) q
          (subst (λ (u : ℕ). Mem x (rows_of B u)) (sym p.child) m)));
    }
  where
    l : R < length B
    l = omega (arith, law.many)

    -- a parent that was there is there, if it is not in R or in R's new rows
    still : (x : Row) (e : Edge) {t : ℕ} → Promised s t e → Met B e.parent (at x e.column)
        → (e.parent ≡ R → T (has_key (at x e.column) rows)) → Met (set B R rows) e.parent (at x e.column)
    still x e p h f =
        by-set [] (λ u rows. u ≡ e.parent → T (has_key (at x e.column) rows)) B R rows l (λ q. f (sym q))
        (λ u d q. subst (λ (u : ℕ). Met B u (at x e.column)) (sym q) h) e.parent refl

-- base tables that a fill accepts
pub base-many : (s : Sheet) (run : Words) → length (base_of s run) ≡ s.n
unfolding base_of
base-many s run = length-up_to (λ t. cut (width s t) (at run t) (drop (base_start s run t) run)) s.n

pub base-lawful : (s : Sheet) (run : Words) → T (good_base s run) → Lawful s (base_of s run)
unfolding good_base
base-lawful s run h =
    lawful-get s (base_of s run) (base-many s run)
    (facts (eqb (length run) (base_start s run s.n) ∷ all (λ t. leb (at run t) 65535) (tables s) ∷ lawful s (base_of s run) ∷ []) h).1.1.0

-- The model's side tables and list
pub meaning-many : (s : Sheet) (B : Tables) → length (meaning s B).sides ≡ s.n
unfolding meaning
meaning-many s B = length-up_to (side_table s B) s.n

pub meaning-side : (s : Sheet) (B : Tables) (t : ℕ) → t < s.n → rows_of (meaning s B).sides t ≡ side_table s B t
unfolding meaning
meaning-side s B t l = at-up_to (side_table s B) [] s.n t l

pub meaning-list : (s : Sheet) (B : Tables) → (meaning s B).list ≡ the_list s B
unfolding meaning
meaning-list s B = refl

-- the same base rows: the same meaning
pub meaning-same : (s : Sheet) (B C : Tables) → length B ≡ length C → ((u : ℕ) → Same (rows_of B u) (rows_of C u)) → meaning s B ≡ meaning s C
unfolding meaning
meaning-same s B C l h = λ i. record { sides = map (λ t. side_same s B C h t i) (tables s); list = list_same s B C l h i }

-- the model qualifies a row as the base tables do
pub qualifies-is : (s : Sheet) → Good s → (B : Tables) (t : ℕ) (r : Row) → qualifies s (meaning s B) t r ≡ qualified s (qualified_of s B) t r
qualifies-is s g B t r =
    qualified-same s (rows_of (meaning s B).sides) (side_table s B) t r
    (λ e p. ap (has_key (at r e.column)) (meaning-side s B e.parent (g.parent_in e p.edge)))
    ∙ side-qualifies s g B t r

-- an effect on table R that makes R's side table and the list those of C, where the other side tables stay
pub after_is : (s : Sheet) (B C : Tables) (R : ℕ) (x : Effect) → R < s.n
    → put_rows x.side_in (take_rows x.side_out (side_table s B R)) ≡ side_table s C R
    → ((u : ℕ) → u < s.n → (u ≡ R → ⊥) → side_table s B u ≡ side_table s C u)
    → put_rows x.list_in (take_rows x.list_out (the_list s B)) ≡ the_list s C
    → after (meaning s B) R x ≡ meaning s C
unfolding after meaning
after_is s B C R x l e h k = λ i. record { sides = sides i; list = k i }
  where
    old : Tables
    old = (meaning s B).sides

    rows : Rows
    rows = put_rows x.side_in (take_rows x.side_out (rows_of old R))

    sides : set old R rows ≡ (meaning s C).sides
    sides =
        ext_get_or [] (set old R rows) (meaning s C).sides (length-set old R rows ∙ meaning-many s B ∙ sym (meaning-many s C)) (λ u i.
        by-set [] (λ u rows. u < s.n → rows ≡ rows_of (meaning s C).sides u) old R rows (omega (arith, meaning-many s B))
        (λ i. ap (λ r. put_rows x.side_in (take_rows x.side_out r)) (meaning-side s B R l) ∙ e ∙ sym (meaning-side s C R l))
        (λ u d i. meaning-side s B u i ∙ h u i d ∙ sym (meaning-side s C u i)) u (omega (arith, i, length-set old R rows, meaning-many s B)))
