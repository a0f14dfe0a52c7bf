-- The columns of side tables and of the list: which are shown, what a side row shows of a base row, and where a list row shows a key.
-- Assumes nothing.
use Prim.Native.Nat.{ℕ, zero, suc, ◌<◌, ◌≤◌}
use mathlib.Core.Path.{◌≡◌, refl, sym, ap, ◌∙◌}
use mathlib.Core.Bool.{Bool, true, false, cond, ◌||◌}
use mathlib.Core.List.{List, [], ◌∷◌, map}
use mathlib.Core.Logic.{◌⊎◌, inl, inr}
use native.Mathlib.Nat.{not-suc-le-zero}
use native.Mathlib.Omega.{arith}
use lib.Dec.{T, eqb}
use lib.ListN.{length, length-map}
use borrow.Author.Tests.{lt-ltb, le-ltb}
use Rattle.lists.specs.Lists.{at, Mem, any, select, from, up_to, place_of}
use Rattle.lists.proofs.Truth.{is_t, T→≡, F→≡, false→F, any-make, mem-select, select-mem, mem-up_to, up_to-mem}
use Rattle.lists.proofs.Truth.{map_same, eq→eqb, eqb→≡, and-fst, and-snd, and_both, or_inl, or_inr}
use Rattle.rows.specs.Rows.{Row, key, pick}
use Rattle.meaning.specs.Sheet.{Edge, Listed, Sheet, width, leaves, edges_from}
use Rattle.meaning.specs.Plan.{names, is_listed, is_child_column, kept, is_shown, shown, columns}
use Rattle.meaning.specs.Meaning.{Way, row_in, list_row}
use Rattle.meaning.specs.Change.{widened, key_place, with_columns}
use Rattle.laws.specs.Sheets.{Good}
use Rattle.laws.proofs.Lists.{at-up_to}

-- how many columns a part's rows have
pub columns-side : (s : Sheet) (t : ℕ) → t < s.n → T (kept s t) → columns s t ≡ length (shown s t)
unfolding columns
columns-side s t l k = rw (lt-ltb t s.n l, T→≡ (kept s t) k)

pub columns-unkept : (s : Sheet) (t : ℕ) → t < s.n → (T (kept s t) → ⊥) → columns s t ≡ 0
unfolding columns
columns-unkept s t l k = rw (lt-ltb t s.n l, F→≡ (kept s t) k)

pub columns-list : (s : Sheet) → columns s s.n ≡ length s.listed
unfolding columns
columns-list s = rw (le-ltb s.n s.n (omega arith))

-- the value of a picked column stands at the column's place
pub pick-place : (r : Row) (c : ℕ) (cols : List ℕ) → Mem c cols → at (pick cols r) (place_of c cols) ≡ at r c
pick-place r c [] m = absurd m
pick-place r c (y ∷ cols) m = go (eqb c y) refl m (λ m. pick-place r c cols m)
  where
    go : (b : Bool) → eqb c y ≡ b → (c ≡ y) ⊎ Mem c cols → (Mem c cols → at (pick cols r) (place_of c cols) ≡ at r c)
        → at (pick (y ∷ cols) r) (cond b 0 (suc (place_of c cols))) ≡ at r c
    go true e m ih = ap (at r) (sym (eqb→≡ c y (is_t e)))
    go false e (inl q) ih = absurd (false→F e (eq→eqb q))
    go false e (inr m) ih = ih m

pub shown-below : (s : Sheet) (t c : ℕ) → Mem c (shown s t) → c < width s t
unfolding shown
shown-below s t c m = up_to-mem (width s t) c (mem-select (is_shown s t) (up_to (width s t)) c m).0

-- a side row at full width again has its shown columns
pub widened-pick : (s : Sheet) (t : ℕ) (r : Row) (c : ℕ) → Mem c (shown s t) → at (widened s t (pick (shown s t) r)) c ≡ at r c
unfolding widened
widened-pick s t r c m =
    at-up_to (λ c. at (pick (shown s t) r) (place_of c (shown s t))) 0 (width s t) c (shown-below s t c m) ∙ pick-place r c (shown s t) m

module _ (s : Sheet) (g : Good s) where
  shown-is : (t c : ℕ) → c < width s t → T (is_shown s t c) → Mem c (shown s t)
  unfolding shown
  shown-is t c l h = select-mem (is_shown s t) (up_to (width s t)) c (mem-up_to (width s t) c l) h

  pub shown-key : (t : ℕ) → t < s.n → Mem 0 (shown s t)
  unfolding is_shown
  shown-key t l = shown-is t 0 (g.wide t l) (or_inl (true || is_child_column s t 0) (is_listed s t 0) tt)

  pub shown-child : (e : Edge) → Mem e s.edges → Mem e.column (shown s e.child)
  unfolding is_shown
  shown-child e m =
      let c = e.column in
      let t = e.child in
      shown-is t c (g.column-in e m)
      (or_inl (eqb c 0 || is_child_column s t c) (is_listed s t c)
      (or_inr (eqb c 0) (is_child_column s t c)
      (any-make (λ e. eqb e.column c) (edges_from s t) e (select-mem (leaves t) s.edges e m (eq→eqb {m = t} refl)) (eq→eqb {m = c} refl))))

  pub shown-listed : (l : Listed) → Mem l s.listed → Mem l.column (shown s l.table)
  unfolding is_shown
  shown-listed l m =
      let c = l.column in
      let t = l.table in
      shown-is t c (g.listed-column l m)
      (or_inr (eqb c 0 || is_child_column s t c) (is_listed s t c)
      (any-make (names t c) s.listed l m (and_both (eqb t t) (eqb c c) (eq→eqb {m = t} refl) (eq→eqb {m = c} refl))))

  -- the key is the first shown column
  pub shown-first : (t : ℕ) → t < s.n → (cols : List ℕ) × (shown s t ≡ 0 ∷ cols)
  unfolding shown is_shown
  shown-first t l = go (width s t) (g.wide t l)
    where
      go : (w : ℕ) → 1 ≤ w → (cols : List ℕ) × (select (is_shown s t) (up_to w) ≡ 0 ∷ cols)
      go zero h = absurd (not-suc-le-zero h)
      go (suc w) h = (select (is_shown s t) (from 1 w), refl)

  pub key-pick : (t : ℕ) → t < s.n → (r : Row) → key (pick (shown s t) r) ≡ key r
  key-pick t l r = ap (λ cols. key (pick cols r)) (shown-first t l).1

-- List rows: the key of t stands at its place
pub key-place : (f : Listed → ℕ) (ls : List Listed) (t x : ℕ) → ((l : Listed) → l.table ≡ t → l.column ≡ 0 → f l ≡ x)
    → T (any (names t 0) ls) → at (map f ls) (key_place ls t) ≡ x
key-place f [] t x h k = absurd k
key-place f (l ∷ ls) t x h k = go (names t 0 l) refl k (λ k. key-place f ls t x h k)
  where
    go : (b : Bool) → names t 0 l ≡ b → T (b || any (names t 0) ls) → (T (any (names t 0) ls) → at (map f ls) (key_place ls t) ≡ x)
        → at (map f (l ∷ ls)) (cond b 0 (suc (key_place ls t))) ≡ x
    go true e k ih =
        h l (eqb→≡ l.table t (and-fst (eqb l.table t) (eqb l.column 0) (is_t e)))
        (eqb→≡ l.column 0 (and-snd (eqb l.table t) (eqb l.column 0) (is_t e)))
    go false e k ih = ih k

pub list-row-length : (s : Sheet) (way : Way) → length (list_row s way) ≡ length s.listed
unfolding list_row
list-row-length s way = length-map s.listed (λ l. at (row_in way l.table) l.column)

-- r's columns put into a list row
pub with-length : (ls : List Listed) (t : ℕ) (r row : Row) → length row ≡ length ls → length (with_columns ls t r row) ≡ length ls
with-length [] t r row e = refl
with-length (l ∷ ls) t r [] e = absurd (omega arith)
with-length (l ∷ ls) t r (v ∷ row) e = ap suc (with-length ls t r row (omega arith))

with-map : (f : Listed → ℕ) (ls : List Listed) (t : ℕ) (r : Row)
    → with_columns ls t r (map f ls) ≡ map (λ l. cond (eqb l.table t) (at r l.column) (f l)) ls
with-map f [] t r = refl
with-map f (l ∷ ls) t r = ap (λ k. cond (eqb l.table t) (at r l.column) (f l) ∷ k) (with-map f ls t r)

-- into the list row of a way: the list row of the way with r in the place of its row of t
pub with_row : (s : Sheet) (t : ℕ) (r : Row) (way way' : Way)
    → ((l : Listed) → Mem l s.listed
    → cond (eqb l.table t) (at r l.column) (at (row_in way l.table) l.column) ≡ at (row_in way' l.table) l.column)
    → with_columns s.listed t r (list_row s way) ≡ list_row s way'
unfolding list_row
with_row s t r way way' h =
    with-map (λ l. at (row_in way l.table) l.column) s.listed t r
    ∙ map_same (λ l. cond (eqb l.table t) (at r l.column) (at (row_in way l.table) l.column))
    (λ l. at (row_in way' l.table) l.column) s.listed h
