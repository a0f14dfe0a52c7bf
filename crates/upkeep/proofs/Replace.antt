-- Rows of one base table replaced by others, where the other rows stay as qualified as they were: what an effect must take and put for the model
-- after it to be the meaning of the new base tables. Insert, delete and update are each a case of this.
-- Assumes nothing.
use Prim.Native.Nat.{ℕ, ◌+◌, ◌<◌}
use mathlib.Core.Path.{◌≡◌, refl, sym, ap, ap₂, ◌∙◌, subst}
use mathlib.Core.Bool.{Bool, true, false, cond, not, ◌&&◌}
use mathlib.Core.List.{[], ◌∷◌, ◌++◌, map}
use mathlib.Core.Logic.{inl, inr, ⊎_elim}
use native.Mathlib.Nat.{add-zero}
use native.Mathlib.Omega.{arith}
use lib.Dec.{T}
use lib.ListN.{length, set, length-set}
use lib.Seq.{get_or-set_same, get_or-set_other}
use Rattle.lists.specs.Lists.{Mem, select, choices}
use Rattle.lists.specs.Totals.{total, Same}
use Rattle.lists.proofs.Truth.{T→≡, F→≡, F→not, and-fst, and-snd, select-same, decided, cond-true, cond-false, or_inl, or_inr}
use Rattle.lists.proofs.Totals.{total-select, total-zero, total-length, same-sym}
use Rattle.rows.specs.Rows.{Row, Rows, key, pick, same_row, put_row, put_rows, sorted, take_rows, has_row, has_rows, has_key}
use Rattle.rows.proofs.Ordered.{same→≡, same_refl}
use Rattle.rows.proofs.Sorted.{puts-same, takes-puts, has-put, has-puts}
use Rattle.meaning.specs.Sheet.{Sheet}
use Rattle.meaning.specs.Plan.{kept, shown}
use Rattle.meaning.specs.Base.{Tables, rows_of}
use Rattle.meaning.specs.Meaning.{qualified, Way, row_in, joins, holds, ways, list_row, the_list, side_table, Model, meaning}
use Rattle.meaning.specs.Change.{qualifies, can_take, ways_through, rows_through, Effect, no_effect, side_row, after, new_key, old_row}
use Rattle.meaning.specs.Demands.{ways_of}
use Rattle.laws.specs.Sheets.{Good}
use Rattle.laws.proofs.Lists.{select-append, map-append, mem-left}
use Rattle.laws.proofs.Keys.{key-select}
use Rattle.laws.proofs.Ways.{Takes, takes-here, takes-more, takes_one, total-ways, same-choices, choices-append}
use Rattle.laws.proofs.Ways.{is_way, way_rows, total-way_rows, no-ways, list-append, list-rising}
use Rattle.laws.proofs.Qualified.{qualified_of, qualified-is, way-qualified, side-unkept, side-key}
use Rattle.laws.proofs.Through.{same-through}
use Rattle.laws.proofs.Meanings.{meaning-side, meaning-list, qualifies-is, after_is}

pub puts-append : (xs ys rows : Rows) → put_rows (xs ++ ys) rows ≡ put_rows xs (put_rows ys rows)
unfolding put_rows
puts-append [] ys rows = refl
puts-append (x ∷ xs) ys rows = ap (put_row x) (puts-append xs ys rows)

cond_same : (b : Bool) (rows : Rows) → cond b rows rows ≡ rows
cond_same true rows = refl
cond_same false rows = refl

-- what stays: the base tables but for some rows of one table, and that table's other rows
pub record Frame (s : Sheet) : Type 0 where
  pub base : Tables
  pub many : length base ≡ s.n
  pub table : ℕ
  pub inside : table < s.n
  pub rest : Rows

-- the base tables with the rows own before the others in the table, and with own alone
abbrev pub having : {s : Sheet} → Frame s → Rows → Tables
having fr own = set fr.base fr.table (own ++ fr.rest)

abbrev pub alone : {s : Sheet} → Frame s → Rows → Tables
alone fr own = set fr.base fr.table own

-- F qualifies the rows of B as B's own qualified rows do
abbrev pub Judges : Sheet → (ℕ → Rows) → Tables → Type 0
Judges s F B = (t : ℕ) → t < s.n → (x : Row) → Mem x (rows_of B t) → qualified s (qualified_of s B) t x ≡ qualified s F t x

-- the side rows of table R that F finds among rows
unfoldable pub side_rows : Sheet → (ℕ → Rows) → ℕ → Rows → Rows
side_rows s F R rows = cond (kept s R) (map (pick (shown s R)) (select (qualified s F R) rows)) []

pub side-rows-one : (s : Sheet) (F : ℕ → Rows) (R : ℕ) (r : Row) → T (qualified s F R r) → side_row s R r ≡ side_rows s F R (r ∷ [])
unfolding side_rows side_row
side-rows-one s F R r q = rw (T→≡ (qualified s F R r) q)

pub side-rows-none : (s : Sheet) (F : ℕ → Rows) (R : ℕ) (r : Row) → (T (qualified s F R r) → ⊥) → [] ≡ side_rows s F R (r ∷ [])
unfolding side_rows
side-rows-none s F R r q = rw (F→≡ (qualified s F R r) q) (sym (cond_same (kept s R) []))

pub side-rows-nothing : (s : Sheet) (F : ℕ → Rows) (R : ℕ) → [] ≡ side_rows s F R []
unfolding side_rows
side-rows-nothing s F R = sym (cond_same (kept s R) [])

module _ (s : Sheet) (g : Good s) (fr : Frame s) where
  abbrev A : Tables
  A = fr.base

  abbrev R : ℕ
  R = fr.table

  abbrev rest : Rows
  rest = fr.rest

  l : R < length A
  l = omega (arith, fr.many, fr.inside)

  pub rows-here : (own : Rows) → rows_of (having fr own) R ≡ own ++ rest
  rows-here own = get_or-set_same A R (own ++ rest) [] l

  pub rows_other : (own : Rows) (u : ℕ) → (u ≡ R → ⊥) → rows_of (having fr own) u ≡ rows_of A u
  rows_other own u d = get_or-set_other A R u (own ++ rest) [] d

  pub rows_alike : (own own' : Rows) (u : ℕ) → (u ≡ R → ⊥) → rows_of (having fr own) u ≡ rows_of (having fr own') u
  rows_alike own own' u d = rows_other own u d ∙ sym (rows_other own' u d)

  -- base tables whose rows F judges
  module _ (F : ℕ → Rows) (own : Rows) (judges : Judges s F (having fr own)) where
    qualified-rows : (t : ℕ) → t < s.n → qualified_of s (having fr own) t ≡ select (qualified s F t) (rows_of (having fr own) t)
    qualified-rows t i = qualified-is s g (having fr own) t i ∙ select-same _ _ (rows_of (having fr own) t) (judges t i)

    -- the side tables and the list: own's rows put into what there is without them
    pub side-other : (u : ℕ) → u < s.n → (u ≡ R → ⊥)
        → side_table s (having fr own) u ≡ cond (kept s u) (sorted (map (pick (shown s u)) (select (qualified s F u) (rows_of A u)))) []
    unfolding side_table
    side-other u i d =
        ap (λ rows. cond (kept s u) (sorted (map (pick (shown s u)) rows)) []) (qualified-rows u i ∙ ap (select (qualified s F u)) (rows_other own u d))

    pub side-here : side_table s (having fr own) R ≡ put_rows (side_rows s F R own) (sorted (side_rows s F R rest))
    unfolding side_table side_rows sorted put_rows
    side-here =
        ap (λ rows. cond (kept s R) (sorted (map (pick (shown s R)) rows)) [])
        (qualified-rows R fr.inside ∙ ap (select (qualified s F R)) (rows-here own) ∙ select-append (qualified s F R) own rest)
        ∙ go (kept s R)
      where
        f : Row → Row
        f = pick (shown s R)

        xs : Rows
        xs = select (qualified s F R) own

        ys : Rows
        ys = select (qualified s F R) rest

        go : (b : Bool) → cond b (sorted (map f (xs ++ ys))) [] ≡ put_rows (cond b (map f xs) []) (sorted (cond b (map f ys) []))
        go true = ap sorted (map-append f xs ys) ∙ puts-append (map f xs) (map f ys) []
        go false = refl

    pub list-is : the_list s (having fr own) ≡ put_rows (way_rows s (alone fr own)) (the_list s (alone fr rest))
    list-is = list-append s A R own rest l

    -- the ways through one of own's rows take rows that F qualifies; if F does not qualify it there is none
    pub way-judged : (r : Row) → Mem r own → (way : Way) → Takes way (alone fr (r ∷ [])) → T (is_way s way) → (t : ℕ) → t < s.n
        → T (qualified s F t (row_in way t))
    way-judged r m way k w t i =
        subst T (judges t i (row_in way t) (row t i))
        (way-qualified s g (having fr own) way row (and-fst (joins s way) (holds s way) w) (and-snd (joins s way) (holds s way) w) t i)
      where
        mem-own : (x : Row) → Mem x (r ∷ []) → Mem x (own ++ rest)
        mem-own x (inl e) = mem-left own rest x (subst (λ (y : Row). Mem y own) (sym e) m)
        mem-own x (inr n) = absurd n

        row : (t : ℕ) → t < s.n → Mem (row_in way t) (rows_of (having fr own) t)
        row t i = (takes-more way A R l (r ∷ []) k (own ++ rest) mem-own).row t (omega (arith, i, length-set A R (own ++ rest)))

    pub none-unqualified : (r : Row) → Mem r own → (T (qualified s F R r) → ⊥) → Same [] (way_rows s (alone fr (r ∷ [])))
    none-unqualified r m q =
        same-sym _ _ (no-ways s (alone fr (r ∷ [])) (λ way k w.
        q (subst (λ (x : Row). T (qualified s F R x)) (takes_one way A R l r k) (way-judged r m way k w R fr.inside))))

  -- no rows, no ways
  pub none-nothing : Same [] (way_rows s (alone fr []))
  none-nothing = same-sym _ _ (no-ways s (alone fr []) (λ way k w. takes-here way A R l [] k))

  -- the number of ways that take x, where x is own's only row and not among the others
  counted : ℕ → Row → Way → ℕ
  counted t x way = cond (is_way s way) (cond (same_row (row_in way t) x) 1 0) 0

  count_of : (G : Tables) (x : Row) → length (ways_of s G R x) ≡ total (counted R x) (choices G)
  unfolding ways_of ways counted
  count_of G x =
      sym (total-length (select (λ way. same_row (row_in way R) x) (select (is_way s) (choices G))))
      ∙ total-select (λ way. 1) (λ way. same_row (row_in way R) x) (select (is_way s) (choices G))
      ∙ total-select (λ way. cond (same_row (row_in way R) x) 1 0) (is_way s) (choices G)

  pub ways-of-same : (G H : Tables) → length G ≡ length H → ((u : ℕ) → Same (rows_of G u) (rows_of H u)) → (x : Row)
      → length (ways_of s G R x) ≡ length (ways_of s H R x)
  ways-of-same G H e h x = count_of G x ∙ same-choices G H e h (counted R x) ∙ sym (count_of H x)

  pub ways-of : (own : Rows) (x : Row) → ((y : Row) → Mem y own → y ≡ x) → (Mem x rest → ⊥)
      → length (ways_of s (having fr own) R x) ≡ length (way_rows s (alone fr own))
  unfolding counted
  ways-of own x h n =
      count_of (having fr own) x
      ∙ choices-append (counted R x) A R own rest l
      ∙ ap₂ ◌+◌
      (total-ways (counted R x) (λ way. cond (is_way s way) 1 0) (alone fr own) (λ way k.
      ap (λ b. cond (is_way s way) (cond b 1 0) 0) (ap (λ y. same_row y x) (h (row_in way R) (takes-here way A R l own k)) ∙ same_refl x))
      ∙ sym (total-way_rows s (alone fr own) (λ row. 1)) ∙ total-length (way_rows s (alone fr own)))
      (total-ways (counted R x) (λ way. 0) (alone fr rest) (λ way k.
      other way (F→≡ (same_row (row_in way R) x) (λ e. n (subst (λ (y : Row). Mem y rest) (same→≡ (row_in way R) x e) (takes-here way A R l rest k))))
      (is_way s way))
      ∙ total-zero (choices (alone fr rest)))
      ∙ add-zero (length (way_rows s (alone fr own)))
    where
      other : (way : Way) → same_row (row_in way R) x ≡ false → (b : Bool) → ◌≡◌ {A = ℕ} (cond b (cond (same_row (row_in way R) x) 1 0) 0) 0
      other way e true = rw e
      other way e false = refl

  -- The rows O before, and what stands for them in the model
  module _ (O : Rows) where
    abbrev old : Tables
    old = having fr O

    abbrev F : ℕ → Rows
    F = qualified_of s (having fr O)

    abbrev m : Model
    m = meaning s (having fr O)

    pub judges-self : Judges s F old
    judges-self t i x k = refl

    -- R's side table before
    side-old : rows_of m.sides R ≡ put_rows (side_rows s F R O) (sorted (side_rows s F R rest))
    side-old = meaning-side s old R fr.inside ∙ side-here F O judges-self

    -- the list rows of the ways through a row of O, or of the rows that come, are those of the base tables
    pub through-is : (own : Rows) → Judges s F (having fr own) → (r : Row) → Mem r own → T (qualified s F R r) → T (can_take s R)
        → Same (rows_through s m R r) (way_rows s (alone fr (r ∷ [])))
    through-is own judges r k q can =
        same-through s g A R r F m
        (record {
          many = fr.many;
          sides = λ u i d kept-u. meaning-side s old u i ∙ side-other F O judges-self u i d ∙ cond-true (kept s u) _ [] kept-u;
          qual = q;
          good = way-judged F own judges r k;
        })
        can (subst T (sym (qualifies-is s g old R r)) q)

    -- also where ways cannot be taken, if none goes through r
    pub through-any : (own : Rows) → Judges s F (having fr own) → (r : Row) → Mem r own → T (qualified s F R r)
        → ((T (can_take s R) → ⊥) → (way : Way) → Takes way (alone fr (r ∷ [])) → T (is_way s way) → ⊥)
        → Same (rows_through s m R r) (way_rows s (alone fr (r ∷ [])))
    unfolding rows_through ways_through
    through-any own judges r k q none =
        ⊎_elim (λ can. through-is own judges r k q can)
        (λ cannot. λ f. ap (λ ways. total f (map (list_row s) ways))
        (cond-false (qualifies s m R r && can_take s R) _ [] (λ i. cannot (and-snd (qualifies s m R r) (can_take s R) i)))
        ∙ same-sym _ _ (no-ways s (alone fr (r ∷ [])) (none cannot)) f)
        (decided (can_take s R))

    -- An effect that takes O's rows and puts N's
    pub record Moves (N : Rows) (x : Effect) : Type 0 where
      pub side-out : x.side_out ≡ side_rows s F R O
      pub side-in : x.side_in ≡ side_rows s F R N
      pub list-out : Same x.list_out (way_rows s (alone fr O))
      pub list-in : Same x.list_in (way_rows s (alone fr N))

    abbrev L : Rows
    L = the_list s (alone fr rest)

    out-put : (N : Rows) (x : Effect) → Moves N x → put_rows x.list_out L ≡ the_list s old
    out-put N x h = puts-same x.list_out (way_rows s (alone fr O)) L (list-rising s (alone fr rest)) h.list-out ∙ sym (list-is F O judges-self)

    pub replaced : (N : Rows) → Judges s F (having fr N) → (x : Effect) → Moves N x → after m R x ≡ meaning s (having fr N)
    replaced N judges x h =
        after_is s old (having fr N) R x fr.inside
        (ap₂ (λ i o. put_rows i (take_rows o (side_table s old R))) h.side-in h.side-out
        ∙ ap (λ rows. put_rows (side_rows s F R N) (take_rows (side_rows s F R O) rows)) (side-here F O judges-self)
        ∙ ap (put_rows (side_rows s F R N)) (takes-puts (side_rows s F R O) (sorted (side_rows s F R rest)))
        ∙ sym (side-here F N judges))
        (λ u i d. side-other F O judges-self u i d ∙ sym (side-other F N judges u i d))
        (ap (λ rows. put_rows x.list_in (take_rows x.list_out rows)) (sym (out-put N x h))
        ∙ ap (put_rows x.list_in) (takes-puts x.list_out L)
        ∙ puts-same x.list_in (way_rows s (alone fr N)) L (list-rising s (alone fr rest)) h.list-in
        ∙ sym (list-is F N judges))

    -- the list rows to be taken are there as often
    pub replaced-has : (N : Rows) (x : Effect) → Moves N x → T (has_rows x.list_out m.list)
    replaced-has N x h = subst (λ (rows : Rows). T (has_rows x.list_out rows)) (out-put N x h ∙ sym (meaning-list s old)) (has-puts x.list_out L)

    -- a row that isn't qualified changes nothing
    pub by-qualified : (P : Effect → Type 0) (r : Row) (x : Effect) → (T (qualified s F R r) → P x) → ((T (qualified s F R r) → ⊥) → P no_effect)
        → P (cond (qualifies s m R r) x no_effect)
    by-qualified P r x h k =
        ⊎_elim (λ q. subst P (sym (cond-true (qualifies s m R r) x no_effect (subst T (sym (qualifies-is s g old R r)) q))) (h q))
        (λ q. subst P (sym (cond-false (qualifies s m R r) x no_effect (λ i. q (subst T (qualifies-is s g old R r) i)))) (k q)) (decided (qualified s F R r))

    -- R's side table has the keys of its qualified rows only
    side-keys : (k : ℕ) → T (has_key k (rows_of m.sides R)) → T (has_key k (select (qualified s F R) (O ++ rest)))
    side-keys k h =
        ⊎_elim
        (λ i. subst T (side-key s g old R fr.inside i k
        ∙ ap (has_key k) (qualified-is s g old R fr.inside ∙ ap (select (qualified s F R)) (rows-here O))) side)
        (λ i. absurd (subst (λ (rows : Rows). T (has_key k rows)) (side-unkept s old R i) side)) (decided (kept s R))
      where
        side : T (has_key k (side_table s old R))
        side = subst (λ (rows : Rows). T (has_key k rows)) (meaning-side s old R fr.inside) h

  -- it does not contradict a row that comes, whose key is new
  pub new-key : (r : Row) → (T (has_key (key r) rest) → ⊥) → T (new_key (m []) R r)
  unfolding new_key
  new-key r new = F→not (has_key (key r) (rows_of (m []).sides R)) (λ h. new (key-select (qualified s (F []) R) (key r) rest (side-keys [] (key r) h)))

  -- nor a row that is there
  pub old_row_lem : (r : Row) → (T (has_key (key r) rest) → ⊥) → T (old_row s (m (r ∷ [])) R r)
  unfolding old_row side_row put_rows
  old_row_lem r new =
      ⊎_elim
      (λ k. or_inr (not (kept s R)) (cond (qualifies s (m (r ∷ [])) R r) (has_row shown-r rows) (not (has_key (key r) rows)))
      (⊎_elim
      (λ q. subst T (sym (cond-true (qualifies s (m (r ∷ [])) R r) (has_row shown-r rows) (not (has_key (key r) rows)) (subst T (sym is) q)))
      (subst (λ (rows : Rows). T (has_row shown-r rows))
      (sym (side-old (r ∷ []) ∙ ap (λ xs. put_rows xs others) (sym (side-rows-one s (F (r ∷ [])) R r q) ∙ cond-true (kept s R) (shown-r ∷ []) [] k)))
      (has-put shown-r others)))
      (λ q. subst T (sym (cond-false (qualifies s (m (r ∷ [])) R r) (has_row shown-r rows) (not (has_key (key r) rows)) (λ i. q (subst T is i))))
      (F→not (has_key (key r) rows) (λ h. new (key-select test (key r) rest
      (subst (λ (rows : Rows). T (has_key (key r) rows)) (cond-false (test r) (r ∷ select test rest) (select test rest) q) (side-keys (r ∷ []) (key r) h))))))
      (decided (test r))))
      (λ k. or_inl (not (kept s R)) (cond (qualifies s (m (r ∷ [])) R r) (has_row shown-r rows) (not (has_key (key r) rows))) (F→not (kept s R) k))
      (decided (kept s R))
    where
      rows : Rows
      rows = rows_of (m (r ∷ [])).sides R

      shown-r : Row
      shown-r = pick (shown s R) r

      test : Row → Bool
      test = qualified s (F (r ∷ [])) R

      others : Rows
      others = sorted (side_rows s (F (r ∷ [])) R rest)

      is : qualifies s (m (r ∷ [])) R r ≡ test r
      is = qualifies-is s g (having fr (r ∷ [])) R r
