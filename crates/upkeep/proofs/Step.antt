-- One lawful change: the store does not contradict it, the model after it is what the changed base tables mean, these are lawful again, and it takes
-- and adds as many list rows as the base tables have ways through its rows. Each kind is a case of `Replace`.
-- Assumes nothing.
use Prim.Native.Nat.{ℕ, ◌<◌}
use mathlib.Core.Path.{◌≡◌, refl, sym, ap, ◌∙◌, subst}
use mathlib.Core.Bool.{not, ◌&&◌, ◌||◌}
use mathlib.Core.List.{[], ◌∷◌, ◌++◌}
use mathlib.Core.Logic.{inl, inr}
use native.Mathlib.Omega.{arith}
use lib.Dec.{T, eqb}
use lib.ListN.{length, set, length-set}
use lib.Seq.{set-get_or}
use Rattle.lists.specs.Lists.{at, Mem, any}
use Rattle.lists.specs.Totals.{Same}
use Rattle.lists.proofs.Truth.{not→F, any-make, select-mem, eq→eqb, and-fst, and_both, or_inr}
use Rattle.lists.proofs.Totals.{same_length, any_of}
use Rattle.rows.specs.Rows.{Row, Rows, key, take_row, has_row, has_rows, has_key, no_key_twice}
use Rattle.rows.proofs.Sorted.{same-take}
use Rattle.meaning.specs.Sheet.{Edge, Sheet, width, goes_into, edges_into}
use Rattle.meaning.specs.Plan.{is_promised}
use Rattle.meaning.specs.Base.{Tables, rows_of, has_parents, Change, change_of, good_change, same_tied, tied_stay}
use Rattle.meaning.specs.Base.{refers, has_promised_child, lawful_change, changed}
use Rattle.meaning.specs.Meaning.{Model, meaning}
use Rattle.meaning.specs.Change.{insert_effect, effect, after, new_key, old_row, found_show, agrees}
use Rattle.meaning.specs.Demands.{ways_of}
use Rattle.laws.specs.Updates.{Tied}
use Rattle.laws.specs.Sheets.{Good}
use Rattle.laws.proofs.Lists.{by-set, facts, facts-make}
use Rattle.laws.proofs.Trees.{Promised, parent-other}
use Rattle.laws.proofs.Keys.{has-mem, key-mem, take-mem, once-cons, once-same, once-take, key-gone, key-stays}
use Rattle.laws.proofs.Qualified.{qualified_of}
use Rattle.laws.proofs.Ways.{way_rows}
use Rattle.laws.proofs.Meanings.{Met, Lawful, parents-get, lawful-set, meaning-same}
use Rattle.laws.proofs.Changes.{by-kind}
use Rattle.laws.proofs.Updates.{tied-get}
use Rattle.upkeep.proofs.Replace.{Frame, having, alone, Judges, rows_other, ways-of, ways-of-same, Moves, replaced, replaced-has, new-key, old_row_lem}
use Rattle.upkeep.proofs.Insert.{judges-in, judges-out, insert-moves, delete-moves}
use Rattle.upkeep.proofs.Update.{judges-new, update-moves, update-show}

pub record Done (s : Sheet) (B : Tables) (c : Change) : Type 0 where
  pub agreed : T (agrees s (meaning s B) c)
  pub right : after (meaning s B) c.table (effect s (meaning s B) c) ≡ meaning s (changed B c)
  pub law : Lawful s (changed B c)
  pub taken : length (effect s (meaning s B) c).list_out ≡ length (ways_of s B c.table c.old)
  pub added : length (effect s (meaning s B) c).list_in ≡ length (ways_of s (changed B c) c.table c.new)

module _ (s : Sheet) (g : Good s) (B : Tables) (law : Lawful s B) (R : ℕ) (inside : R < s.n) where
  l : R < length B
  l = omega (arith, law.many)

  abbrev frame : Rows → Frame s
  frame rest = record { base = B; many = law.many; table = R; inside = inside; rest = rest }

  -- a row of no columns, or of another key, is not among base rows
  none-empty : (x : Row) → length x ≡ 0 → Mem x (rows_of B R) → ⊥
  none-empty x e m = omega (arith, law.widths R inside x m, g.wide R inside, e)

  -- B with the rows O before the others in R, its rows each as often as in B
  module _ (O rest : Rows) (same : Same (rows_of B R) (O ++ rest)) where
    abbrev old : Tables
    old = having (frame rest) O

    pub old-same : (u : ℕ) → Same (rows_of B u) (rows_of old u)
    old-same = by-set [] (λ u rows. Same (rows_of B u) rows) B R (O ++ rest) l same (λ u d f. refl)

    pub old-once : (t : ℕ) → t < s.n → T (no_key_twice (rows_of old t))
    old-once t i = once-same (rows_of B t) (rows_of old t) (old-same t) (law.keys t i)

    -- a change that takes O's rows and puts N's
    pub step : (N : Rows) (kind : ℕ) (r r' : Row) → changed B (change_of kind R r r') ≡ having (frame rest) N
        → Judges s (qualified_of s old) (having (frame rest) N)
        → Moves s g (frame rest) O N (effect s (meaning s old) (change_of kind R r r')) → T (agrees s (meaning s old) (change_of kind R r r'))
        → Lawful s (having (frame rest) N) → ((y : Row) → Mem y O → y ≡ r) → (Mem r rest → ⊥) → ((y : Row) → Mem y N → y ≡ r') → (Mem r' rest → ⊥)
        → Done s B (change_of kind R r r')
    step N kind r r' is judges moves agreed lawful o o' n n' =
        let c = change_of kind R r r' in
        record {
          agreed = subst (λ (m : Model). T (agrees s m c)) (sym same-model) agreed;
          right = ap (λ m. after m R (effect s m c)) same-model ∙ replaced s g (frame rest) O N judges (effect s (meaning s old) c) moves
              ∙ ap (meaning s) (sym is);
          law = subst (λ (b : Tables). Lawful s b) (sym is) lawful;
          taken = ap (λ m. length (effect s m c).list_out) same-model
              ∙ same_length (effect s (meaning s old) c).list_out (way_rows s (alone (frame rest) O)) moves.list-out
              ∙ sym (ways-of-same s g (frame rest) B old long old-same r ∙ ways-of s g (frame rest) O r o o');
          added = ap (λ m. length (effect s m c).list_in) same-model
              ∙ same_length (effect s (meaning s old) c).list_in (way_rows s (alone (frame rest) N)) moves.list-in
              ∙ sym (ap (λ b. length (ways_of s b R r')) is ∙ ways-of s g (frame rest) N r' n n');
        }
      where
        long : length B ≡ length old
        long = sym (length-set B R (O ++ rest))

        same-model : meaning s B ≡ meaning s old
        same-model = meaning-same s B old long old-same

  only : (x y : Row) → Mem y (x ∷ []) → y ≡ x
  only x y (inl e) = e
  only x y (inr m) = absurd m

  key-not : (x : Row) (rows : Rows) → (T (has_key (key x) rows) → ⊥) → Mem x rows → ⊥
  key-not x rows h m = h (key-mem x rows m)

  -- an insert: one row more
  module _ (r r' : Row) (none : length r ≡ 0) (wide : length r' ≡ width s R) (new : T (has_key (key r') (rows_of B R)) → ⊥)
      (par : (e : Edge) → Promised s R e → Met B e.parent (at r' e.column)) where
    rest-is : set B R (rows_of B R) ≡ B
    rest-is = set-get_or B R []

    inserted-lawful : Lawful s (set B R (r' ∷ rows_of B R))
    inserted-lawful =
        lawful-set s g B law R inside (r' ∷ rows_of B R) widths (once-cons r' (rows_of B R) new (law.keys R inside)) parents
        (λ x e p q m. or_inr (eqb (at x e.column) (key r')) (has_key (at x e.column) (rows_of B R))
        (subst (λ (t : ℕ). Met B t (at x e.column)) q (law.parents e.child (g.child-in e p.edge) x m e p)))
      where
        widths : (x : Row) → Mem x (r' ∷ rows_of B R) → length x ≡ width s R
        widths x (inl e) = ap length e ∙ wide
        widths x (inr m) = law.widths R inside x m

        parents : (x : Row) → Mem x (r' ∷ rows_of B R) → (e : Edge) → Promised s R e → Met B e.parent (at x e.column)
        parents x (inl q) e p = subst (λ (y : Row). Met B e.parent (at y e.column)) (sym q) (par e p)
        parents x (inr m) e p = law.parents R inside x m e p

    pub insert-done : Done s B (change_of 1 R r r')
    unfolding agrees effect changed insert_effect
    insert-done =
        let rest = rows_of B R in
        let E-law = subst (λ (b : Tables). Lawful s b) (sym rest-is) law in
        let E-par : (e : Edge) → Promised s R e → Met (set B R rest) e.parent (at r' e.column) =
        (λ e p. subst (λ (b : Tables). Met b e.parent (at r' e.column)) (sym rest-is) (par e p)) in
        let moves = insert-moves s g (frame rest) r' E-law new E-par in
        step [] rest (λ f. refl) (r' ∷ []) 1 r r' refl (judges-in s g (frame rest) r' E-law new E-par) moves
        (and_both (new_key (meaning s (set B R rest)) R r')
        (has_rows (effect s (meaning s (set B R rest)) (change_of 1 R r r')).list_out (meaning s (set B R rest)).list)
        (new-key s g (frame rest) r' new) (replaced-has s g (frame rest) [] (r' ∷ []) _ moves))
        inserted-lawful (λ y m. absurd m) (none-empty r none) (only r') (key-not r' rest new)

  -- a row that is there, and the others
  module _ (r : Row) (has : T (has_row r (rows_of B R))) where
    abbrev rest : Rows
    rest = take_row r (rows_of B R)

    gone : T (has_key (key r) rest) → ⊥
    gone = key-gone r (rows_of B R) (law.keys R inside) has

    there : Mem r (rows_of B R)
    there = has-mem r (rows_of B R) has

    rest_in : (x : Row) → Mem x rest → Mem x (rows_of B R)
    rest_in x m = take-mem r (rows_of B R) x m

    -- a delete: the row is taken back, where no promised child refers to it
    module _ (r' : Row) (none : length r' ≡ 0) (free : T (has_promised_child s B R (key r)) → ⊥) where
      refers-not : (e : Edge) → Promised s e.child e → e.parent ≡ R → (x : Row) → Mem x (rows_of B e.child) → at x e.column ≡ key r → ⊥
      unfolding has_promised_child
      refers-not e p q x m v =
          free (any-make (λ e. is_promised e && any (refers e (key r)) (rows_of B e.child)) (edges_into s R) e
          (select-mem (goes_into R) s.edges e p.edge (eq→eqb q))
          (and_both (is_promised e) (any (refers e (key r)) (rows_of B e.child)) p.promise
          (any-make (refers e (key r)) (rows_of B e.child) x m (eq→eqb v))))

      deleted-lawful : Lawful s (set B R rest)
      deleted-lawful =
          lawful-set s g B law R inside rest (λ x m. law.widths R inside x (rest_in x m)) (once-take r (rows_of B R) (law.keys R inside))
          (λ x m. law.parents R inside x (rest_in x m))
          (λ x e p q m. key-stays (at x e.column) r (rows_of B R) has (refers-not e p q x m)
          (subst (λ (t : ℕ). Met B t (at x e.column)) q (law.parents e.child (g.child-in e p.edge) x m e p)))

      par : (e : Edge) → Promised s R e → Met (set B R rest) e.parent (at r e.column)
      par e p =
          subst (λ (rows : Rows). T (has_key (at r e.column) rows))
          (sym (rows_other s g (frame rest) [] e.parent (λ d. parent-other s g e p.edge (d ∙ sym p.child))))
          (law.parents R inside r there e p)

      pub delete-done : Done s B (change_of 2 R r r')
      unfolding agrees effect changed
      delete-done =
          let m = meaning s (having (frame rest) (r ∷ [])) in
          let moves = delete-moves s g (frame rest) r deleted-lawful gone par in
          step (r ∷ []) rest (same-take r (rows_of B R) has) [] 2 r r' refl (judges-out s g (frame rest) r deleted-lawful gone par) moves
          (and_both (old_row s m R r) (has_rows (effect s m (change_of 2 R r r')).list_out m.list)
          (old_row_lem s g (frame rest) r gone) (replaced-has s g (frame rest) (r ∷ []) [] _ moves))
          deleted-lawful (only r) (key-not r rest gone) (λ y m. absurd m) (λ m. none-empty r' none (rest_in r' m))

    -- an update: another row with the same key and tied columns
    module _ (r' : Row) (wide : length r' ≡ width s R) (tie : Tied s R r r') where
      gone' : T (has_key (key r') rest) → ⊥
      gone' h = gone (subst (λ (k : ℕ). T (has_key k rest)) (sym tie.keys) h)

      updated-lawful : Lawful s (set B R (r' ∷ rest))
      updated-lawful =
          lawful-set s g B law R inside (r' ∷ rest) widths (once-cons r' rest gone' (once-take r (rows_of B R) (law.keys R inside))) parents
          (λ x e p q m. subst T
          (any_of (λ y. eqb (at x e.column) (key y)) (rows_of B R) (r ∷ rest) (same-take r (rows_of B R) has)
          ∙ ap (λ k. eqb (at x e.column) k || has_key (at x e.column) rest) tie.keys)
          (subst (λ (t : ℕ). Met B t (at x e.column)) q (law.parents e.child (g.child-in e p.edge) x m e p)))
        where
          widths : (x : Row) → Mem x (r' ∷ rest) → length x ≡ width s R
          widths x (inl e) = ap length e ∙ wide
          widths x (inr m) = law.widths R inside x (rest_in x m)

          parents : (x : Row) → Mem x (r' ∷ rest) → (e : Edge) → Promised s R e → Met B e.parent (at x e.column)
          parents x (inl q) e p =
              subst (Met B e.parent) (tie.children e p.edge p.child ∙ ap (λ y. at y e.column) (sym q)) (law.parents R inside r there e p)
          parents x (inr m) e p = law.parents R inside x (rest_in x m) e p

      pub update-done : Done s B (change_of 3 R r r')
      unfolding agrees effect changed
      update-done =
          let m = meaning s (having (frame rest) (r ∷ [])) in
          let same = same-take r (rows_of B R) has in
          let once = old-once (r ∷ []) rest same in
          let moves = update-moves s g (frame rest) r r' tie once gone in
          step (r ∷ []) rest same (r' ∷ []) 3 r r' refl (judges-new s g (frame rest) r r' tie) moves
          (facts-make (old_row s m R r ∷ found_show s m R r ∷ has_rows (effect s m (change_of 3 R r r')).list_out m.list ∷ []) (
            old_row_lem s g (frame rest) r gone,
            (
              update-show s g (frame rest) r r' tie once gone,
              (replaced-has s g (frame rest) (r ∷ []) (r' ∷ []) _ moves, tt),
            ),
          ))
          updated-lawful (only r) (key-not r rest gone) (only r') (key-not r' rest gone')

-- Every lawful change
pub lawful-good : (s : Sheet) (B : Tables) (c : Change) → T (lawful_change s B c) → T (good_change s c)
unfolding lawful_change
lawful-good s B c h = and-fst (good_change s c) _ h

pub done : (s : Sheet) → Good s → (B : Tables) → Lawful s B → (c : Change) → T (lawful_change s B c) → Done s B c
unfolding lawful_change tied_stay
done s g B law c h =
    by-kind s (λ c. T (lawful_change s B c) → Done s B c)
    (λ t r r' l e e' h.
    let w = facts (good_change s (change_of 1 t r r') ∷ (not (has_key (key r') (rows_of B t)) && has_parents s B t r') ∷ []) h in
    let k = facts (not (has_key (key r') (rows_of B t)) ∷ has_parents s B t r' ∷ []) w.1.0 in
    insert-done s g B law t l r r' e e' (not→F (has_key (key r') (rows_of B t)) k.0) (parents-get s B t r' k.1.0))
    (λ t r r' l e e' h.
    let w = facts (good_change s (change_of 2 t r r') ∷ (has_row r (rows_of B t) && not (has_promised_child s B t (key r))) ∷ []) h in
    let k = facts (has_row r (rows_of B t) ∷ not (has_promised_child s B t (key r)) ∷ []) w.1.0 in
    delete-done s g B law t l r k.0 r' e' (not→F (has_promised_child s B t (key r)) k.1.0))
    (λ t r r' l e e' q h.
    let w = facts (good_change s (change_of 3 t r r') ∷ (has_row r (rows_of B t) && same_tied s t r r') ∷ []) h in
    let k = facts (has_row r (rows_of B t) ∷ same_tied s t r r' ∷ []) w.1.0 in
    update-done s g B law t l r k.0 r' e' (tied-get s g t r r' q k.1.0))
    c (lawful-good s B c h) h
