-- One change on any sound store: the model after it is proper, so if it fits its words are sound and stand for it; and it leaves every other side
-- table as it was.
-- Assumes nothing.
use Prim.Native.Nat.{ℕ, ◌<◌}
use mathlib.Core.Path.{◌≡◌, refl, sym, ap₂, ◌∙◌, subst}
use mathlib.Core.Bool.{Bool, true, false, cond, not, ◌&&◌}
use mathlib.Core.List.{[], ◌∷◌, map}
use mathlib.Core.Logic.{⊎_elim}
use native.Mathlib.Omega.{arith}
use lib.Dec.{T, ltb, eqb, ltb→lt}
use lib.ListN.{length, length-set, length-map}
use lib.Seq.{get_or-set_other}
use Rattle.lists.specs.Lists.{Words, at}
use Rattle.lists.proofs.Truth.{is_t, not→F, mem-select, eqb→≡, and-fst, and-snd, or_cases, decided, cond-true, cond-false}
use Rattle.rows.specs.Rows.{Row, Rows, key, Wide, pick, rising, put_row, put_rows, has_row, take_row, take_rows, has_rows, has_key, no_key_twice}
use Rattle.rows.proofs.Sorted.{rising-puts, rising-takes}
use Rattle.rows.proofs.Cut.{wide-cons}
use Rattle.meaning.specs.Sheet.{Sheet, width}
use Rattle.meaning.specs.Plan.{kept, shown, columns}
use Rattle.meaning.specs.Base.{rows_of, Change, change_of, by_kind, good_change, has_width}
use Rattle.meaning.specs.Meaning.{list_row, Model}
use Rattle.meaning.specs.Store.{part_rows, store_of, model_of, sound, rows_at, fits}
use Rattle.meaning.specs.Change.{qualifies, can_take, ways_through, rows_through, shows_key, keys_reached, rows_found, with_columns}
use Rattle.meaning.specs.Change.{Effect, no_effect, side_row}
use Rattle.meaning.specs.Change.{insert_effect, delete_effect, update_effect, effect, after, new_key, old_row, found_show, agrees, model_after}
use Rattle.laws.specs.Sheets.{Good}
use Rattle.laws.proofs.Lists.{by-set, facts}
use Rattle.laws.proofs.Columns.{columns-side, columns-list, key-pick, list-row-length, with-length}
use Rattle.laws.proofs.Keys.{once-put, once-take, key-gone, wide-map, wide-get, wide-puts, wide-takes}
use Rattle.laws.proofs.Models.{part-side, part-list, by_part, Proper, rows-at, store-sound}
use Rattle.laws.proofs.Stores.{model-side, sound-proper}

-- what holds of each kind of change that passes test 5 holds of every such change
pub by-kind : (s : Sheet) (P : Change → Type 0)
    → ((t : ℕ) (r r' : Row) → t < s.n → length r ≡ 0 → length r' ≡ width s t → P (change_of 1 t r r'))
    → ((t : ℕ) (r r' : Row) → t < s.n → length r ≡ width s t → length r' ≡ 0 → P (change_of 2 t r r'))
    → ((t : ℕ) (r r' : Row) → t < s.n → length r ≡ width s t → length r' ≡ width s t → key r ≡ key r' → P (change_of 3 t r r'))
    → (c : Change) → T (good_change s c) → P c
unfolding good_change
by-kind s P insert delete update c h = go (eqb c.kind 1) refl (eqb c.kind 2) refl (eqb c.kind 3) refl (and-snd (ltb t s.n) (by c.kind) h)
  where
    t : ℕ
    t = c.table

    r : Row
    r = c.old

    r' : Row
    r' = c.new

    by : ℕ → Bool
    by k =
        by_kind k (eqb (length r) 0 && has_width s t r') (has_width s t r && eqb (length r') 0)
        (has_width s t r && has_width s t r' && eqb (key r) (key r')) false

    inside : t < s.n
    inside = ltb→lt t s.n (and-fst (ltb t s.n) (by c.kind) h)

    of-kind : (k : ℕ) → T (eqb c.kind k) → P (change_of k t r r') → P c
    of-kind k e p = subst (λ (j : ℕ). P (change_of j t r r')) (sym (eqb→≡ c.kind k e)) p

    go : (a : Bool) → eqb c.kind 1 ≡ a → (b : Bool) → eqb c.kind 2 ≡ b → (d : Bool) → eqb c.kind 3 ≡ d
        → T (cond a (eqb (length r) 0 && has_width s t r')
        (cond b (has_width s t r && eqb (length r') 0) (cond d (has_width s t r && has_width s t r' && eqb (key r) (key r')) false))) → P c
    go true e b f d g k =
        let w = facts (eqb (length r) 0 ∷ has_width s t r' ∷ []) k in
        of-kind 1 (is_t e) (insert t r r' inside (eqb→≡ (length r) 0 w.0) (eqb→≡ (length r') (width s t) w.1.0))
    go false e true f d g k =
        let w = facts (has_width s t r ∷ eqb (length r') 0 ∷ []) k in
        of-kind 2 (is_t f) (delete t r r' inside (eqb→≡ (length r) (width s t) w.0) (eqb→≡ (length r') 0 w.1.0))
    go false e false f true g k =
        let w = facts (has_width s t r ∷ has_width s t r' ∷ eqb (key r) (key r') ∷ []) k in
        of-kind 3 (is_t g)
        (update t r r' inside (eqb→≡ (length r) (width s t) w.0) (eqb→≡ (length r') (width s t) w.1.0) (eqb→≡ (key r) (key r') w.1.1.0))
    go false e false f false g k = absurd k

-- The rows of an effect have their part's width
pub side-row-wide : (s : Sheet) (t : ℕ) (r : Row) → t < s.n → Wide (columns s t) (side_row s t r)
unfolding side_row
side-row-wide s t r l =
    ⊎_elim
    (λ k. subst (λ (rows : Rows). Wide (columns s t) rows) (sym (cond-true (kept s t) (pick (shown s t) r ∷ []) [] k))
    (wide-cons (columns s t) (pick (shown s t) r) [] (length-map (shown s t) (at r) ∙ sym (columns-side s t l k)) tt))
    (λ k. subst (λ (rows : Rows). Wide (columns s t) rows) (sym (cond-false (kept s t) (pick (shown s t) r ∷ []) [] k)) tt) (decided (kept s t))

pub side-row-none : (s : Sheet) (t : ℕ) (r : Row) → (T (kept s t) → ⊥) → side_row s t r ≡ []
unfolding side_row
side-row-none s t r k = cond-false (kept s t) (pick (shown s t) r ∷ []) [] k

pub through-wide : (s : Sheet) (m : Model) (t : ℕ) (r : Row) → Wide (columns s s.n) (rows_through s m t r)
unfolding rows_through
through-wide s m t r = wide-map (columns s s.n) (list_row s) (ways_through s m t r) (λ way i. list-row-length s way ∙ sym (columns-list s))

pub found-wide : (s : Sheet) (m : Model) → Proper s m → (t : ℕ) (r r' : Row) → Wide (columns s s.n) (map (with_columns s.listed t r') (rows_found s m t r))
unfolding rows_found
found-wide s m p t r r' =
    wide-map (columns s s.n) (with_columns s.listed t r') (rows_found s m t r) (λ row i.
    with-length s.listed t r' row
    (wide-get (columns s s.n) m.list (subst (λ (rows : Rows). Wide (columns s s.n) rows) (part-list m s.n p.many) (p.wide s.n (omega arith)))
    row (mem-select (shows_key s (keys_reached s m s.n t (key r ∷ []))) m.list row i).0 ∙ columns-list s)
    ∙ sym (columns-list s))

-- the side table of t after an effect
abbrev pub side_after : Model → ℕ → Effect → Rows
side_after m t x = put_rows x.side_in (take_rows x.side_out (rows_of m.sides t))

pub after-other : (m : Model) (t : ℕ) (x : Effect) (u : ℕ) → (u ≡ t → ⊥) → rows_of (after m t x).sides u ≡ rows_of m.sides u
unfolding after
after-other m t x u d = get_or-set_other m.sides t u (side_after m t x) [] d

still-none : (xs : Rows) → put_rows [] (take_rows xs []) ≡ []
unfolding put_rows take_rows take_row
still-none [] = refl
still-none (x ∷ xs) = still-none xs

-- an effect keeps a proper model proper, if its rows have their parts' widths and no key stands twice after it
module _ (s : Sheet) (m : Model) (p : Proper s m) (t : ℕ) (l : t < s.n) (x : Effect) where
  each-side : (P : ℕ → Rows → Type 0) → ((u : ℕ) → u < s.n → P u (part_rows m u)) → P t (side_after m t x) → (u : ℕ) → u < s.n
      → P u (rows_of (after m t x).sides u)
  unfolding after
  each-side P h k =
      by-set [] (λ u rows. u < s.n → P u rows) m.sides t (side_after m t x) (omega (arith, p.many)) (λ i. k)
      (λ u d i. subst (P u) (part-side m s.n p.many u i) (h u i))

  side-is : (P : Rows → Type 0) → P (part_rows m t) → P (rows_of m.sides t)
  side-is P h = subst P (part-side m s.n p.many t l) h

  many : length (after m t x).sides ≡ s.n
  unfolding after
  many = length-set m.sides t (side_after m t x) ∙ p.many

  pub proper-after : Wide (columns s t) x.side_in → ((T (kept s t) → ⊥) → x.side_in ≡ []) → T (no_key_twice (side_after m t x))
      → Wide (columns s s.n) x.list_in → Proper s (after m t x)
  unfolding after
  proper-after w u o wl =
      record {
        many = many;
        wide = by_part (after m t x) s.n many (λ part rows. Wide (columns s part) rows)
            (each-side (λ u rows. Wide (columns s u) rows) (λ u i. p.wide u (omega arith))
            (wide-puts (columns s t) x.side_in (take_rows x.side_out (rows_of m.sides t)) w
            (wide-takes (columns s t) x.side_out (rows_of m.sides t) (side-is (λ rows. Wide (columns s t) rows) (p.wide t (omega arith))))))
            (wide-puts (columns s s.n) x.list_in (take_rows x.list_out m.list) wl
            (wide-takes (columns s s.n) x.list_out m.list (list-is (λ rows. Wide (columns s s.n) rows) (p.wide s.n (omega arith)))));
        in_order = by_part (after m t x) s.n many (λ part rows. T (rising rows))
            (each-side (λ u rows. T (rising rows)) (λ u i. p.in_order u (omega arith))
            (rising-puts x.side_in _ (rising-takes x.side_out (rows_of m.sides t) (side-is (λ rows. T (rising rows)) (p.in_order t (omega arith))))))
            (rising-puts x.list_in _ (rising-takes x.list_out m.list (list-is (λ rows. T (rising rows)) (p.in_order s.n (omega arith)))));
        once = λ v i. subst (λ (rows : Rows). T (no_key_twice rows)) (sym (part-side (after m t x) s.n many v i))
            (each-side (λ u rows. T (no_key_twice rows)) p.once o v i);
        unkept = λ v i. subst (λ (rows : Rows). (T (kept s v) → ⊥) → rows ≡ []) (sym (part-side (after m t x) s.n many v i))
            (each-side (λ u rows. (T (kept s u) → ⊥) → rows ≡ []) p.unkept
            (λ k. ap₂ (λ xs rows. put_rows xs (take_rows x.side_out rows)) (u k) (sym (part-side m s.n p.many t l) ∙ p.unkept t l k)
            ∙ still-none x.side_out) v i);
      }
    where
      list-is : (P : Rows → Type 0) → P (part_rows m s.n) → P m.list
      list-is P h = subst P (part-list m s.n p.many) h

-- no key stands twice in the side table after a change that the store does not contradict
module _ (s : Sheet) (g : Good s) (m : Model) (p : Proper s m) (t : ℕ) (l : t < s.n) where
  once : T (no_key_twice (rows_of m.sides t))
  once = subst (λ (rows : Rows). T (no_key_twice rows)) (part-side m s.n p.many t l) (p.once t l)

  -- by cases on whether t is kept
  side-rows : (P : Rows → Rows → Type 0) (r r' : Row) → (T (kept s t) → P (pick (shown s t) r ∷ []) (pick (shown s t) r' ∷ [])) → P [] []
      → P (side_row s t r) (side_row s t r')
  unfolding side_row
  side-rows P r r' h k = go (kept s t) (λ e. h (is_t e))
    where
      go : (b : Bool) → (b ≡ true → P (pick (shown s t) r ∷ []) (pick (shown s t) r' ∷ []))
          → P (cond b (pick (shown s t) r ∷ []) []) (cond b (pick (shown s t) r' ∷ []) [])
      go true h = h refl
      go false h = k

  put-once : (r : Row) (rows : Rows) → (T (has_key (key r) rows) → ⊥) → T (no_key_twice rows) → T (no_key_twice (put_row (pick (shown s t) r) rows))
  put-once r rows h o = once-put (pick (shown s t) r) rows (λ k. h (subst (λ (k : ℕ). T (has_key k rows)) (key-pick s g t l r) k)) o

  pub once-in : (r : Row) → T (new_key m t r) → T (no_key_twice (put_rows (side_row s t r) (rows_of m.sides t)))
  unfolding new_key put_rows
  once-in r h =
      side-rows (λ out put. T (no_key_twice (put_rows put (rows_of m.sides t)))) r r
      (λ k. put-once r (rows_of m.sides t) (not→F (has_key (key r) (rows_of m.sides t)) h) once) once

  pub once-out : (r : Row) → T (no_key_twice (take_rows (side_row s t r) (rows_of m.sides t)))
  unfolding take_rows
  once-out r =
      side-rows (λ out put. T (no_key_twice (take_rows out (rows_of m.sides t)))) r r (λ k. once-take (pick (shown s t) r) (rows_of m.sides t) once) once

  pub once-swap : (r r' : Row) → key r ≡ key r' → T (qualifies s m t r) → T (old_row s m t r)
      → T (no_key_twice (put_rows (side_row s t r') (take_rows (side_row s t r) (rows_of m.sides t))))
  unfolding old_row take_rows put_rows
  once-swap r r' e q h =
      side-rows (λ out put. T (no_key_twice (put_rows put (take_rows out rows)))) r r'
      (λ k. put-once r' (take_row (pick (shown s t) r) rows)
      (λ j. key-gone (pick (shown s t) r) rows once (there k)
      (subst (λ (k : ℕ). T (has_key k (take_row (pick (shown s t) r) rows))) (sym (key-pick s g t l r ∙ e)) j))
      (once-take (pick (shown s t) r) rows once)) once
    where
      rows : Rows
      rows = rows_of m.sides t

      there : T (kept s t) → T (has_row (pick (shown s t) r) rows)
      there k =
          subst T (cond-true (qualifies s m t r) (has_row (pick (shown s t) r) rows) (not (has_key (key r) rows)) q)
          (⊎_elim (λ d. absurd (not→F (kept s t) d k)) (λ j. j)
          (or_cases (not (kept s t)) (cond (qualifies s m t r) (has_row (pick (shown s t) r) rows) (not (has_key (key r) rows))) h))

-- A change that passes tests 5 and 8 on a proper model leaves a proper model
module _ (s : Sheet) (g : Good s) (m : Model) (p : Proper s m) where
  -- a row that isn't qualified changes nothing
  by-qualified : (t : ℕ) → t < s.n → (r : Row) (x : Effect) → (T (qualifies s m t r) → Proper s (after m t x))
      → Proper s (after m t (cond (qualifies s m t r) x no_effect))
  unfolding put_rows take_rows
  by-qualified t l r x h = go (qualifies s m t r) (λ e. h (is_t e))
    where
      go : (b : Bool) → (b ≡ true → Proper s (after m t x)) → Proper s (after m t (cond b x no_effect))
      go true h = h refl
      go false h = proper-after s m p t l no_effect tt (λ k. refl) (once s g m p t l) tt

  pub change-proper : (c : Change) → T (good_change s c) → T (agrees s m c) → Proper s (after m c.table (effect s m c))
  unfolding agrees effect insert_effect delete_effect update_effect put_rows take_rows
  change-proper =
      by-kind s (λ c. T (agrees s m c) → Proper s (after m c.table (effect s m c)))
      (λ t r r' l e e' h. by-qualified t l r' (insert_effect s m t r') (λ q.
      proper-after s m p t l (insert_effect s m t r') (side-row-wide s t r' l) (side-row-none s t r')
      (once-in s g m p t l r' (and-fst (new_key m t r') (has_rows (effect s m (change_of 1 t r r')).list_out m.list) h)) (through-wide s m t r')))
      (λ t r r' l e e' h. by-qualified t l r (delete_effect s m t r) (λ q.
      proper-after s m p t l (delete_effect s m t r) tt (λ k. refl) (once-out s g m p t l r) tt))
      (λ t r r' l e e' k h. by-qualified t l r (update_effect s m t r r') (λ q.
      let old = facts (old_row s m t r ∷ found_show s m t r ∷ has_rows (effect s m (change_of 3 t r r')).list_out m.list ∷ []) h in
      proper-after s m p t l (update_effect s m t r r') (side-row-wide s t r' l) (side-row-none s t r') (once-swap s g m p t l r r' k q old.0)
      (by-can (can_take s t) (rows_through s m t r') (map (with_columns s.listed t r') (rows_found s m t r)) (through-wide s m t r')
      (found-wide s m p t r r'))))
    where
      by-can : (b : Bool) (xs ys : Rows) → Wide (columns s s.n) xs → Wide (columns s s.n) ys → Wide (columns s s.n) (cond b xs ys)
      by-can true xs ys h k = h
      by-can false xs ys h k = k

-- The change call on a sound store: what it writes is the words of a proper model, and the other side tables are as they were
module _ (s : Sheet) (g : Good s) (ws : Words) (c : Change) (ok : T (sound s ws)) (good : T (good_change s c)) (agree : T (agrees s (model_of s ws) c)) where
  pub after-proper : Proper s (model_after s ws c)
  unfolding model_after
  after-proper = change-proper s g (model_of s ws) (sound-proper s g ws ok) c good agree

  pub after-sound : T (fits s (model_after s ws c)) → T (sound s (store_of s (model_after s ws c)))
  after-sound fit = store-sound s g (model_after s ws c) after-proper fit

  pub others-stay : T (fits s (model_after s ws c)) → (t : ℕ) → t < s.n → (t ≡ c.table → ⊥) → rows_at s (store_of s (model_after s ws c)) t ≡ rows_at s ws t
  unfolding model_after
  others-stay fit t l d =
      rows-at s g (model_after s ws c) after-proper fit t (omega arith)
      ∙ part-side (model_after s ws c) s.n after-proper.many t l ∙ side-stays ∙ model-side s ws t l
    where
      side-stays : rows_of (model_after s ws c).sides t ≡ rows_of (model_of s ws).sides t
      side-stays = after-other (model_of s ws) c.table (effect s (model_of s ws) c) t d
