-- Demand 3: from a filled store, after each call of any sequence of changes whose accepted ones are lawful, the store holds what the sheet means for
-- the base tables as the accepted ones left them (`UpToDate`, kept by `next`); and no change alters another table's side table, lawful or not.
-- One lawful change is `Step.done`; that words and models stand for each other is `Models` and `Stores`.
-- Assumes nothing.
use Prim.Native.Nat.{ℕ, ◌<◌, ◌≤◌}
use mathlib.Core.Path.{◌≡◌, sym, ap, ◌∙◌, subst}
use mathlib.Core.List.{List, [], ◌∷◌}
use mathlib.Core.Logic.{inl, inr, ⊎_elim}
use native.Mathlib.Omega.{arith}
use lib.Dec.{T, ltb, eqb}
use lib.ListN.{length, take}
use borrow.Author.Tests.{ltb-false}
use Rattle.lists.specs.Lists.{Words}
use Rattle.lists.proofs.Truth.{F→≡, eq→eqb, eqb→≡, decided, and-snd, or_inl, or_inr, cond-true, cond-false}
use Rattle.rows.specs.Rows.{Rows, has_row}
use Rattle.meaning.specs.Sheet.{Sheet, sheet_of, room}
use Rattle.meaning.specs.Base.{Tables, rows_of, base_of, Change, change_of, good_change, same_tied, tied_stay, lawful_change, changed}
use Rattle.meaning.specs.Meaning.{side_table, the_list, Model, meaning}
use Rattle.meaning.specs.Store.{store_of, model_of, sound, rows_at, fits}
use Rattle.meaning.specs.Change.{effect, after, agrees, model_after, accepted, change}
use Rattle.meaning.specs.Fill.{filled, fill}
use Rattle.meaning.specs.Demands.{Refused, test, First, sheet_tests, change_tests, outgrows, base_after, Right, AllRight, Demand3}
use Rattle.laws.specs.Sheets.{Good}
use Rattle.laws.proofs.Lists.{here-or}
use Rattle.laws.proofs.Numbers.{Passed, first_past, change-first, change-passed, change-accepted, change-refused, fill-passed, fill-accepted}
use Rattle.laws.proofs.Sheets.{good-passed}
use Rattle.laws.proofs.Meanings.{Lawful, base-lawful, meaning-many, meaning-side, meaning-list}
use Rattle.laws.proofs.Models.{part-side, by_part, Proper, fits-get, fits-make, model-back, store_long, store-sound}
use Rattle.laws.proofs.Stores.{meaning-proper}
use Rattle.laws.proofs.Changes.{by-kind, after-other, others-stay}
use Rattle.upkeep.proofs.Step.{Done, lawful-good, done}

-- the store is what the base tables mean
pub record UpToDate (s : Sheet) (B : Tables) (ws : Words) : Type 0 where
  pub law : Lawful s B
  pub fit : T (fits s (meaning s B))
  pub words : ws ≡ store_of s (meaning s B)

-- a lawful change leaves the tied columns
lawful-tied : (s : Sheet) (B : Tables) (c : Change) → T (lawful_change s B c) → T (tied_stay s c)
unfolding lawful_change tied_stay
lawful-tied s B c h =
    by-kind s (λ c. T (lawful_change s B c) → T (tied_stay s c)) (λ t r r' l e e' h. tt) (λ t r r' l e e' h. tt)
    (λ t r r' l e e' q h. and-snd (has_row r (rows_of B t)) (same_tied s t r r') (and-snd (good_change s (change_of 3 t r r')) _ h))
    c (lawful-good s B c h) h

-- a number is 0 or a refusal
pub zero_or : (P : Type 0) (number : ℕ) → (number ≡ 0 → P) → (Refused number → P) → P
zero_or P number h k = ⊎_elim (λ e. h (eqb→≡ number 0 e)) (λ d. k (λ e. d (eq→eqb e))) (decided (eqb number 0))

module _ (sheet : Words) (p : Passed (sheet_tests sheet)) where
  abbrev s : Sheet
  s = sheet_of sheet

  g : Good s
  g = good-passed sheet p

  module _ (B : Tables) (ws : Words) (current : UpToDate s B ws) (c : Change) where
    abbrev number : ℕ
    number = (change sheet ws c).number

    proper : Proper s (meaning s B)
    proper = meaning-proper s g B current.law

    -- the store's model is the meaning of the base tables
    back : model_of s ws ≡ meaning s B
    back = ap (model_of s) current.words ∙ model-back s g (meaning s B) proper current.fit

    -- a lawful change
    module _ (lawful : T (lawful_change s B c)) where
      abbrev C : Tables
      C = changed B c

      is : Done s B c
      is = done s g B current.law c lawful

      after_is : model_after s ws c ≡ meaning s C
      unfolding model_after
      after_is = ap (λ m. after m c.table (effect s m c)) back ∙ is.right

      -- all its tests but the last are passed
      only-last : First (test 9 (fits s (model_after s ws c)) ∷ []) number
      only-last =
          let long = eq→eqb (ap length current.words ∙ store_long s g (meaning s B) proper current.fit) in
          let good = lawful-good s B c lawful in
          let tied = lawful-tied s B c lawful in
          let is-sound = subst (λ (w : Words). T (sound s w)) (sym current.words) (store-sound s g (meaning s B) proper current.fit) in
          let agree = subst (λ (m : Model). T (agrees s m c)) (sym back) is.agreed in
          first_past (take 8 (change_tests sheet ws c)) (test 9 (fits s (model_after s ws c)) ∷ []) number
          (p.0, (p.1.0, (p.1.1.0, (long, (good, (tied, (is-sound, (agree, tt)))))))) (change-first sheet ws c)

      new-current : number ≡ 0 → UpToDate s C (change sheet ws c).words
      unfolding accepted
      new-current e =
          record {
            law = is.law;
            fit = subst (λ (m : Model). T (fits s m)) after_is (change-passed sheet ws c e).fit;
            words = ap (λ o. o.words) (change-accepted sheet ws c e) ∙ ap (store_of s) after_is;
          }

      -- too large for its room: the other side tables are as they were
      too_large : (T (fits s (meaning s C)) → ⊥) → T (outgrows s C c.table)
      unfolding outgrows
      too_large d =
          let a = ltb (room s s.n) (length (the_list s C)) in
          let b = ltb (room s c.table) (length (side_table s C c.table)) in
          ⊎_elim (λ x. or_inl a b x) (λ x. ⊎_elim (λ y. or_inr a b y) (λ y. absurd (d (fits-make s (meaning s C)
          (by_part (meaning s C) s.n (meaning-many s C) (λ part rows. length rows ≤ room s part)
          (λ t l. here-or (λ t. t < s.n → length (rows_of (meaning s C).sides t) ≤ room s t) c.table t
          (λ l. subst (λ (rows : Rows). length rows ≤ room s c.table) (sym (meaning-side s C c.table l)) (ltb-false (room s c.table) _ (F→≡ b y)))
          (λ q l. subst (λ (rows : Rows). length rows ≤ room s t) (part-side (meaning s B) s.n (meaning-many s B) t l ∙ sym (other t q))
          (fits-get s (meaning s B) current.fit t (omega arith))) l)
          (subst (λ (rows : Rows). length rows ≤ room s s.n) (sym (meaning-list s C)) (ltb-false (room s s.n) _ (F→≡ a x))))))) (decided b)) (decided a)
        where
          other : (t : ℕ) → (t ≡ c.table → ⊥) → rows_of (meaning s C).sides t ≡ rows_of (meaning s B).sides t
          other t q = ap (λ m. rows_of m.sides t) (sym is.right) ∙ after-other (meaning s B) c.table (effect s (meaning s B) c) t q

      room-only : Refused number → (number ≡ 9) × T (outgrows s C c.table)
      room-only d = go only-last
        where
          go : First (test 9 (fits s (model_after s ws c)) ∷ []) number → (number ≡ 9) × T (outgrows s C c.table)
          go (inl f) = (f.1, too_large (λ h. f.0 (subst (λ (m : Model). T (fits s m)) (sym after_is) h)))
          go (inr f) = absurd (d f.1)

    module _ (lawful-if : number ≡ 0 → T (lawful_change s B c)) where
      pub next : UpToDate s (base_after sheet B ws c) (change sheet ws c).words
      unfolding base_after
      next =
          zero_or (UpToDate s (base_after sheet B ws c) (change sheet ws c).words) number
          (λ e. subst (λ (b : Tables). UpToDate s b (change sheet ws c).words) (sym (cond-true (eqb number 0) (changed B c) B (eq→eqb e)))
          (new-current (lawful-if e) e))
          (λ d. subst (λ (b : Tables). UpToDate s b (change sheet ws c).words) (sym (cond-false (eqb number 0) (changed B c) B (λ h. d (eqb→≡ number 0 h))))
          (subst (λ (w : Words). UpToDate s B w) (sym (ap (λ o. o.words) (change-refused sheet ws c d))) current))

      pub right : Right sheet B ws c
      unfolding accepted
      right =
          record {
            words = next.words;
            taken = λ e. ap (λ o. o.taken) (change-accepted sheet ws c e) ∙ ap (λ m. length (effect s m c).list_out) back ∙ (is (lawful-if e)).taken;
            added = λ e. ap (λ o. o.added) (change-accepted sheet ws c e) ∙ ap (λ m. length (effect s m c).list_in) back ∙ (is (lawful-if e)).added;
            only-room = room-only;
          }

  -- any sequence of calls
  all_right : (cs : List Change) (B : Tables) (ws : Words) → UpToDate s B ws → AllRight sheet B ws cs
  all_right [] B ws current = tt
  all_right (c ∷ cs) B ws current =
      λ lawful-if. (right B ws current c lawful-if, all_right cs (base_after sheet B ws c) (change sheet ws c).words (next B ws current c lawful-if))

-- the start: a fill that is accepted
fill-current : (sheet store run : Words) → (fill sheet store run).number ≡ 0
    → UpToDate (sheet_of sheet) (base_of (sheet_of sheet) run) (fill sheet store run).words
unfolding filled
fill-current sheet store run e =
    let p = fill-passed sheet store run e in
    record {
      law = base-lawful (sheet_of sheet) run p.base;
      fit = p.fit;
      words = ap (λ o. o.words) (fill-accepted sheet store run e);
    }

-- on any store: the change is refused and alters nothing, or the store is sound
stays : (sheet store : Words) (c : Change) (t : ℕ) → t < (sheet_of sheet).n → (t ≡ c.table → ⊥)
    → rows_at (sheet_of sheet) (change sheet store c).words t ≡ rows_at (sheet_of sheet) store t
unfolding accepted
stays sheet store c t l d =
    let s = sheet_of sheet in
    zero_or (rows_at s (change sheet store c).words t ≡ rows_at s store t) (change sheet store c).number
    (λ e. let p = change-passed sheet store c e in
    ap (λ o. rows_at s o.words t) (change-accepted sheet store c e)
    ∙ others-stay s (good-passed sheet p.of-sheet) store c p.is-sound p.good p.agree p.fit t l d)
    (λ r. ap (λ o. rows_at s o.words t) (change-refused sheet store c r))

pub demand3 : Demand3
demand3 =
    record {
      right = λ sheet store run e changes.
          all_right sheet (fill-passed sheet store run e).of-sheet changes (base_of (sheet_of sheet) run) (fill sheet store run).words
          (fill-current sheet store run e);
      others-stay = stays;
    }
