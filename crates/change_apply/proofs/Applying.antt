-- What a change that passes tests 5 and 6 is, kind by kind; and what it leaves is sound.
-- Assumes nothing.
use Prim.Native.Nat.{ℕ, ◌<◌}
use mathlib.Core.Path.{◌≡◌, refl, sym, subst}
use mathlib.Core.Bool.{Bool, true, false, cond, ◌&&◌}
use mathlib.Core.List.{[], ◌∷◌}
use lib.Dec.{T, ltb, eqb, ltb→lt}
use lib.ListN.{length}
use Rattle.lists.specs.Lists.{Words}
use Rattle.lists.proofs.Truth.{is_t, eqb→≡, and-fst, and-snd}
use Rattle.rows.specs.Rows.{Row, key}
use Rattle.meaning.specs.Answers.{contradiction, no_room, refused}
use Rattle.meaning.specs.Sheet.{Sheet, width, sheet_of, table_count}
use Rattle.meaning.specs.Base.{has_width, Change, change_of, good_change, tied_stay}
use Rattle.meaning.specs.Store.{store_of, model_of, sound, fits}
use Rattle.meaning.specs.Change.{agrees, model_after, accepted}
use Rattle.laws.specs.Updates.{Tied}
use Rattle.laws.specs.Sheets.{Good}
use Rattle.laws.proofs.Lists.{facts}
use Rattle.laws.proofs.Changes.{after-sound}
use Rattle.laws.proofs.Updates.{tied-get}
use Rattle.sheet.proofs.Words.{n-is}
use Rattle.std.specs.Prelude.{Ok}
use Rattle.change_asked.specs.Asked.{asked_of}
use Rattle.change_asked.proofs.Tests.{asked-good}
use Rattle.sheet_plan.specs.declared.Plan.{Plan}
use Rattle.walk.specs.Grounds.{Lent}
use Rattle.store.specs.Answers.{Says}
use Rattle.effects.specs.Applied.{applied}
use Rattle.change_laws.specs.Ready.{Ready}
use Rattle.change_apply.specs.Applies.{Applies}
use Rattle.std.specs.Prelude.{Result}
use Rattle.sheet.specs.declared.refusal.Refusal.{Refusal}
use Rattle.store.specs.declared.Done.{Done}

-- The row of an insert, of a delete, the rows of an update
module _ (ws : Words) (t : ℕ) (r r' : Row) where
  inside : (b : Bool) → T (ltb t (sheet_of ws).n && b) → t < table_count ws
  inside b h = subst (λ (n : ℕ). t < n) (n-is ws) (ltb→lt t (sheet_of ws).n (and-fst (ltb t (sheet_of ws).n) b h))

  pub insert-lent : asked_of ws (change_of 1 t r r') ≡ Ok tt → Lent ws t r'
  unfolding good_change
  insert-lent h =
      let good = is_t (asked-good ws (change_of 1 t r r') h).0 in
      let rows = eqb (length r) 0 && has_width (sheet_of ws) t r' in
      let w = facts (eqb (length r) 0 ∷ has_width (sheet_of ws) t r' ∷ []) (and-snd (ltb t (sheet_of ws).n) rows good) in
      record { table = inside rows good; wide = eqb→≡ (length r') (width (sheet_of ws) t) w.1.0 }

  pub delete-lent : asked_of ws (change_of 2 t r r') ≡ Ok tt → Lent ws t r
  unfolding good_change
  delete-lent h =
      let good = is_t (asked-good ws (change_of 2 t r r') h).0 in
      let rows = has_width (sheet_of ws) t r && eqb (length r') 0 in
      let w = facts (has_width (sheet_of ws) t r ∷ eqb (length r') 0 ∷ []) (and-snd (ltb t (sheet_of ws).n) rows good) in
      record { table = inside rows good; wide = eqb→≡ (length r) (width (sheet_of ws) t) w.0 }

  module _ (h : asked_of ws (change_of 3 t r r') ≡ Ok tt) where
    lent_both : (Lent ws t r × Lent ws t r') × (key r ≡ key r')
    unfolding good_change
    lent_both =
        let good = is_t (asked-good ws (change_of 3 t r r') h).0 in
        let rows = has_width (sheet_of ws) t r && has_width (sheet_of ws) t r' && eqb (key r) (key r') in
        let w = facts (has_width (sheet_of ws) t r ∷ has_width (sheet_of ws) t r' ∷ eqb (key r) (key r') ∷ []) (and-snd (ltb t (sheet_of ws).n) rows good) in (
          (
            record { table = inside rows good; wide = eqb→≡ (length r) (width (sheet_of ws) t) w.0 },
            record { table = inside rows good; wide = eqb→≡ (length r') (width (sheet_of ws) t) w.1.0 },
          ),
          eqb→≡ (key r) (key r') w.1.1.0,
        )

    pub update-old : Lent ws t r
    update-old = lent_both.0.0

    pub update-new : Lent ws t r'
    update-new = lent_both.0.1

    pub update-tied : Good (sheet_of ws) → Tied (sheet_of ws) t r r'
    unfolding tied_stay
    update-tied g = tied-get (sheet_of ws) g t r r' lent_both.1 (is_t (asked-good ws (change_of 3 t r r') h).1)

-- What is left is sound
module _ (s : Sheet) (g : Good s) (ws : Words) (ok : T (sound s ws)) (c : Change) (good : T (good_change s c)) where
  pub applied-sound : T (sound s (applied s ws c).words)
  unfolding applied accepted
  applied-sound = go (agrees s (model_of s ws) c) (fits s (model_after s ws c)) (λ a f. after-sound s g ws c ok good (is_t a) (is_t f))
    where
      go : (a b : Bool) → (a ≡ true → b ≡ true → T (sound s (store_of s (model_after s ws c))))
          → T (sound s (cond a (cond b (accepted s ws c) (refused no_room ws)) (refused contradiction ws)).words)
      go true true h = h refl refl
      go true false h = ok
      go false b h = ok

-- each way through `apply`: the kind that is asked for, and what its function answers
module _ (ws : Words) (kind t : ℕ) (r r' : Row) (h : asked_of ws (change_of kind t r r') ≡ Ok tt) where
  asked-as : (k : ℕ) → kind ≡ k → asked_of ws (change_of k t r r') ≡ Ok tt
  asked-as k e = subst (λ (j : ℕ). asked_of ws (change_of j t r r') ≡ Ok tt) e h

  pub inserts : kind ≡ 1 → Lent ws t r'
  inserts e = insert-lent ws t r r' (asked-as 1 e)

  pub deletes : kind ≡ 2 → Lent ws t r
  deletes e = delete-lent ws t r r' (asked-as 2 e)

  pub updates : Good (sheet_of ws) → kind ≡ 3 → Lent ws t r × (Lent ws t r' × Tied (sheet_of ws) t r r')
  updates g e = let k = asked-as 3 e in (update-old ws t r r' k, (update-new ws t r r' k, update-tied ws t r r' k g))

  module _ (store : Words) (plan : Plan) (ready : Ready ws store plan) (a : Result Done Refusal) (exit : Words) where
    pub applies : (k : ℕ) → kind ≡ k → Says (applied (sheet_of ws) store (change_of k t r r')) a exit → Applies ws store (change_of kind t r r') a exit
    applies k e x =
        record {
          says = rw e x;
          sound = subst (λ (w : Words). T (sound (sheet_of ws) w)) (sym x.words)
              (applied-sound (sheet_of ws) ready.planned.good store ready.sound (change_of k t r r')
              (is_t (asked-good ws (change_of k t r r') (asked-as k e)).0));
        }
