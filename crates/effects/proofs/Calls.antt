-- The change call, test by test: the first of tests 1 to 7 that is not passed refuses, and past them the call is `applied`.
-- Assumes nothing.
use Prim.Native.Nat.{ℕ}
use mathlib.Core.Path.{◌≡◌, refl, ap, ◌∙◌}
use mathlib.Core.Bool.{Bool, true, false, cond}
use lib.Dec.{eqb}
use lib.ListN.{length}
use borrow.Author.Tests.{eq-eqb, ne_eqb}
use Rattle.lists.specs.Lists.{Words}
use Rattle.meaning.specs.Answers.{wrong_length, bad_change, alters_tied, not_sound, contradiction, no_room, unless, Outcome, refused}
use Rattle.meaning.specs.Sheet.{sheet_of, sheet_refusal}
use Rattle.meaning.specs.Plan.{store_length}
use Rattle.meaning.specs.Base.{Change, good_change, tied_stay}
use Rattle.meaning.specs.Store.{model_of, sound, fits}
use Rattle.meaning.specs.Change.{agrees, model_after, change_refusal, accepted, change}
use Rattle.laws.proofs.Numbers.{first-stays}
use Rattle.effects.specs.Applied.{applied}

module _ (sheet ws : Words) (c : Change) where
  -- the call, by its number
  called : ℕ → Outcome
  called k = cond (eqb k 0) (accepted (sheet_of sheet) ws c) (refused k ws)

  numbered : (k : ℕ) → change_refusal sheet ws c ≡ k → change sheet ws c ≡ called k
  unfolding change called
  numbered k e = ap called e

  -- refusals 1 to 3
  pub refuses-sheet : (sheet_refusal sheet ≡ 0 → ⊥) → change sheet ws c ≡ refused (sheet_refusal sheet) ws
  unfolding change_refusal called
  refuses-sheet d = numbered (sheet_refusal sheet) (first-stays (sheet_refusal sheet) _ d) ∙ rw (ne_eqb (sheet_refusal sheet) 0 d)

  module _ (ok : sheet_refusal sheet ≡ 0) where
    pub refuses-length : (length ws ≡ store_length (sheet_of sheet) → ⊥) → change sheet ws c ≡ refused wrong_length ws
    unfolding change_refusal called
    refuses-length d = numbered wrong_length (rw (ok, ne_eqb (length ws) (store_length (sheet_of sheet)) d))

    module _ (long : length ws ≡ store_length (sheet_of sheet)) where
      pub refuses-change : good_change (sheet_of sheet) c ≡ false → change sheet ws c ≡ refused bad_change ws
      unfolding change_refusal called
      refuses-change e = numbered bad_change (rw (ok, eq-eqb (length ws) (store_length (sheet_of sheet)) long, e))

      module _ (good : good_change (sheet_of sheet) c ≡ true) where
        pub refuses-tied : tied_stay (sheet_of sheet) c ≡ false → change sheet ws c ≡ refused alters_tied ws
        unfolding change_refusal called
        refuses-tied e = numbered alters_tied (rw (ok, eq-eqb (length ws) (store_length (sheet_of sheet)) long, good, e))

        module _ (stay : tied_stay (sheet_of sheet) c ≡ true) where
          pub refuses-unsound : sound (sheet_of sheet) ws ≡ false → change sheet ws c ≡ refused not_sound ws
          unfolding change_refusal called
          refuses-unsound e = numbered not_sound (rw (ok, eq-eqb (length ws) (store_length (sheet_of sheet)) long, good, stay, e))

          -- past them
          pub change-is : sound (sheet_of sheet) ws ≡ true → change sheet ws c ≡ applied (sheet_of sheet) ws c
          unfolding change_refusal called applied
          change-is h =
              let a = agrees (sheet_of sheet) (model_of (sheet_of sheet) ws) c in
              let b = fits (sheet_of sheet) (model_after (sheet_of sheet) ws c) in
              numbered (unless a contradiction (unless b no_room 0)) (rw (ok, eq-eqb (length ws) (store_length (sheet_of sheet)) long, good, stay, h)) ∙ go a b
            where
              go : (a b : Bool) → called (unless a contradiction (unless b no_room 0))
                  ≡ cond a (cond b (accepted (sheet_of sheet) ws c) (refused no_room ws)) (refused contradiction ws)
              go true true = refl
              go true false = refl
              go false b = refl
