-- The change call as the code goes through it: by the check of the sheet, the plan beside it, what is asked, and the store's test.
-- Assumes nothing.
use Prim.Native.Nat.{ℕ}
use mathlib.Core.Path.{◌≡◌, refl, sym, ap, ◌∙◌}
use mathlib.Core.Bool.{Bool, true, false, cond}
use native.Mathlib.Omega.{arith}
use lib.ListN.{length}
use Rattle.lists.specs.Lists.{Words}
use Rattle.lists.proofs.Truth.{is_t}
use Rattle.meaning.specs.Answers.{refused}
use Rattle.meaning.specs.Sheet.{sheet_of, sheet_refusal}
use Rattle.meaning.specs.Plan.{store_length}
use Rattle.meaning.specs.Base.{Change, good_change, tied_stay}
use Rattle.meaning.specs.Store.{sound}
use Rattle.meaning.specs.Change.{change}
use Rattle.effects.proofs.Calls.{refuses-sheet, refuses-length, refuses-change, refuses-tied, refuses-unsound, change-is}
use Rattle.std.specs.Prelude.{Result, Ok, Err, ⊤}
use Rattle.sheet.specs.declared.refusal.Refusal.{Refusal}
use Rattle.sheet.specs.declared.refusal.Refusal.TheVariants.{WrongLength, BadRequest, AltersTied, NotSound}
use Rattle.sheet.proofs.Refusals.{never-zero}
use Rattle.sheet.proofs.Good.{good-sheet}
use Rattle.sheet_plan.specs.declared.Plan.{Plan}
use Rattle.sheet_plan.specs.Plans.{checked_of}
use Rattle.sheet_plan.proofs.Planning.{checked-zero, checked-is}
use Rattle.change_asked.specs.Asked.{asked_of}
use Rattle.change_asked.proofs.Tests.{asked-good}
use Rattle.store.specs.declared.Done.{Done}
use Rattle.store.specs.Answers.{Says}
use Rattle.store.specs.Plans.{GoodPlan, SoundIs}
use Rattle.store.proofs.Answers.{says-once, says-refused}
use Rattle.store.proofs.Checks.{check-plan}
use Rattle.store.proofs.Plans.{store_is}
use Rattle.change_laws.specs.Ready.{Ready}
use Rattle.walk.proofs.Routes.{routed}
use Rattle.change_apply.specs.Applies.{Applies}

-- two outcomes of one call are the same
pub change-once : (sheet store : Words) (c : Change) (a b : Result Done Refusal) (v w : Words) → Says (change sheet store c) a v
    → Says (change sheet store c) b w → (a ≡ b) × (v ≡ w)
change-once sheet store c = says-once (change sheet store c)

module _ (sheet store : Words) (c : Change) where
  pub says-sheet : (r : Refusal) → Err r ≡ checked_of sheet → Says (change sheet store c) (Err r) store
  says-sheet r e =
      let number = checked-is sheet r e in
      says-refused (change sheet store c) r store
      (refuses-sheet sheet store c (λ z. never-zero r (sym number ∙ z)) ∙ ap (λ (j : ℕ). refused j store) number)

  module _ (p : Plan) (e : Ok p ≡ checked_of sheet) where
    good : sheet_refusal sheet ≡ 0
    good = checked-zero sheet p e

    plan : GoodPlan (sheet_of sheet) p
    plan = check-plan sheet p e

    long-is : p.store ≡ store_length (sheet_of sheet)
    long-is = store_is (sheet_of sheet) p plan

    pub says-length : (length store ≡ p.store → ⊥) → Says (change sheet store c) (Err WrongLength) store
    says-length d = says-refused (change sheet store c) WrongLength store (refuses-length sheet store c good (λ q. d (q ∙ sym long-is)))

    module _ (l : length store ≡ p.store) where
      -- 5 or 6, whichever is asked first
      pub says-asked : (r : Refusal) → Err r ≡ asked_of sheet c → Says (change sheet store c) (Err r) store
      unfolding asked_of
      says-asked r h = go (good_change (sheet_of sheet) c) refl (tied_stay (sheet_of sheet) c) refl h
        where
          go : (a : Bool) → good_change (sheet_of sheet) c ≡ a → (b : Bool) → tied_stay (sheet_of sheet) c ≡ b
              → Err r ≡ cond {A = Result ⊤ Refusal} a (cond b (Ok tt) (Err AltersTied)) (Err BadRequest)
              → Says (change sheet store c) (Err r) store
          go true x true y q = absurd (let z : ◌≡◌ {A = ℕ} 0 1 = cc in omega arith)
          go true x false y q =
              let same : r ≡ AltersTied = cc in
              rw same (says-refused (change sheet store c) AltersTied store (refuses-tied sheet store c good (l ∙ long-is) x y))
          go false x b y q =
              let same : r ≡ BadRequest = cc in
              rw same (says-refused (change sheet store c) BadRequest store (refuses-change sheet store c good (l ∙ long-is) x))

      module _ (w : Ok tt ≡ asked_of sheet c) (b : Bool) (is : SoundIs p store b) where
        tests : (good_change (sheet_of sheet) c ≡ true) × (tied_stay (sheet_of sheet) c ≡ true)
        tests = asked-good sheet c (sym w)

        found : sound (sheet_of sheet) store ≡ b
        found = sym (is.is (sheet_of sheet) plan)

        pub says-unsound : b ≡ false → Says (change sheet store c) (Err NotSound) store
        says-unsound f =
            says-refused (change sheet store c) NotSound store
            (refuses-unsound sheet store c good (l ∙ long-is) tests.0 tests.1 (found ∙ f))

        module _ (t : b ≡ true) where
          pub is-ready : Ready sheet store p
          is-ready =
              record { sheet = good-sheet sheet good; planned = plan; routed = routed sheet p plan.planned; sound = is_t (found ∙ t) }

          pub says-applied : (o : Result Done Refusal) (exit : Words) → Applies sheet store c o exit → Says (change sheet store c) o exit
          says-applied o exit x = rw (change-is sheet store c good (l ∙ long-is) tests.0 tests.1 (found ∙ t)) x.says
