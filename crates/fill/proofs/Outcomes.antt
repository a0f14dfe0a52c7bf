-- What fill answers, test by test in its order, and that two outcomes which meet its contract are one.
-- Assumes nothing.
use Prim.Native.Nat.{ℕ}
use mathlib.Core.Path.{◌≡◌, sym, ap, ◌∙◌}
use mathlib.Core.Bool.{Bool, true, false, ◌&&◌}
use lib.ListN.{length}
use Rattle.lists.specs.Lists.{Words}
use Rattle.meaning.specs.Answers.{refused}
use Rattle.meaning.specs.Sheet.{sheet_of, sheet_refusal}
use Rattle.meaning.specs.Plan as Plans
use Rattle.meaning.specs.Base.{lawful, good_base, base_of}
use Rattle.meaning.specs.Fill.{fill}
use Rattle.std.specs.Prelude.{Result, Ok, Err}
use Rattle.sheet.specs.declared.refusal.Refusal.{Refusal}
use Rattle.sheet.specs.declared.refusal.Refusal.TheVariants.{WrongLength, BadBase}
use Rattle.sheet.proofs.Refusals.{never-zero}
use Rattle.sheet.proofs.Good.{good-sheet}
use Rattle.sheet_plan.specs.declared.Plan.{Plan}
use Rattle.sheet_plan.specs.Plans.{checked_of}
use Rattle.sheet_plan.proofs.Planning.{checked-zero, checked-is}
use Rattle.store.specs.declared.Done.{Done}
use Rattle.store.specs.Answers.{Says}
use Rattle.store.proofs.Answers.{says-once, says-refused}
use Rattle.store.proofs.Checks.{check-plan}
use Rattle.store.proofs.Plans.{store_is}
use Rattle.filling.specs.Runs.{good_run}
use Rattle.filling.proofs.Runs.{base-good}
use Rattle.filling.proofs.Outcomes.{fill-sheet, fill-length, fill-bad-base}
use Rattle.base_run.specs.Bases.{tables_of}
use Rattle.fill.specs.Tested.{Stored}

-- two outcomes that meet the contract are one
pub fill-once : (sheet store base : Words) (a b : Result Done Refusal) (v w : Words) → Says (fill sheet store base) a v → Says (fill sheet store base) b w
    → (a ≡ b) × (v ≡ w)
fill-once sheet store base a b v w x y = says-once (fill sheet store base) a b v w x y

-- Refusals 1 to 4
module _ (ws store run : Words) where
  pub sheet-refused : (r : Refusal) → Err r ≡ checked_of ws → Says (fill ws store run) (Err r) store
  sheet-refused r e =
      let number = checked-is ws r e in
      says-refused (fill ws store run) r store
      (fill-sheet ws store run (λ z. never-zero r (sym number ∙ z)) ∙ ap (λ (j : ℕ). refused j store) number)

  -- a good sheet
  module _ (p : Plan) (e : Ok p ≡ checked_of ws) where
    zero : sheet_refusal ws ≡ 0
    zero = checked-zero ws p e

    long-is : p.store ≡ Plans.store_length (sheet_of ws)
    long-is = store_is (sheet_of ws) p (check-plan ws p e)

    pub stored : length store ≡ p.store → Stored ws p store
    stored l = record { good = good-sheet ws zero; planned = check-plan ws p e; long = l ∙ long-is }

    pub short-refused : (length store ≡ p.store → ⊥) → Says (fill ws store run) (Err WrongLength) store
    short-refused d = says-refused (fill ws store run) WrongLength store (fill-length ws store run zero (λ l. d (l ∙ sym long-is)))

-- Refusal 10
module _ {ws store : Words} {plan : Plan} (st : Stored ws plan store) (run : Words) where
  base-refused : good_base (sheet_of ws) run ≡ false → Says (fill ws store run) (Err BadBase) store
  base-refused b = says-refused (fill ws store run) BadBase store (fill-bad-base ws store run st.good.not-refused st.long b)

  pub run-refused : good_run (sheet_of ws) run ≡ false → Says (fill ws store run) (Err BadBase) store
  run-refused b = base-refused (base-good (sheet_of ws) run ∙ ap (λ (a : Bool). a && lawful (sheet_of ws) (base_of (sheet_of ws) run)) b)

  module _ (b : good_run (sheet_of ws) run ≡ true) where
    pub lawful-is : (l : Bool) → lawful (sheet_of ws) (tables_of ws run) ≡ l → good_base (sheet_of ws) run ≡ l
    unfolding tables_of
    lawful-is l e = base-good (sheet_of ws) run ∙ ap (λ (a : Bool). a && lawful (sheet_of ws) (base_of (sheet_of ws) run)) b ∙ e

    pub lawful-refused : lawful (sheet_of ws) (tables_of ws run) ≡ false → Says (fill ws store run) (Err BadBase) store
    lawful-refused e = base-refused (lawful-is false e)
