-- The show call as the code goes through it: by the check of the sheet, the plan beside it, and the store's test.
-- Assumes nothing.
use Prim.Native.Nat.{ℕ, ◌+◌, ◌-◌, ◌*◌, ◌<◌, ◌≤◌}
use mathlib.Core.Path.{◌≡◌, sym, ap₂, ◌∙◌, subst}
use mathlib.Core.Bool.{Bool, true, false}
use mathlib.Core.List.{[]}
use native.Mathlib.Omega.{arith}
use lib.ListN.{length, take, drop}
use Rattle.lists.specs.Lists.{Words}
use Rattle.lists.specs.Parts.{part}
use Rattle.lists.proofs.Truth.{is_t}
use Rattle.meaning.specs.Sheet.{Sheet, sheet_of, sheet_refusal}
use Rattle.meaning.specs.Plan.{store_length}
use Rattle.meaning.specs.Store.{sound, stretch_of, model_of}
use Rattle.std.specs.Prelude.{Ok, Err}
use Rattle.sheet.specs.declared.refusal.Refusal.{Refusal}
use Rattle.sheet.specs.Refusals.{refusal_number}
use Rattle.sheet.proofs.Refusals.{never-zero}
use Rattle.sheet_plan.specs.declared.Plan.{Plan}
use Rattle.sheet_plan.proofs.Planning.{checked-zero, checked-is}
use Rattle.sheet_plan.specs.Plans.{checked_of}
use Rattle.places.proofs.Stands.{sound-stands}
use Rattle.store.specs.declared.Part.{Part}
use Rattle.store.specs.Parts.{count_in, Lies, Kept}
use Rattle.store.specs.Plans.{GoodPlan, part_of, SoundIs}
use Rattle.store.specs.Shows.{Gives, Stands, first_of}
use Rattle.store.proofs.Parts.{words-length}
use Rattle.store.proofs.Lying.{count-is, lies-kept}
use Rattle.store.proofs.Plans.{tables-is, store_is, part_lies}
use Rattle.store.proofs.Checks.{check-plan}
use Rattle.store.proofs.Shows.{shows-sheet, shows-length, shows-no-part, shows-unsound, shows-rows}

-- the part that an accepted call shows
pub record ShownPart (sheet store : Words) (number : ℕ) (q : Part) : Type 0 where
  pub kept : Kept q store
  pub rows : Gives sheet store number (part store q.start (q.start + count_in q store * q.columns)) 0
  pub place : q.start ≡ first_of sheet number 0

-- the rows of a part are its first words
pub stretch-is : (s : Sheet) (number : ℕ) (q : Part) → Lies s number q → (ws : Words)
    → part ws q.start (q.start + count_in q ws * q.columns) ≡ stretch_of s ws number
unfolding part stretch_of
stretch-is s number q lies ws =
    let e : q.start + count_in q ws * q.columns - q.start ≡ count_in q ws * q.columns = omega arith in
    rw e (ap₂ (λ (k a : ℕ). take k (drop a ws)) (ap₂ ◌*◌ (count-is s number q lies ws) lies.columns-is) lies.start_is)

-- and end within the store
pub stretch-ends : (q : Part) (ws : Words) → Kept q ws → q.start + count_in q ws * q.columns ≤ length ws
stretch-ends q ws k = omega (arith, k.within.ends, k.region.fits, words-length q ws k)

pub part-stands : (sheet store : Words) (number : ℕ) (q : Part) → ShownPart sheet store number q
    → Stands sheet store number (Ok (record { first = q.start; count = count_in q store * q.columns }))
part-stands sheet store number q x = record { gives = x.rows; first-is = x.place; ends = stretch-ends q store x.kept }

module _ (sheet store : Words) (number : ℕ) where
  pub show-refused : (r : Refusal) → Err r ≡ checked_of sheet → Gives sheet store number [] (refusal_number r)
  show-refused r e = shows-sheet sheet store number (refusal_number r) (checked-is sheet r e) (never-zero r)

  module _ (p : Plan) (e : Ok p ≡ checked_of sheet) where
    good : sheet_refusal sheet ≡ 0
    good = checked-zero sheet p e

    plan : GoodPlan (sheet_of sheet) p
    plan = check-plan sheet p e

    tables : p.tables ≡ (sheet_of sheet).n
    tables = tables-is (sheet_of sheet) p plan

    long-is : p.store ≡ store_length (sheet_of sheet)
    long-is = store_is (sheet_of sheet) p plan

    pub show-length : (length store ≡ p.store → ⊥) → Gives sheet store number [] 4
    show-length d = shows-length sheet store number good (λ q. d (q ∙ sym long-is))

    module _ (l : length store ≡ p.store) where
      pub show-number : p.tables < number → Gives sheet store number [] 5
      show-number m = shows-no-part sheet store number good (l ∙ long-is) (omega (arith, tables))

      module _ (m : number ≤ p.tables) (b : Bool) (is : SoundIs p store b) where
        inside : number ≤ (sheet_of sheet).n
        inside = omega (arith, tables)

        found : sound (sheet_of sheet) store ≡ b
        found = sym (is.is (sheet_of sheet) plan)

        pub show-unsound : b ≡ false → Gives sheet store number [] 7
        show-unsound f = shows-unsound sheet store number good (l ∙ long-is) inside (found ∙ f)

        module _ (t : b ≡ true) (q : Part) (is-part : q ≡ part_of p number) where
          lies : Lies (sheet_of sheet) number q
          lies = part_lies (sheet_of sheet) p plan number inside q is-part

          pub show-part : ShownPart sheet store number q
          unfolding first_of
          show-part =
              record {
                kept =
                    lies-kept (sheet_of sheet) number q lies plan.good store (model_of (sheet_of sheet) store)
                    (sound-stands (sheet_of sheet) plan.good store (is_t (found ∙ t)));
                rows =
                    subst (λ (w : Words). Gives sheet store number w 0) (sym (stretch-is (sheet_of sheet) number q lies store))
                    (shows-rows sheet store number good (l ∙ long-is) inside (found ∙ t));
                place = lies.start_is;
              }
