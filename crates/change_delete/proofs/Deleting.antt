-- A delete on a ready store, answer by answer.
-- Assumes nothing.
use Prim.Native.Nat.{ℕ, ◌≤◌}
use mathlib.Core.Path.{◌≡◌, refl, sym, ◌∙◌, subst}
use mathlib.Core.Bool.{Bool, true, false, not}
use native.Mathlib.Omega.{arith}
use lib.ListN.{take}
use borrow.Author.Tests.{not-true, not-false}
use Rattle.lists.specs.Lists.{Words}
use Rattle.rows.specs.Rows.{Row, take_rows}
use Rattle.rows.specs.Marks.{spared, is_marked, Numbers}
use Rattle.meaning.specs.Sheet.{sheet_of}
use Rattle.meaning.specs.Store.{model_of, rows_at}
use Rattle.meaning.specs.Change.{qualifies, side_row, old_row}
use Rattle.meaning.specs.Base.{change_of}
use Rattle.effects.specs.Applied.{applied}
use Rattle.effects.proofs.Deletes.{delete-contradicts-side, delete-none, delete-contradicts-list, delete-done}
use Rattle.sheet_plan.specs.declared.Plan.{Plan}
use Rattle.walk.specs.Grounds.{Lent}
use Rattle.store.specs.declared.Part.{Part}
use Rattle.store.specs.Parts.{count_in, rows_in, Lies, Wrote}
use Rattle.store.proofs.Answers.{says-refused}
use Rattle.side_table.specs.Sides.{Sided}
use Rattle.change_laws.specs.Ready.{Ready}
use Rattle.change_laws.proofs.Answers.{says_nothing}
use Rattle.change_laws.proofs.Halves.{ready-good, ready-table, says_both}
use Rattle.std.specs.Prelude.{Option, Some, None}
use Rattle.change_taken.specs.Taking.{WaysTaken}
use Rattle.change_taken.proofs.Lists.{marked-few, list_count, rows_few}
use Rattle.change_delete.specs.Deletes.{Deletes}
use Rattle.std.specs.Prelude.{Err}
use Rattle.store.specs.Answers.{accepts}
use Rattle.sheet.specs.declared.refusal.Refusal.TheVariants.{Contradiction}

-- The rows that are taken: there are few, and their numbers rise
module _ {ws store : Words} {plan : Plan} (rd : Ready ws store plan) {t : ℕ} {r : Row} (lent : Lent ws t r)
    (list : Part) (lies : Lies (sheet_of ws) (sheet_of ws).n list)
    (numbers : Words) (a : Option ℕ) (m : WaysTaken ws store t r numbers a) (k : ℕ) (e : a ≡ Some k) where
  so : WaysTaken ws store t r numbers (Some k)
  so = subst (WaysTaken ws store t r numbers) e m

  pub taken-few : k ≤ 4096
  taken-few =
      omega (
        arith,
        marked-few _ (rows_at (sheet_of ws) store (sheet_of ws).n) (take k numbers) k so.0 so.1,
        rows_few (sheet_of ws) (ready-good rd) store rd.sound list lies,
      )

  pub taken-run : Numbers (count_in list store) (take k numbers)
  taken-run = rw (list_count (sheet_of ws) (ready-good rd) store rd.sound list lies) at so.1.run

module _ {ws store : Words} {plan : Plan} (rd : Ready ws store plan) {t : ℕ} {r : Row} (lent : Lent ws t r)
    (q : Bool) (eq : q ≡ qualifies (sheet_of ws) (model_of (sheet_of ws) store) t r)
    (b : Bool) (eb : b ≡ old_row (sheet_of ws) (model_of (sheet_of ws) store) t r)
  where
    -- the side table contradicts it
    pub deletes-contradicts-side : not b ≡ true → Deletes ws store t r (Err Contradiction) store
    deletes-contradicts-side h =
        record {
          says = λ o. says-refused (applied (sheet_of ws) store (change_of 2 t r o)) Contradiction store
              (delete-contradicts-side (sheet_of ws) (ready-good rd) store rd.sound t (ready-table rd lent) r o (sym eb ∙ not-true b h));
        }

    module _ (h : not b ≡ false) where
      old : old_row (sheet_of ws) (model_of (sheet_of ws) store) t r ≡ true
      old = sym eb ∙ not-false b h

      pub deletes-none : not q ≡ true → Deletes ws store t r (accepts 0 0) store
      deletes-none f =
          record {
            says = λ o. says_nothing (applied (sheet_of ws) store (change_of 2 t r o)) store
                (delete-none (sheet_of ws) (ready-good rd) store rd.sound t (ready-table rd lent) r o old (sym eq ∙ not-true q f));
          }

      module _ (f : not q ≡ false) (numbers : Words) (a : Option ℕ) (m : WaysTaken ws store t r numbers a) where
        fine : qualifies (sheet_of ws) (model_of (sheet_of ws) store) t r ≡ true
        fine = sym eq ∙ not-false q f

        -- the list does
        pub deletes-contradicts-list : a ≡ None → Deletes ws store t r (Err Contradiction) store
        deletes-contradicts-list e =
            record {
              says = λ o. says-refused (applied (sheet_of ws) store (change_of 2 t r o)) Contradiction store
                  (delete-contradicts-list (sheet_of ws) (ready-good rd) store rd.sound t (ready-table rd lent) r o old fine
                  (subst (WaysTaken ws store t r numbers) e m));
            }

        -- its rows leave the list and then its side table
        module _ (list : Part) (lies : Lies (sheet_of ws) (sheet_of ws).n list) (k : ℕ) (e : a ≡ Some k) (mid : Words)
            (w : Wrote list (spared (is_marked (take k numbers)) (rows_in list store)) store mid) where
          pub deletes-done : (exit : Words) → Sided (sheet_of ws) t (take_rows (side_row (sheet_of ws) t r)) mid exit → Deletes ws store t r (accepts k 0) exit
          deletes-done exit si =
              let s = sheet_of ws in
              let l = ready-table rd lent in
              let so = subst (WaysTaken ws store t r numbers) e m in
              record {
                says = λ o. says_both rd list lies (spared (is_marked (take k numbers))) (take_rows (side_row s t r)) mid exit w t l si _ _ _ _ _
                    (delete-done s (ready-good rd) store rd.sound t l r o old fine (take k numbers) so.1) so.0 refl;
              }
