-- An update on a ready store, answer by answer.
-- Assumes nothing.
use mathlib.Core.List.{[]}
use Rattle.effects.proofs.Marking.{replaced-show, marked-show}
use Rattle.rows.proofs.Takes.{length-takes}
use Rattle.lists.proofs.Truth.{is_t}
use lib.ListN.{length, get_or, take}
use Prim.Native.Nat.{ℕ, ◌≤◌}
use mathlib.Core.Path.{◌≡◌, sym, ◌∙◌, subst}
use mathlib.Core.Bool.{Bool, true, false, not}
use mathlib.Core.Logic.{⊎_elim}
use native.Mathlib.Omega.{arith}
use lib.Dec.{T}
use borrow.Author.Tests.{not-true, not-false}
use Rattle.lists.specs.Lists.{Words, at}
use Rattle.rows.specs.Rows.{Row, Rows, pick, has_row, no_key_twice, put_rows, take_rows, sorted, same_row}
use Rattle.meaning.specs.Sheet.{sheet_of}
use Rattle.meaning.specs.Plan.{shown}
use Rattle.meaning.specs.Store.{model_of, rows_at}
use Rattle.meaning.specs.Change.{qualifies, with_columns, side_row, old_row}
use Rattle.meaning.specs.Base.{change_of}
use Rattle.laws.specs.Updates.{Tied}
use Rattle.laws.proofs.Stores.{sound-get, model-side}
use Rattle.rows.specs.Marks.{altered, is_marked, Numbers}
use Rattle.effects.specs.Applied.{applied, replaced_rows}
use Rattle.effects.proofs.Rows.{side-there}
use Rattle.effects.proofs.Updates.{update-contradicts-side, update-none, update-contradicts-shown, update-contradicts-list, update-done}
use Rattle.sheet_plan.specs.declared.Plan.{Plan}
use Rattle.list_part.specs.Gives.{gives, shows, AllShow}
use Rattle.list_part.specs.Replaces as List
use Rattle.list_part.specs.Replaces.{RowsReplaced}
use Rattle.list_part.proofs.Lists.{list-kept, list-room, list-columns}
use Rattle.change_taken.proofs.Lists.{list_count, rows_few}
use Rattle.change_taken.proofs.Finding.{fits-lent}
use Rattle.store.proofs.Lying.{rows_is}
use Rattle.walk.specs.Grounds.{Lent}
use Rattle.store.specs.declared.Part.{Part}
use Rattle.store.specs.Parts.{count_in, rows_in, Lies}
use Rattle.store.proofs.Answers.{says-refused}
use Rattle.side_table.specs.Sides.{Replaceable, Sided}
use Rattle.change_laws.specs.Ready.{Ready}
use Rattle.change_laws.proofs.Answers.{says_nothing}
use Rattle.change_laws.proofs.Halves.{ready-good, ready-table, half-side, says_both}
use Rattle.std.specs.Prelude.{Option, Some, None}
use Rattle.change_update.specs.Updates.{ReplacedTaken, Updates}
use Rattle.std.specs.Prelude.{Err}
use Rattle.store.specs.Answers.{accepts}
use Rattle.sheet.specs.declared.refusal.Refusal.TheVariants.{Contradiction}

module _ {ws store : Words} {plan : Plan} (rd : Ready ws store plan) {t : ℕ} {r : Row} (lent : Lent ws t r) (r' : Row)
    (q : Bool) (eq : q ≡ qualifies (sheet_of ws) (model_of (sheet_of ws) store) t r)
    (b : Bool) (eb : b ≡ old_row (sheet_of ws) (model_of (sheet_of ws) store) t r)
  where
    -- the side table contradicts it
    pub updates-contradicts-side : not b ≡ true → Updates ws store t r r' (Err Contradiction) store
    updates-contradicts-side h =
        record {
          says = says-refused (applied (sheet_of ws) store (change_of 3 t r r')) Contradiction store
              (update-contradicts-side (sheet_of ws) (ready-good rd) store rd.sound t (ready-table rd lent) r r' (sym eb ∙ not-true b h));
        }

    module _ (h : not b ≡ false) where
      old : old_row (sheet_of ws) (model_of (sheet_of ws) store) t r ≡ true
      old = sym eb ∙ not-false b h

      pub updates-none : not q ≡ true → Updates ws store t r r' (accepts 0 0) store
      updates-none f =
          record {
            says = says_nothing (applied (sheet_of ws) store (change_of 3 t r r')) store
                (update-none (sheet_of ws) (ready-good rd) store rd.sound t (ready-table rd lent) r r' old (sym eq ∙ not-true q f));
          }

      module _ (f : not q ≡ false) (numbers : Words) (a : Option ℕ) (m : ReplacedTaken ws store t r numbers a) where
        fine : qualifies (sheet_of ws) (model_of (sheet_of ws) store) t r ≡ true
        fine = sym eq ∙ not-false q f

        -- the list does
        pub updates-contradicts-list : a ≡ None → Updates ws store t r r' (Err Contradiction) store
        updates-contradicts-list e =
            let s = sheet_of ws in
            record {
              says = says-refused (applied s store (change_of 3 t r r')) Contradiction store
                  (⊎_elim (λ x. update-contradicts-shown s (ready-good rd) store rd.sound t (ready-table rd lent) r r' old x)
                  (λ x. update-contradicts-list s (ready-good rd) store rd.sound t (ready-table rd lent) r r' old fine x.0 x.1)
                  (subst (ReplacedTaken ws store t r numbers) e m fine));
            }

        -- the marked rows can be replaced
        module _ (k : ℕ) (e : a ≡ Some k) (list : Part) (lies : Lies (sheet_of ws) (sheet_of ws).n list) where
          so : ReplacedTaken ws store t r numbers (Some k)
          so = subst (ReplacedTaken ws store t r numbers) e m

          many : length (rows_at (sheet_of ws) store (sheet_of ws).n) ≡ count_in list store
          many = list_count (sheet_of ws) (ready-good rd) store rd.sound list lies

          pub numbers-few : (n : ℕ) → length numbers ≡ n → 4096 ≤ n → k ≤ length numbers
          numbers-few n long h =
              omega (
                arith,
                so.0,
                length-takes (replaced_rows (sheet_of ws) (model_of (sheet_of ws) store) t r) (rows_at (sheet_of ws) store (sheet_of ws).n) so.2.there,
                rows_few (sheet_of ws) (ready-good rd) store rd.sound list lies,
              )

          pub rows-replaceable : Lent ws t r' → List.Replaceable ws list t r' (take k numbers) store
          rows-replaceable lent' =
              record {
                rules = rd.sheet.joined.rules;
                fits = fits-lent ws t r' lent';
                kept = list-kept (sheet_of ws) (ready-good rd) store rd.sound list lies;
                room = list-room (sheet_of ws) (ready-good rd) store rd.sound list lies;
                columns = list-columns ws list lies;
                run = subst (λ (n : ℕ). Numbers n (take k numbers)) many so.2.run;
              }

          pub rows-show : AllShow ws t r (take k numbers) (rows_in list store)
          unfolding shows gives
          rows-show =
              record {
                each = λ j l. subst (λ (rows : Rows). T (same_row (get_or rows (at (take k numbers) j) [])
                    (with_columns (sheet_of ws).listed t r (get_or rows (at (take k numbers) j) []))))
                    (sym (rows_is (sheet_of ws) (sheet_of ws).n list lies store))
                    (marked-show (λ row. same_row row (with_columns (sheet_of ws).listed t r row)) _ _ _ so.2
                    (replaced-show (sheet_of ws) (ready-good rd) store rd.sound t (ready-table rd lent) r (is_t fine) so.1) j l);
              }

        -- the list's rows are replaced, and then the side row
        module _ (ti : Tied (sheet_of ws) t r r') (k : ℕ) (e : a ≡ Some k) (list : Part) (lies : Lies (sheet_of ws) (sheet_of ws).n list) (mid : Words)
            (w : RowsReplaced ws t r' (take k numbers) list store mid) where
          pub replaceable : Replaceable (sheet_of ws) mid t r r'
          replaceable =
              let s = sheet_of ws in
              let l = ready-table rd lent in
              let side = half-side rd list lies (sorted (altered (is_marked (take k numbers)) (gives ws t r') (rows_in list store))) mid w t l in
              record {
                keys = sym ti.keys;
                there =
                    λ k. subst (λ (rows : Rows). T (has_row (pick (shown s t) r) rows)) (model-side s store t l ∙ sym side)
                    (side-there s (model_of s store) t r old fine k);
                once = subst (λ (rows : Rows). T (no_key_twice rows)) (sym side) ((sound-get s store rd.sound).once t l);
              }

          pub updates-done : (exit : Words)
              → Sided (sheet_of ws) t (λ (rows : Rows). put_rows (side_row (sheet_of ws) t r') (take_rows (side_row (sheet_of ws) t r) rows)) mid exit
              → Updates ws store t r r' (accepts k k) exit
          unfolding gives
          updates-done exit si =
              let s = sheet_of ws in
              let l = ready-table rd lent in
              let so = subst (ReplacedTaken ws store t r numbers) e m in
              record {
                says =
                    says_both rd list lies (λ (rows : Rows). sorted (altered (is_marked (take k numbers)) (with_columns s.listed t r') rows))
                    (λ (rows : Rows). put_rows (side_row s t r') (take_rows (side_row s t r) rows)) mid exit w t l si _ _ _ _ _
                    (update-done s (ready-good rd) store rd.sound t l r r' old fine so.1 ti (take k numbers) so.2) so.0 so.0;
              }
