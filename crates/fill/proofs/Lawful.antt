-- Fill from lawful base tables: what its parts ask of what was tested, refusal 9, and the store that is written.
-- Assumes nothing.
use Prim.Native.Nat.{ℕ, ◌<◌, ◌≤◌}
use mathlib.Core.Path.{◌≡◌, refl, sym, ap, ◌∙◌, subst}
use mathlib.Core.Bool.{Bool, true, false, ◌&&◌}
use mathlib.Core.List.{List}
use native.Mathlib.Omega.{arith}
use lib.Dec.{leb→le}
use lib.ListN.{length, replicate, length-replicate}
use borrow.Author.Tests.{le-leb, lt-leb}
use Rattle.lists.specs.Lists.{Words}
use Rattle.lists.specs.Loops.{every}
use Rattle.lists.proofs.Truth.{is_t}
use Rattle.lists.proofs.Loops.{every-at}
use Rattle.meaning.specs.Sheet.{sheet_of, room, table_count}
use Rattle.meaning.specs.Base.{base_of, good_base, lawful}
use Rattle.meaning.specs.Meaning.{side_table, the_list, meaning}
use Rattle.meaning.specs.Store.{fits}
use Rattle.meaning.specs.Fill.{fill, filled}
use Rattle.laws.specs.Sheets.{Good}
use Rattle.laws.proofs.Meanings.{meaning-list}
use Rattle.places.specs.Stands.{Stands}
use Rattle.places.proofs.Stands.{stands-words}
use Rattle.sheet.proofs.Words.{n-is}
use Rattle.sheet_plan.specs.declared.Plan.{Plan}
use Rattle.store.specs.declared.Part.{Part}
use Rattle.store.specs.Plans.{part_of}
use Rattle.store.specs.Answers.{accepts, Says}
use Rattle.store.proofs.Answers.{says-refused, says-done}
use Rattle.walk.specs.Routes.{route_of}
use Rattle.filling.specs.Written.{side_fits, list_fits}
use Rattle.filling.proofs.Outcomes.{fill-no-room, fill_done, fits-is}
use Rattle.store.proofs.Plans.{list-lies}
use Rattle.base_run.specs.Bases.{tables_of, Laid}
use Rattle.base_run.proofs.Steps.{good_of}
use Rattle.fill_sides.specs.Sides.{fits_no, partly_of}
use Rattle.fill_sides.proofs.Whole.{fits_all, none_written, all-written}
use Rattle.fill.proofs.Counted.{run-good}
use Rattle.fill.proofs.Outcomes.{lawful-is}
use Rattle.fill_list.specs.Putting.{Blank}
use Rattle.fill_list.proofs.Counts.{lawful-tables}
use Rattle.fill_list.proofs.Grounds.{sides-sound, planned-ground}
use Rattle.fill.specs.Tested.{Stored}
use Rattle.std.specs.Prelude.{Err}
use Rattle.sheet.specs.declared.refusal.Refusal.TheVariants.{NoRoom}

-- Lawful base tables
module _ {ws store run : Words} {plan : Plan} {starts : List ℕ} (st : Stored ws plan store) (laid : Laid ws run starts)
    (law : lawful (sheet_of ws) (tables_of ws run) ≡ true) where
  is-good : Good (sheet_of ws)
  is-good = good_of ws st.good

  base-is : good_base (sheet_of ws) run ≡ true
  base-is = lawful-is st run (run-good (sheet_of ws) run laid.counted) true law

  -- Refusal 9
  fits-are : (b c : Bool) → every (fits_no ws run) (table_count ws) ≡ b → list_fits (sheet_of ws) (tables_of ws run) ≡ c
      → fits (sheet_of ws) (meaning (sheet_of ws) (base_of (sheet_of ws) run)) ≡ (b && c)
  unfolding tables_of
  fits-are b c e f = fits-is (sheet_of ws) (tables_of ws run) ∙ rw (sym (fits_all ws run) ∙ e, f)

  full : fits (sheet_of ws) (meaning (sheet_of ws) (base_of (sheet_of ws) run)) ≡ false → Says (fill ws store run) (Err NoRoom) store
  full f = says-refused (fill ws store run) NoRoom store (fill-no-room ws store run st.good.not-refused st.long base-is f)

  pub sides-refused : every (fits_no ws run) (table_count ws) ≡ false → Says (fill ws store run) (Err NoRoom) store
  sides-refused e = full (fits-are false (list_fits (sheet_of ws) (tables_of ws run)) e refl)

  module _ (sides : every (fits_no ws run) (table_count ws) ≡ true) (list : Part) (e : list ≡ part_of plan plan.tables) (added : ℕ)
      (counted : added ≡ length (the_list (sheet_of ws) (tables_of ws run))) where
    room-is : list.room ≡ room (sheet_of ws) (sheet_of ws).n
    room-is = (list-lies (sheet_of ws) plan st.planned list e).room-is

    pub list-refused : list.room < added → Says (fill ws store run) (Err NoRoom) store
    list-refused h = full (fits-are true false sides no)
      where
        no : list_fits (sheet_of ws) (tables_of ws run) ≡ false
        no = unfold list_fits in lt-leb (length (the_list (sheet_of ws) (tables_of ws run))) (room (sheet_of ws) (sheet_of ws).n) (omega (arith, room-is))

    side-room : (t : ℕ) → t < (sheet_of ws).n → length (side_table (sheet_of ws) (tables_of ws run) t) ≤ room (sheet_of ws) t
    unfolding fits_no side_fits
    side-room t l = leb→le _ _ (is_t (every-at (fits_no ws run) t (table_count ws) (omega (arith, n-is ws)) sides))

    module _ (room_in : added ≤ list.room) where
      has_room : fits (sheet_of ws) (meaning (sheet_of ws) (base_of (sheet_of ws) run)) ≡ true
      has_room = fits-are true true sides yes
        where
          yes : list_fits (sheet_of ws) (tables_of ws run) ≡ true
          yes = unfold list_fits in le-leb (length (the_list (sheet_of ws) (tables_of ws run))) (room (sheet_of ws) (sheet_of ws).n) (omega (arith, room-is))

      pub blank : (now : Words) → Stands (sheet_of ws) now (partly_of ws run (table_count ws)) → Blank ws run (route_of plan) list now
      blank now h =
          let s = sheet_of ws in
          let written = subst (Stands s now) (all-written ws run) h in
          record {
            ground = planned-ground st.good st.planned.planned
                (sides-sound s is-good (tables_of ws run) (lawful-tables ws run law) now written side-room);
            lies = list-lies s plan st.planned list e;
            stands = written;
            fits = omega arith;
          }

      pub filled-says : (exit : Words) → Stands (sheet_of ws) exit (meaning (sheet_of ws) (tables_of ws run)) → Says (fill ws store run) (accepts 0 added) exit
      unfolding filled tables_of
      filled-says exit h =
          rw (fill_done ws store run st.good.not-refused st.long base-is has_room)
          (says-done (filled (sheet_of ws) run) 0 added exit refl refl (counted ∙ ap length (sym (meaning-list (sheet_of ws) (tables_of ws run))))
          (stands-words (sheet_of ws) is-good exit (meaning (sheet_of ws) (tables_of ws run)) h))

  -- zeros stand for no rows
  pub cleared : (now : Words) → now ≡ replicate (length store) 0 → Stands (sheet_of ws) now (partly_of ws run 0)
  cleared now z =
      let long : length now ≡ length store = ap length z ∙ length-replicate (length store) 0 in
      none_written ws run is-good now (long ∙ st.long) (z ∙ ap (λ (k : ℕ). replicate k 0) (sym long))
