-- An insert on a ready store, answer by answer.
-- Assumes nothing.
use Prim.Native.Nat.{ℕ, ◌+◌, ◌<◌, ◌≤◌}
use mathlib.Core.Path.{◌≡◌, refl, sym, ap, ◌∙◌, subst}
use mathlib.Core.Bool.{Bool, true, false, not, ◌||◌}
use mathlib.Core.List.{◌++◌}
use native.Mathlib.Omega.{arith}
use lib.Dec.{T, ltb}
use lib.ListN.{length}
use borrow.Author.Tests.{not-true, not-false}
use Rattle.lists.specs.Lists.{Words}
use Rattle.lists.proofs.Truth.{is_t}
use Rattle.rows.specs.Rows.{Row, Rows, key, has_key, put_rows, sorted}
use Rattle.meaning.specs.Sheet.{room, sheet_of}
use Rattle.meaning.specs.Plan.{kept}
use Rattle.meaning.specs.Store.{count, rows_at, model_of}
use Rattle.meaning.specs.Change.{qualifies, side_row, new_key}
use Rattle.meaning.specs.Base.{change_of}
use Rattle.laws.proofs.Stores.{model-side, rows-count}
use Rattle.effects.specs.Applied.{applied, walk_rows}
use Rattle.effects.proofs.Inserts.{insert-contradicts, insert-none, insert-no-room-side, insert-no-room-list, insert-done}
use Rattle.sheet_plan.specs.declared.Plan.{Plan}
use Rattle.walk.specs.Grounds.{Lent}
use Rattle.store.specs.declared.Part.{Part}
use Rattle.store.specs.Parts.{rows_in, count_in, Lies, Wrote}
use Rattle.store.proofs.Answers.{says-refused}
use Rattle.store.proofs.Lying.{count-is}
use Rattle.change_laws.specs.Ready.{Ready}
use Rattle.side_table.specs.Sides.{has_room, Sided}
use Rattle.side_table.proofs.Tests.{room-full, room-free}
use Rattle.change_laws.proofs.Answers.{says_nothing}
use Rattle.change_laws.proofs.Halves.{ready-good, ready-table, half-side, says_both}
use Rattle.change_insert.specs.Inserts.{Inserts}
use Rattle.std.specs.Prelude.{Err}
use Rattle.store.specs.Answers.{accepts}
use Rattle.sheet.specs.declared.refusal.Refusal.TheVariants.{Contradiction, NoRoom}

-- All tests let the insert pass: its key is new, it is qualified, and its side table and the list have room for what k ways give
pub record Insertable (ws store : Words) (plan : Plan) (t : ℕ) (r : Row) (list : Part) (k : ℕ) : Type 0 where
  pub ready : Ready ws store plan
  pub lent : Lent ws t r
  pub new : has_key (key r) (rows_at (sheet_of ws) store t) ≡ false
  pub fine : qualifies (sheet_of ws) (model_of (sheet_of ws) store) t r ≡ true
  pub free : T (has_room (sheet_of ws) store t)
  pub lies : Lies (sheet_of ws) (sheet_of ws).n list
  pub many : k ≡ length (walk_rows (sheet_of ws) (model_of (sheet_of ws) store) t r)
  pub left : length (walk_rows (sheet_of ws) (model_of (sheet_of ws) store) t r) + count (sheet_of ws) store (sheet_of ws).n
      ≤ room (sheet_of ws) (sheet_of ws).n

module _ {ws store : Words} {plan : Plan} (rd : Ready ws store plan) {t : ℕ} {r : Row} (lent : Lent ws t r) where
  key-is : (b : Bool) → b ≡ new_key (model_of (sheet_of ws) store) t r → b ≡ not (has_key (key r) (rows_at (sheet_of ws) store t))
  unfolding new_key
  key-is b e = e ∙ ap (λ (rows : Rows). not (has_key (key r) rows)) (model-side (sheet_of ws) store t (ready-table rd lent))

  -- "an insert whose key is in R's kept side table", also if the row isn't qualified
  module _ (b : Bool) (e : b ≡ new_key (model_of (sheet_of ws) store) t r) where
    pub inserts-contradicts : not b ≡ true → Inserts ws store t r (Err Contradiction) store
    inserts-contradicts h =
        let there : has_key (key r) (rows_at (sheet_of ws) store t) ≡ true =
        not-false (has_key (key r) (rows_at (sheet_of ws) store t)) (sym (key-is b e) ∙ not-true b h) in
        record {
          says = λ o. says-refused (applied (sheet_of ws) store (change_of 1 t o r)) Contradiction store
              (insert-contradicts (sheet_of ws) (ready-good rd) store rd.sound t (ready-table rd lent) o r there);
        }

    module _ (h : not b ≡ false) where
      new : has_key (key r) (rows_at (sheet_of ws) store t) ≡ false
      new = not-true (has_key (key r) (rows_at (sheet_of ws) store t)) (sym (key-is b e) ∙ not-false b h)

      -- a row that isn't qualified changes nothing
      module _ (q : Bool) (eq : q ≡ qualifies (sheet_of ws) (model_of (sheet_of ws) store) t r) where
        pub inserts-none : not q ≡ true → Inserts ws store t r (accepts 0 0) store
        inserts-none fails =
            record {
              says = λ o. says_nothing (applied (sheet_of ws) store (change_of 1 t o r)) store
                  (insert-none (sheet_of ws) (ready-good rd) store rd.sound t (ready-table rd lent) o r new (sym eq ∙ not-true q fails));
            }

        module _ (holds : not q ≡ false) where
          fine : qualifies (sheet_of ws) (model_of (sheet_of ws) store) t r ≡ true
          fine = sym eq ∙ not-false q holds

          -- its side table is full
          module _ (c : Bool) (ec : c ≡ has_room (sheet_of ws) store t) where
            pub inserts-no-room-side : not c ≡ true → Inserts ws store t r (Err NoRoom) store
            inserts-no-room-side full =
                let f = room-full (sheet_of ws) store t (sym ec ∙ not-true c full) in
                record {
                  says = λ o. says-refused (applied (sheet_of ws) store (change_of 1 t o r)) NoRoom store
                      (insert-no-room-side (sheet_of ws) (ready-good rd) store rd.sound t (ready-table rd lent) o r new fine f.0 f.1);
                }

            module _ (free : not c ≡ false) (list : Part) (lies : Lies (sheet_of ws) (sheet_of ws).n list) where
              -- the list's rows as the part has them
              listed-is : count_in list store ≡ count (sheet_of ws) store (sheet_of ws).n
              listed-is = count-is (sheet_of ws) (sheet_of ws).n list lies store

              -- the list has not so much room
              pub inserts-no-room-list : list.room < count_in list store + length (walk_rows (sheet_of ws) (model_of (sheet_of ws) store) t r)
                  → (exit : Words) → exit ≡ store → Inserts ws store t r (Err NoRoom) exit
              inserts-no-room-list full exit same =
                  let s = sheet_of ws in
                  let more : room s s.n < length (walk_rows s (model_of s store) t r) + count s store s.n = omega (arith, lies.room-is, listed-is) in
                  rw same (record {
                    says = λ o. says-refused (applied s store (change_of 1 t o r)) NoRoom store
                        (insert-no-room-list s (ready-good rd) store rd.sound t (ready-table rd lent) o r new fine more);
                  })

              -- or all tests let it pass
              pub insertable : (k : ℕ) → k ≡ length (walk_rows (sheet_of ws) (model_of (sheet_of ws) store) t r) → count_in list store + k ≤ list.room
                  → Insertable ws store plan t r list k
              insertable k many enough =
                  record {
                    ready = rd;
                    lent = lent;
                    new = new;
                    fine = fine;
                    free = is_t (sym ec ∙ not-false c free);
                    lies = lies;
                    many = many;
                    left = omega (arith, lies.room-is, listed-is, many);
                  }

module _ {ws store : Words} {plan : Plan} {t : ℕ} {r : Row} {list : Part} {k : ℕ} (p : Insertable ws store plan t r list k) where
  -- when the list has its rows
  module _ (mid : Words) (w : Wrote list (sorted (rows_in list store ++ walk_rows (sheet_of ws) (model_of (sheet_of ws) store) t r)) store mid) where
    pub half_room : T (has_room (sheet_of ws) mid t)
    unfolding has_room
    half_room =
        let s = sheet_of ws in
        let listed = sorted (rows_in list store ++ walk_rows s (model_of s store) t r) in
        let side = half-side p.ready list p.lies listed mid w t (ready-table p.ready p.lent) in
        let same : count s mid t ≡ count s store t = sym (rows-count s mid t) ∙ ap length side ∙ rows-count s store t in
        subst (λ (n : ℕ). T (not (kept s t) || ltb n (room s t))) (sym same) p.free

    -- and the side table its row
    pub inserts-done : (exit : Words) → Sided (sheet_of ws) t (put_rows (side_row (sheet_of ws) t r)) mid exit → Inserts ws store t r (accepts 0 k) exit
    inserts-done exit si =
        let s = sheet_of ws in
        let rd = p.ready in
        let l = ready-table rd p.lent in
        let rows = walk_rows s (model_of s store) t r in
        record {
          says = λ o. says_both rd list p.lies (λ (l : Rows). sorted (l ++ rows)) (put_rows (side_row s t r)) mid exit w t l si _ _ _ _ _
              (insert-done s (ready-good rd) store rd.sound t l o r p.new p.fine (room-free s store t p.free) p.left) refl p.many;
        }
