-- What the check's answer says of a sheet that is not refused: its plan is the plan of the sheet, place by place.
-- Assumes nothing.
use Prim.Native.Nat.{ℕ, zero, suc, ◌+◌, ◌-◌, ◌*◌, ◌/◌, ◌%◌, ◌<◌, ◌≤◌}
use mathlib.Core.Path.{◌≡◌, refl, sym, ap, ap₂, ◌∙◌}
use mathlib.Core.Bool.{◌&&◌}
use native.Mathlib.Nat.{add-zero, add-suc}
use native.Mathlib.Omega.{arith}
use lib.ListN.{get_or, replicate}
use Rattle.lists.specs.Lists.{Words, at}
use Rattle.lists.specs.Totals.{one}
use Rattle.lists.specs.Loops.{filled}
use Rattle.lists.proofs.Loops.{length-filled, get_or-filled}
use Rattle.meaning.specs.Sheet.{Sheet, sheet_of, sheet_refusal, has_column, table_count}
use Rattle.meaning.specs.Plan.{is_shown, shown, columns, size, start, store_length}
use Rattle.sheet.proofs.Words.{n-is}
use Rattle.sheet.specs.Tree.{GoodSheet}
use Rattle.sheet.proofs.Good.{number_is, good-sheet}
use Rattle.sheet.proofs.Refusals.{never-zero, of-number}
use Rattle.sheet.specs.declared.refusal.Refusal.{Refusal}
use Rattle.sheet.specs.Refusals.{refusal_number, refusal_of, number_of}
use Rattle.sheet.specs.Verdicts.{verdict_of}
use Rattle.std.specs.Prelude.{Result, Ok, Err, eqb, cond, ⊤, Bool, true, false}
use borrow.Author.Tests.{ne_eqb}
use Rattle.sheet_plan.specs.Plans.{kept_at, kept_of, shows_at, shows_of, shown_at, shown_of, columns_of, room_at, rooms_of, starts_of, plan_for}
use Rattle.sheet_plan.specs.Plans.{checked_of}
use Rattle.sheet_plan.specs.Planned.{Lengths, IsPlan}
use Rattle.sheet_plan.specs.declared.Plan.{Plan}
use Rattle.sheet_plan.proofs.Shown.{width_small}
use Rattle.sheet_plan.proofs.Sizes as Sizes
use Rattle.laws.specs.Sheets as Sheets
use Rattle.laws.proofs.Stores.{start-next}
use Rattle.sheet_plan.proofs.Sizes.{shown-few, starts-read}
use Rattle.sheet_plan.proofs.Spread.{order-in, order-outward}
use Rattle.sheet_plan.proofs.Places.{place_is}
use Rattle.laws.proofs.Sheets as SheetLaws
use Rattle.sheet_plan.specs.Marks.{places_of}
use Rattle.sheet_plan.specs.Orders.{order_of}

pub plan-lengths : (s : Sheet) → Lengths (plan_for s)
unfolding plan_for kept_of shows_of shown_of columns_of rooms_of starts_of order_of places_of
plan-lengths s =
    record {
      kept-length = length-filled _ _ _;
      shows-length = length-filled _ _ _;
      shown-length = length-filled _ _ _;
      columns-length = length-filled _ _ _;
      rooms-length = length-filled _ _ _;
      starts-length = length-filled _ _ _;
      order-length = length-filled _ _ _;
      places-length = length-filled _ _ _;
    }

-- an array with eight places for each table, read at 8t + j
rows-read : (f : ℕ → ℕ) (g : ℕ → ℕ → ℕ) (t j : ℕ) → t < 8 → j < 8 → ((i : ℕ) → f i ≡ g (i / 8) (i % 8))
    → get_or (filled f 64 (replicate 64 0)) (8 * t + j) 0 ≡ g t j
rows-read f g t j h l e =
    let a : (8 * t + j) / 8 ≡ t = omega arith in
    let b : (8 * t + j) % 8 ≡ j = omega arith in
    get_or-filled f 64 (8 * t + j) 0 (replicate 64 0) (omega arith) (omega arith) ∙ e (8 * t + j) ∙ ap₂ g a b

-- the parts before a part's end end before the store does
start-mono : (s : Sheet) (part k : ℕ) → start s part ≤ start s (part + k)
start-mono s part zero = omega (arith, ap (start s) (add-zero part))
start-mono s part (suc k) = omega (arith, start-mono s part k, start-next s (part + k), ap (start s) (add-suc part k))

module _ (ws : Words) (g : GoodSheet ws) where
  n-few : (sheet_of ws).n ≤ 8
  n-few = omega (arith, n-is ws, g.joined.rules.counts.tables-few)

  below : (part : ℕ) → part ≤ (sheet_of ws).n → part ≤ table_count ws
  below part h = omega (arith, n-is ws)

  parts-read : (f : ℕ → ℕ) (part : ℕ) → part ≤ (sheet_of ws).n → get_or (filled f ((sheet_of ws).n + 1) (replicate 9 0)) part 0 ≡ f part
  parts-read f part h = get_or-filled f ((sheet_of ws).n + 1) part 0 (replicate 9 0) (omega arith) (omega (arith, n-few))

  ends : (part : ℕ) → part ≤ (sheet_of ws).n → start (sheet_of ws) part + size (sheet_of ws) part ≤ store_length (sheet_of ws)
  unfolding store_length
  ends part h =
      let q : suc part + ((sheet_of ws).n - part) ≡ (sheet_of ws).n + 1 = omega arith in
      omega (arith, start-next (sheet_of ws) part, start-mono (sheet_of ws) (suc part) ((sheet_of ws).n - part), ap (start (sheet_of ws)) q)

  small : store_length (sheet_of ws) ≤ 9 + 9 * 65536
  unfolding store_length
  small = omega (arith, Sizes.start_small ws g ((sheet_of ws).n + 1) (omega (arith, n-is ws)), n-few)

  pub plan-facts : IsPlan (sheet_of ws) (plan_for (sheet_of ws))
  unfolding plan_for kept_of kept_at shows_of shows_at shown_of shown_at columns_of rooms_of room_at store_length
  plan-facts =
      record {
        lengths = plan-lengths (sheet_of ws);
        tables-some = omega (arith, n-is ws, g.joined.rules.counts.tables-some);
        tables-few = n-few;
        tables-are = refl;
        root_in = omega (arith, n-is ws, g.root_in);
        root_is = refl;
        store_is = refl;
        store-small = small;
        kept-at = λ t h. get_or-filled (kept_at s) s.n t 0 (replicate 8 0) h n-few;
        shows-at = λ t c h l. rows-read (shows_at s) (λ t c. one (has_column s t c && is_shown s t c)) t c h l (λ i. refl);
        shown-at = λ t j h l. rows-read (shown_at s) (λ t j. at (shown s t) j) t j h l (λ i. refl);
        shown-few = λ t. omega (arith, shown-few s t, width_small ws g.joined.rules t);
        columns-at = λ part h. parts-read (columns s) part h;
        columns-small = λ part h. Sizes.columns-small ws g part (below part h);
        rooms-at = λ part h. parts-read (room_at s) part h;
        rooms-small = λ part h. Sizes.room_small ws g part (below part h);
        starts-at = starts-read s n-few;
        parts_in = ends;
        order-in = order-in s good;
        outward = order-outward s good;
        places-at = λ t c h m. place_is ws g.joined.rules t c (omega (arith, n-is ws)) m;
      }
    where
      s : Sheet
      s = sheet_of ws

      good : Sheets.Good (sheet_of ws)
      good = SheetLaws.good-sheet ws g.not-refused

-- what the check answers
module _ (ws : Words) where
  pub checked-good : sheet_refusal ws ≡ 0 → Ok (plan_for (sheet_of ws)) ≡ checked_of ws
  unfolding checked_of
  checked-good h = rw h

  pub checked-refused : (r : Refusal) → sheet_refusal ws ≡ refusal_number r → Err r ≡ checked_of ws
  unfolding checked_of
  checked-refused r h = rw (h, ne_eqb (refusal_number r) 0 (never-zero r), of-number r)

  -- its number is the refusal's, and 0 where there is a plan
  pub checked-number : number_of (checked_of ws) ≡ sheet_refusal ws
  unfolding checked_of verdict_of
  checked-number = go (eqb (sheet_refusal ws) 0) ∙ number_is ws
    where
      go : (b : Bool)
          → number_of (cond {A = Result Plan Refusal} b (Ok (plan_for (sheet_of ws))) (Err (refusal_of (sheet_refusal ws))))
          ≡ number_of (cond {A = Result ⊤ Refusal} b (Ok tt) (Err (refusal_of (sheet_refusal ws))))
      go true = refl
      go false = refl

  pub checked-is : (r : Refusal) → Err r ≡ checked_of ws → sheet_refusal ws ≡ refusal_number r
  checked-is r e = sym checked-number ∙ sym (ap number_of e)

  module _ (p : Plan) (e : Ok p ≡ checked_of ws) where
    pub checked-zero : sheet_refusal ws ≡ 0
    checked-zero = sym checked-number ∙ sym (ap number_of e)

    pub checked-plan : p ≡ plan_for (sheet_of ws)
    checked-plan = let q : ◌≡◌ {A = Result Plan Refusal} (Ok p) (Ok (plan_for (sheet_of ws))) = e ∙ sym (checked-good checked-zero) in cc

    pub planned : IsPlan (sheet_of ws) p
    planned = rw checked-plan (plan-facts ws (good-sheet ws checked-zero))
