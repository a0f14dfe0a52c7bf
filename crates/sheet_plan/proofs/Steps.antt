-- The ways through the functions that fill the arrays, said of words and numbers.
-- Assumes nothing.
use Prim.Native.Nat.{ℕ, ◌+◌, ◌*◌, ◌≤◌}
use mathlib.Core.Path.{◌≡◌, ap, ◌∙◌}
use mathlib.Core.Bool.{true, false}
use mathlib.Core.List.{List}
use native.Mathlib.Omega.{arith}
use lib.ListN.{get_or, set, replicate}
use borrow.Author.Tests.{eq-eqb, ne_eqb}
use Rattle.lists.specs.Lists.{Words}
use Rattle.lists.specs.Loops.{filled}
use Rattle.lists.proofs.Loops.{filled_more}
use Rattle.meaning.specs.Sheet.{sheet_of, table_count}
use Rattle.meaning.specs.Plan.{start, store_length}
use Rattle.meaning.specs.Plan as Meant
use Rattle.sheet.specs.Rules.{Rules}
use Rattle.sheet.proofs.Words.{n-is}
use Rattle.sheet_plan.specs.Marks.{has_mark, lists_of, places_of}
use Rattle.sheet_plan.specs.Orders.{order_of}
use Rattle.sheet_plan.specs.Plans.{kept_of, shows_of, columns_of, rooms_of, starts_of, plan_for}
use Rattle.sheet_plan.specs.declared.Plan.{Plan}
use Rattle.sheet_plan.proofs.Shown.{lists-shown}
use Rattle.sheet_plan.proofs.Sizes.{starts-read}

-- where the loop over the parts has come to, behind the list, the store ends
pub starts-filled : (ws : Words) (k m end : ℕ) (r : List ℕ) → m ≡ table_count ws + 1 → k ≤ m → m ≤ k → r ≡ filled (start (sheet_of ws)) k (replicate 10 0)
    → end ≡ start (sheet_of ws) k → set r m end ≡ starts_of (sheet_of ws)
unfolding starts_of
starts-filled ws k m end r e h l a b =
    let q : k ≡ m = omega arith in
    let n : (sheet_of ws).n + 2 ≡ m + 1 = omega (arith, n-is ws) in
    rw n
    (filled_more (start (sheet_of ws)) m end (replicate 10 0) r (a ∙ ap (λ (j : ℕ). filled (start (sheet_of ws)) j (replicate 10 0)) q)
    (b ∙ ap (start (sheet_of ws)) q))

module _ (marks : List ℕ) (t : ℕ) where
  pub marked-yes : (c : ℕ) → get_or marks (8 * t + c) 0 ≡ 1 → has_mark marks t c ≡ true
  unfolding has_mark
  marked-yes c h = eq-eqb _ _ h

  pub marked-no : (c : ℕ) → (get_or marks (8 * t + c) 0 ≡ 1 → ⊥) → has_mark marks t c ≡ false
  unfolding has_mark
  marked-no c h = ne_eqb _ _ h

-- the plan, put together
pub plan-made : (ws : Words) → Rules ws → (tables root : ℕ) (kept shows shown columns rooms starts order places : List ℕ)
    → tables ≡ table_count ws → root ≡ Meant.root (sheet_of ws)
    → kept ≡ kept_of (sheet_of ws) → shows ≡ shows_of (sheet_of ws) → shown ≡ lists_of shows
    → columns ≡ columns_of (sheet_of ws) → rooms ≡ rooms_of (sheet_of ws) → starts ≡ starts_of (sheet_of ws)
    → order ≡ order_of (sheet_of ws) → places ≡ places_of shows
    → ◌≡◌ {A = Plan}
    (record {
      tables = tables;
      root = root;
      store = get_or starts (tables + 1) 0;
      kept = kept;
      shows = shows;
      shown = shown;
      columns = columns;
      rooms = rooms;
      starts = starts;
      order = order;
      places = places;
    })
    (plan_for (sheet_of ws))
unfolding plan_for store_length
plan-made ws r tables root kept shows shown columns rooms starts order places t a c d e f g h i j =
    let l = lists-shown ws r in
    let n = n-is ws in
    let b = starts-read (sheet_of ws) (omega (arith, r.counts.tables-few)) ((sheet_of ws).n + 1) (omega arith) in
    cc
