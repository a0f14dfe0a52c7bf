-- Columns, rooms and starts of a good sheet: what the arrays hold, and how large it is.
-- Assumes nothing.
use Prim.Native.Nat.{ℕ, zero, suc, ◌+◌, ◌*◌, ◌<◌, ◌≤◌}
use mathlib.Core.Path.{◌≡◌, refl, sym, ap, ap₂, ◌∙◌}
use mathlib.Core.Bool.{Bool, true, false}
use mathlib.Core.List.{List}
use native.Mathlib.Nat.{mul-le-mul}
use native.Mathlib.Numerals.{add-one}
use native.Mathlib.Omega.{arith}
use lib.Dec.{ltb}
use lib.ListN.{length, get_or, replicate, length-map}
use borrow.Author.Tests.{ltb-true, ltb-false}
use Rattle.lists.specs.Lists.{Words, at, up_to}
use Rattle.lists.specs.Totals.{one}
use Rattle.lists.specs.Loops.{filled}
use Rattle.lists.proofs.Truth.{is_t, false→F}
use Rattle.lists.proofs.Loops.{get_or-filled}
use Rattle.lists.proofs.Places.{length_from}
use Rattle.meaning.specs.Sheet.{Sheet, sheet_of, width, room, table_count, listed_count}
use Rattle.meaning.specs.Plan.{kept, is_shown, shown, columns, size, start}
use Rattle.laws.proofs.Stores.{start-next}
use Rattle.laws.proofs.Columns.{columns-side, columns-unkept, columns-list}
use Rattle.sheet.specs.Counted.{counted}
use Rattle.sheet.specs.Numbered.{listing_no, room_no}
use Rattle.sheet.proofs.Words.{n-is, listed-are, room-is}
use Rattle.sheet.proofs.Numbers.{length-up_to}
use Rattle.sheet.specs.Tree.{GoodSheet}
use Rattle.sheet_plan.specs.Marks.{has_mark, marked_in}
use Rattle.sheet_plan.specs.Plans.{kept_at, kept_of, shows_of, columns_of, room_at, rooms_of, starts_of}
use Rattle.sheet_plan.proofs.Shown.{width_small, marked-columns}

-- how many pass is no more than how many there are
pub counted-le : (t : ℕ → Bool) (n : ℕ) → counted t n ≤ n
unfolding counted
counted-le t zero = omega arith
counted-le t (suc n) = step (t n) (counted-le t n)
  where
    step : (b : Bool) → counted t n ≤ n → counted t n + one b ≤ suc n
    step true h = omega arith
    step false h = omega arith

-- the parts stand one behind the other
pub start_first : (s : Sheet) → start s 0 ≡ 9
unfolding start
start_first s = refl

pub start-more : (s : Sheet) (part at v : ℕ) → at ≡ start s part → v ≡ size s part → at + v ≡ start s (part + 1)
start-more s part at v e q = omega (arith, start-next s part, ap (start s) (add-one part))

-- the room of a part, as the code reads it
pub room-read : (ws : Words) (part r : ℕ) → r ≡ room_no ws part → r ≡ room_at (sheet_of ws) part
unfolding room_at
room-read ws part r e = e ∙ sym (room-is ws part)

-- a side table shows no more columns than the table has
pub shown-few : (s : Sheet) (t : ℕ) → length (shown s t) ≤ width s t
unfolding shown
shown-few s t = omega (arith, length-up_to (is_shown s t) (width s t), counted-le (is_shown s t) (width s t))

-- an array filled for the parts 0 to n, read back
part-read : (f : ℕ → ℕ) (ws : Words) → GoodSheet ws → (part : ℕ) → part ≤ table_count ws
    → get_or (filled f ((sheet_of ws).n + 1) (replicate 9 0)) part 0 ≡ f part
part-read f ws g part h =
    rw (n-is ws) (get_or-filled f (table_count ws + 1) part 0 (replicate 9 0) (omega arith) (omega (arith, g.joined.rules.counts.tables-few)))

-- where each part begins, and behind the list the store's end
pub starts-read : (s : Sheet) → s.n ≤ 8 → (part : ℕ) → part ≤ s.n + 1 → get_or (starts_of s) part 0 ≡ start s part
unfolding starts_of
starts-read s few part h = get_or-filled (start s) (s.n + 2) part 0 (replicate 10 0) (omega arith) (omega arith)

module _ (ws : Words) (g : GoodSheet ws) where
  -- the columns of a part, as the code finds them
  pub columns-of-list : (part p : ℕ) → part ≤ table_count ws → table_count ws ≤ part → p ≡ listed_count ws → p ≡ columns (sheet_of ws) part
  columns-of-list part p h l e =
      let q : part ≡ (sheet_of ws).n = omega (arith, n-is ws) in
      rw (q, columns-list (sheet_of ws), listed-are ws) (e ∙ sym (length-map (up_to (listed_count ws)) (listing_no ws) ∙ length_from 0 (listed_count ws)))

  module _ (part : ℕ) (marks : List ℕ) (e : marks ≡ kept_of (sheet_of ws)) (h : part < table_count ws) where
    kept_read : get_or marks part 0 ≡ one (kept (sheet_of ws) part)
    unfolding kept_of kept_at
    kept_read =
        ap (λ (l : List ℕ). get_or l part 0) e ∙ ap (λ (n : ℕ). get_or (filled (kept_at (sheet_of ws)) n (replicate 8 0)) part 0) (n-is ws)
        ∙ (get_or-filled (kept_at (sheet_of ws)) (table_count ws) part 0 (replicate 8 0) h (omega (arith, g.joined.rules.counts.tables-few)))

    pub columns-none : get_or marks part 0 ≡ 0 → 0 ≡ columns (sheet_of ws) part
    columns-none z = go (kept (sheet_of ws) part) refl (sym kept_read ∙ z)
      where
        go : (b : Bool) → kept (sheet_of ws) part ≡ b → one b ≡ 0 → 0 ≡ columns (sheet_of ws) part
        go true q w = absurd (omega arith)
        go false q w = sym (columns-unkept (sheet_of ws) part (omega (arith, n-is ws)) (false→F q))

    pub columns-shown : (shows : List ℕ) (k : ℕ) → shows ≡ shows_of (sheet_of ws) → (get_or marks part 0 ≡ 0 → ⊥) → k ≡ counted (has_mark shows part) 8
        → k ≡ columns (sheet_of ws) part
    unfolding marked_in
    columns-shown shows k w z q = go (kept (sheet_of ws) part) refl kept_read
      where
        eight : part < 8
        eight = omega (arith, g.joined.rules.counts.tables-few)

        go : (b : Bool) → kept (sheet_of ws) part ≡ b → get_or marks part 0 ≡ one b → k ≡ columns (sheet_of ws) part
        go true d y =
            q ∙ ap (λ (l : List ℕ). counted (has_mark l part) 8) w ∙ sym (length-up_to (has_mark (shows_of (sheet_of ws)) part) 8)
            ∙ ap length (marked-columns ws g.joined.rules part eight) ∙ sym (columns-side (sheet_of ws) part (omega (arith, n-is ws)) (is_t d))
        go false d y = absurd (z y)

  -- how large they are
  pub columns-small : (part : ℕ) → part ≤ table_count ws → columns (sheet_of ws) part ≤ 16
  columns-small part h = go (ltb part (table_count ws)) refl (kept (sheet_of ws) part) refl
    where
      go : (b : Bool) → ltb part (table_count ws) ≡ b → (d : Bool) → kept (sheet_of ws) part ≡ d → columns (sheet_of ws) part ≤ 16
      go true e true d =
          let l : part < (sheet_of ws).n = omega (arith, ltb-true part (table_count ws) e, n-is ws) in
          let w = width_small ws g.joined.rules part in
          let c = shown-few (sheet_of ws) part in
          omega (arith, columns-side (sheet_of ws) part l (is_t d))
      go true e false d =
          let l : part < (sheet_of ws).n = omega (arith, ltb-true part (table_count ws) e, n-is ws) in
          omega (arith, columns-unkept (sheet_of ws) part l (false→F d))
      go false e d q = omega (arith, columns-of-list part (listed_count ws) h (ltb-false part (table_count ws) e) refl, g.joined.rules.counts.listed-few)

  pub room_small : (part : ℕ) → part ≤ table_count ws → room (sheet_of ws) part ≤ 4096
  room_small part h = omega (arith, room-is ws part, (g.joined.rules.rooms part (omega arith)).high)

  pub size_small : (part : ℕ) → part ≤ table_count ws → size (sheet_of ws) part ≤ 65536
  unfolding size
  size_small part h = mul-le-mul (room_small part h) (columns-small part h)

  pub start_small : (part : ℕ) → part ≤ table_count ws + 1 → start (sheet_of ws) part ≤ 9 + part * 65536
  start_small zero h = omega (arith, start_first (sheet_of ws))
  start_small (suc part) h = omega (arith, start_small part (omega arith), start-next (sheet_of ws) part, size_small part (omega arith))

  -- the words of a part, from the arrays: they are few
  pub size-read : (rooms cols : List ℕ) (part : ℕ) → rooms ≡ rooms_of (sheet_of ws) → cols ≡ columns_of (sheet_of ws) → part ≤ table_count ws
      → let words = get_or rooms part 0 * get_or cols part 0 in
      (words ≡ size (sheet_of ws) part) × (words ≤ 65536)
  unfolding size rooms_of columns_of room_at
  size-read rooms cols part e q h = (same, omega (arith, same, size_small part h))
    where
      same : get_or rooms part 0 * get_or cols part 0 ≡ size (sheet_of ws) part
      same =
          ap₂ (λ (x y : List ℕ). get_or x part 0 * get_or y part 0) e q
          ∙ ap₂ ◌*◌ (part-read (room_at (sheet_of ws)) ws g part h) (part-read (columns (sheet_of ws)) ws g part h)
