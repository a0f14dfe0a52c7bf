-- The tests of refusals 1 and 2 as facts.
-- Assumes nothing.
use Prim.Native.Nat.{ℕ, ◌+◌, ◌<◌}
use mathlib.Core.Path.{◌≡◌, refl, sym, ap, ap₂, ◌∙◌}
use mathlib.Core.Bool.{Bool, true, false, not, ◌&&◌, and_assoc}
use lib.Dec.{leb}
use borrow.Author.Tests.{leb-true, ltb-true, eqb-true}
use Rattle.lists.specs.Lists.{Words, between, all, none_twice}
use Rattle.lists.specs.Loops.{every, some}
use Rattle.lists.proofs.Loops.{and-true, every-at}
use Rattle.meaning.specs.Limits.{most_columns, most_room}
use Rattle.meaning.specs.Sheet.{table_count, edge_count, condition_count, listed_count, sheet_of, has_column, width}
use Rattle.meaning.specs.Sheet.{good_counts, good_edge, good_condition, good_listed, good_words, same_listed}
use Rattle.sheet.specs.Numbered.{edge_no, condition_no, listing_no, width_no, room_no}
use Rattle.sheet.specs.Rules.{Counts, InRange, Column, EdgeRules, ConditionRules, ListingRules, Rules}
use Rattle.sheet.specs.Tests.{width_passes, edge_passes, condition_passes, listing_passes, listing_names, room_passes}
use Rattle.sheet.proofs.Words.{n-is, width_is, widths-are, edges_are, conditions-are, listed-are, rooms-are}
use Rattle.sheet.proofs.Numbers.{all_up, none-twice-up, every-and}

pub counts-facts : (ws : Words) → good_counts ws ≡ true → Counts ws
unfolding good_counts
counts-facts ws h =
    let a = and-true _ _ h in
    let b = and-true _ _ a.0 in
    let c = and-true _ _ b.0 in
    let d = and-true _ _ c.0 in
    let n = and-true _ _ d.0 in
    let m = and-true (leb 0 (condition_count ws)) _ c.1 in
    let p = and-true _ _ b.1 in
    record {
      tables-some = leb-true _ _ n.0;
      tables-few = leb-true _ _ n.1;
      edges-right = eqb-true _ _ d.1;
      conditions-few = leb-true _ _ m.1;
      listed-some = leb-true _ _ p.0;
      listed-few = leb-true _ _ p.1;
      length-right = eqb-true _ _ a.1;
    }

pub column-facts : (ws : Words) (t column : ℕ) → has_column (sheet_of ws) t column ≡ true → Column ws t column
column-facts ws t column h =
    let a = and-true _ _ h in
    let l : t < table_count ws = rw n-is at (ltb-true t (sheet_of ws).n a.0) in
    record { table = l; within = rw (width_is ws t l) at (ltb-true column (width (sheet_of ws) t) a.1) }

pub edge-facts : (ws : Words) (i : ℕ) → edge_passes ws i ≡ true → EdgeRules ws i
unfolding edge_passes good_edge
edge-facts ws i h =
    let a = and-true _ _ h in
    let b = and-true _ _ a.0 in
    let c = and-true _ _ b.0 in
    record {
      there = column-facts _ _ _ c.0;
      not_key = leb-true _ _ c.1;
      parent_in = rw n-is at (ltb-true (edge_no ws i).parent (sheet_of ws).n b.1);
      promise-small = leb-true _ _ a.1;
    }

pub condition-facts : (ws : Words) (i : ℕ) → condition_passes ws i ≡ true → ConditionRules ws i
unfolding condition_passes good_condition
condition-facts ws i h = let a = and-true _ _ h in record { there = column-facts _ _ _ a.0; ordered = leb-true _ _ a.1 }

pub listing-facts : (ws : Words) (i : ℕ) → listing_passes ws i ≡ true → ListingRules ws i
unfolding listing_passes good_listed
listing-facts ws i h = let a = and-true _ _ h in record { there = column-facts _ _ _ a.0; new = not-not _ a.1 }
  where
    not-not : (b : Bool) → not b ≡ true → b ≡ false
    not-not true e = sym e
    not-not false e = refl

within-facts : (lowest highest x : ℕ) → between lowest highest x ≡ true → InRange lowest highest x
within-facts lowest highest x h = let a = and-true _ _ h in record { low = leb-true _ _ a.0; high = leb-true _ _ a.1 }

pub width-facts : (ws : Words) (t : ℕ) → width_passes ws t ≡ true → InRange 1 most_columns (width_no ws t)
unfolding width_passes
width-facts ws t h = within-facts _ _ _ h

pub room-facts : (ws : Words) (part : ℕ) → room_passes ws part ≡ true → InRange 0 most_room (room_no ws part)
unfolding room_passes
room-facts ws part h = within-facts _ _ _ h

-- all of refusal 2, by number
pub words_are : (ws : Words) → Counts ws → good_words (sheet_of ws)
    ≡ (every (width_passes ws) (table_count ws) && every (edge_passes ws) (edge_count ws) && every (condition_passes ws) (condition_count ws)
    && every (listing_passes ws) (listed_count ws)
    && every (room_passes ws) (table_count ws + 1))
unfolding good_words width_passes edge_passes condition_passes listing_passes listing_names room_passes
words_are ws c =
    ap₂ ◌&&◌
    (ap₂ ◌&&◌
    (ap₂ ◌&&◌
    (ap₂ ◌&&◌ (ap₂ ◌&&◌ (ap (all (between 1 most_columns)) (widths-are ws c) ∙ all_up (between 1 most_columns) (width_no ws) (table_count ws))
    (ap (all (good_edge (sheet_of ws))) (edges_are ws) ∙ all_up (good_edge (sheet_of ws)) (edge_no ws) (edge_count ws)))
    (ap (all (good_condition (sheet_of ws))) (conditions-are ws) ∙ all_up (good_condition (sheet_of ws)) (condition_no ws) (condition_count ws)))
    (ap (all (good_listed (sheet_of ws))) (listed-are ws) ∙ all_up (good_listed (sheet_of ws)) (listing_no ws) (listed_count ws)))
    (ap (none_twice same_listed) (listed-are ws) ∙ none-twice-up same_listed (listing_no ws) (listed_count ws)))
    (ap (all (between 0 most_room)) (rooms-are ws c) ∙ all_up (between 0 most_room) (room_no ws) (table_count ws + 1))
    ∙ both-listed
  where
    w : Bool
    w =
        every (λ i. between 1 most_columns (width_no ws i)) (table_count ws)
        && every (λ i. good_edge (sheet_of ws) (edge_no ws i)) (edge_count ws)
        && every (λ i. good_condition (sheet_of ws) (condition_no ws i)) (condition_count ws)

    l : ℕ → Bool
    l i = good_listed (sheet_of ws) (listing_no ws i)

    f : ℕ → Bool
    f i = not (some (λ j. same_listed (listing_no ws j) (listing_no ws i)) i)

    r : Bool
    r = every (λ i. between 0 most_room (room_no ws i)) (table_count ws + 1)

    both-listed : (w && every l (listed_count ws) && every f (listed_count ws) && r) ≡ (w && every (listing_passes ws) (listed_count ws) && r)
    both-listed = ap (λ b. b && r) (and_assoc w (every l (listed_count ws)) (every f (listed_count ws))
        ∙ ap (λ b. w && b) (sym (every-and l f (listed_count ws))))

pub rules : (ws : Words) → Counts ws → good_words (sheet_of ws) ≡ true → Rules ws
rules ws c h =
    let a = and-true _ _ (sym (words_are ws c) ∙ h) in
    let b = and-true _ _ a.0 in
    let d = and-true _ _ b.0 in
    let e = and-true _ _ d.0 in
    record {
      counts = c;
      widths = λ t l. width-facts _ _ (every-at (width_passes ws) t _ l e.0);
      edges = λ i l. edge-facts _ _ (every-at (edge_passes ws) i _ l e.1);
      conditions = λ i l. condition-facts _ _ (every-at (condition_passes ws) i _ l d.1);
      listings = λ i l. listing-facts _ _ (every-at (listing_passes ws) i _ l b.1);
      rooms = λ t l. room-facts _ _ (every-at (room_passes ws) t _ l a.1);
    }
