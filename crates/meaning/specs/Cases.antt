-- Document 01, "The desk sheet and its examples": the cases marked ●, as one table under one statement, proved by computation.
-- Assumes nothing.
use Rattle.std.specs.Prelude.{ℕ, ◌≡◌, Bool, List, [], ◌∷◌, ◌++◌, map, T, eqb, length, replicate}
use Rattle.std.proofs.Common.{eqb→eq}
use Rattle.lists.specs.Lists.{Words, flat, same_lists}
use Rattle.lists.proofs.Truth.{same_lists→≡}
use Rattle.rows.specs.Rows.{Row, Rows, same_row, cut, word_order, then_by, row_order, is_less, smaller, rising}
use Rattle.rows.specs.Rows.{put_row, put_rows, take_row, take_rows, has_rows}
use Rattle.meaning.specs.Sheet.{sheet_of, good_counts, good_edge, good_condition, good_listed, good_words, good_tree, sheet_refusal}
use Rattle.meaning.specs.Plan.{TablePlan, root, edge_into, others, dep, dep_plus, need, kept, is_shown, shown}
use Rattle.meaning.specs.Plan.{columns, size, start, store_length, in_order, table_plan, good_plan, plan}
use Rattle.meaning.specs.Base.{Change, change_of, good_change, tied, same_tied, tied_stay}
use Rattle.meaning.specs.Meaning.{meets, qualified, joins, list_row}
use Rattle.meaning.specs.Store.{counts, store_of, part_words, rows_at, model_of, sound_part, sound_table, sound, fits, show_refusal, stretch_of, show}
use Rattle.meaning.specs.Change.{widened, wide_sides, can_take, ways_through, rows_through, referring, rows_found, side_row, insert_effect, delete_effect}
use Rattle.meaning.specs.Change.{update_effect, effect, after, new_key, old_row, found_show, agrees, model_after, change_refusal, accepted, change}

-- The desk sheet, with its listed columns and the list's room left open
abbrev pub desk_with : ℕ → Words → ℕ → Words
desk_with p listed list_room =
    (4 ∷ 3 ∷ 2 ∷ p ∷ 4 ∷ 3 ∷ 3 ∷ 3 ∷ [])
    ++ (0 ∷ 2 ∷ 1 ∷ 1 ∷ 1 ∷ 1 ∷ 2 ∷ 1 ∷ 0 ∷ 1 ∷ 3 ∷ 1 ∷ [])
    ++ (1 ∷ 2 ∷ 7 ∷ 7 ∷ 2 ∷ 1 ∷ 20 ∷ 29 ∷ [])
    ++ listed
    ++ (8 ∷ 8 ∷ 8 ∷ 8 ∷ list_room ∷ [])

abbrev pub desk : Words
desk = desk_with 5 (0 ∷ 0 ∷ 1 ∷ 0 ∷ 2 ∷ 2 ∷ 3 ∷ 0 ∷ 3 ∷ 2 ∷ []) 8

-- with 3 0 unlisted
abbrev pub desk_unlisted : Words
desk_unlisted = desk_with 4 (0 ∷ 0 ∷ 1 ∷ 0 ∷ 2 ∷ 2 ∷ 3 ∷ 2 ∷ []) 8

-- with list room 1
abbrev pub desk_tight : Words
desk_tight = desk_with 5 (0 ∷ 0 ∷ 1 ∷ 0 ∷ 2 ∷ 2 ∷ 3 ∷ 0 ∷ 3 ∷ 2 ∷ []) 1

-- one table of width 2, only column 1 listed
abbrev pub single : Words
single = 1 ∷ 0 ∷ 0 ∷ 1 ∷ 2 ∷ 0 ∷ 1 ∷ 8 ∷ 8 ∷ []

abbrev pub insert : ℕ → Row → Change
insert t r = change_of 1 t [] r

abbrev pub delete : ℕ → Row → Change
delete t r = change_of 2 t r []

abbrev pub update : ℕ → Row → Row → Change
update t r r' = change_of 3 t r r'

-- A line of the table: what the definitions give, and what the document says
pub record Case : Type 0 where
  pub got : List Words
  pub want : List Words

-- A plan as the program prints it: root and store length, then of each table kept, columns, Dep, Need
abbrev pub table_lines : TablePlan → List Words
table_lines t = (t.kept ∷ []) ∷ t.columns ∷ t.dep ∷ t.need ∷ []

abbrev pub plan_lines : Words → List Words
plan_lines sheet = ((plan sheet).root ∷ (plan sheet).store ∷ []) ∷ flat (map table_lines (plan sheet).tables)

-- A change, the part that is shown after it, and what the document says comes: number, taken, added, and show's number 0 and rows
pub record Step : Type 0 where
  pub change : Change
  pub part : ℕ
  pub says : Words

abbrev pub step : Change → ℕ → ℕ → ℕ → ℕ → Rows → Step
step c part number taken added rows = record { change = c; part = part; says = number ∷ taken ∷ added ∷ 0 ∷ flat rows }

-- what comes of changes, each on the store that the one before left
abbrev pub run : Words → Words → List Step → List Words
run sheet store [] = []
run sheet store (p ∷ steps) =
    let o = change sheet store p.change in
    let w = show sheet o.words p.part in
    (o.number ∷ o.taken ∷ o.added ∷ w.number ∷ w.words) ∷ run sheet o.words steps

abbrev pub zeros : Words → Words
zeros sheet = replicate (plan sheet).store 0

-- a story from a zero store
abbrev pub story : Words → List Step → Case
story sheet steps = record { got = run sheet (zeros sheet) steps; want = map (λ p. p.says) steps }

abbrev pub title : ℕ → ℕ → Row
title category shelf = 500 ∷ category ∷ shelf ∷ []

abbrev pub copy_a : Row
copy_a = 31234000000001 ∷ 500 ∷ 7 ∷ []

abbrev pub copy_b : Row
copy_b = 31238294967297 ∷ 500 ∷ 7 ∷ []

abbrev pub borrower : Row
borrower = 21234000000001 ∷ 1 ∷ 6 ∷ []

abbrev pub loan : Row
loan = 9001 ∷ 21234000000001 ∷ 31238294967297 ∷ 20520 ∷ []

abbrev pub loan2 : Row
loan2 = 9002 ∷ 21234000000001 ∷ 31234000000001 ∷ 20521 ∷ []

abbrev pub side_a : Row
side_a = 31234000000001 ∷ 500 ∷ []

abbrev pub side_b : Row
side_b = 31238294967297 ∷ 500 ∷ []

abbrev pub listed : ℕ → Row
listed shelf = 9001 ∷ 31238294967297 ∷ shelf ∷ 21234000000001 ∷ 6 ∷ []

abbrev pub listed2 : Row
listed2 = 9002 ∷ 31234000000001 ∷ 3 ∷ 21234000000001 ∷ 6 ∷ []

-- 1. "The desk sheet has 43 words and no loan side table"; its plan, in full
abbrev pub case1 : Case
case1 =
    record {
      got = (length desk ∷ []) ∷ plan_lines desk;
      want =
          (43 ∷ [])
          ∷ (0 ∷ 97 ∷ [])
          ∷ (0 ∷ []) ∷ [] ∷ (1 ∷ 3 ∷ []) ∷ []
          ∷ (1 ∷ []) ∷ (0 ∷ 1 ∷ []) ∷ (2 ∷ []) ∷ []
          ∷ (1 ∷ []) ∷ (0 ∷ 2 ∷ []) ∷ [] ∷ (1 ∷ [])
          ∷ (1 ∷ []) ∷ (0 ∷ 2 ∷ []) ∷ [] ∷ []
          ∷ [];
    }

-- 2. "With 3 0 unlisted (p = 4): Need(3) is {0}, loan is kept with columns 0,1,2, store 113"
abbrev pub case2 : Case
case2 =
    record {
      got = plan_lines desk_unlisted;
      want =
          (0 ∷ 113 ∷ [])
          ∷ (1 ∷ []) ∷ (0 ∷ 1 ∷ 2 ∷ []) ∷ (1 ∷ 3 ∷ []) ∷ []
          ∷ (1 ∷ []) ∷ (0 ∷ 1 ∷ []) ∷ (2 ∷ []) ∷ []
          ∷ (1 ∷ []) ∷ (0 ∷ 2 ∷ []) ∷ [] ∷ (1 ∷ [])
          ∷ (1 ∷ []) ∷ (0 ∷ 2 ∷ []) ∷ [] ∷ (0 ∷ [])
          ∷ [];
    }

-- 3 to 5: a title, two copies whose barcodes differ by 4,294,967,296, a borrower and a loan
abbrev pub cases3to5 : List Step
cases3to5 =
    -- 3
    step (insert 2 (title 24 3)) 2 0 0 0 ((500 ∷ 3 ∷ []) ∷ [])
    -- 4
    ∷ step (insert 1 copy_a) 1 0 0 0 (side_a ∷ [])
    ∷ step (insert 1 copy_b) 1 0 0 0 (side_a ∷ side_b ∷ [])
    -- 5
    ∷ step (insert 3 borrower) 3 0 0 0 ((21234000000001 ∷ 6 ∷ []) ∷ [])
    ∷ step (insert 0 loan) 4 0 0 1 (listed 3 ∷ [])
    ∷ []

abbrev pub cases6to9 : List Step
cases6to9 =
    -- 6
    step (update 2 (title 24 3) (title 24 4)) 4 0 1 1 (listed 4 ∷ [])
    -- 7
    ∷ step (update 2 (title 24 4) (title 31 4)) 4 6 0 0 (listed 4 ∷ [])
    -- 8
    ∷ step (insert 1 copy_b) 1 8 0 0 (side_a ∷ side_b ∷ [])
    -- 9
    ∷ step (delete 0 loan) 4 0 1 0 []
    ∷ step (delete 0 loan) 4 8 0 0 []
    ∷ []

-- 11, after the changes of cases 3 to 5
abbrev pub case11 : List Step
case11 =
    step (insert 0 loan2) 4 9 0 0 (listed 3 ∷ [])
    ∷ step (delete 0 loan) 4 0 1 0 []
    ∷ step (insert 0 loan2) 4 0 0 1 (listed2 ∷ [])
    ∷ []

abbrev pub case12 : List Step
case12 =
    step (insert 0 (1 ∷ 5 ∷ [])) 1 0 0 1 ((5 ∷ []) ∷ [])
    ∷ step (insert 0 (2 ∷ 5 ∷ [])) 1 0 0 1 ((5 ∷ []) ∷ (5 ∷ []) ∷ [])
    ∷ step (delete 0 (1 ∷ 5 ∷ [])) 1 0 1 0 ((5 ∷ []) ∷ [])
    ∷ []

abbrev pub cases : List Case
cases = case1 ∷ case2 ∷ story desk (cases3to5 ++ cases6to9) ∷ story desk_tight (cases3to5 ++ case11) ∷ story single case12 ∷ []

-- A table is as wanted if each line's two sides are equal. antt computes a test of that, and the test's law turns it into the equation: by
-- `refl` alone the two sides are compared call by call, and each change is computed over and over.
abbrev pub AsWanted : List Case → Type 0
AsWanted lines = map (λ c. c.got) lines ≡ map (λ c. c.want) lines

abbrev pub passes : List Case → Bool
passes lines = same_lists (same_lists same_row) (map (λ c. c.got) lines) (map (λ c. c.want) lines)

pub wanted-if : (lines : List Case) → T (passes lines) → AsWanted lines
wanted-if lines h = same_lists→≡ (same_lists same_row) (same_lists→≡ same_row (same_lists→≡ eqb eqb→eq)) (map (λ c. c.got) lines) (map (λ c. c.want) lines) h

-- THE TABLE
pub table : AsWanted cases
unfolding
    cut word_order then_by row_order is_less smaller rising put_row put_rows take_row take_rows has_rows sheet_of good_counts good_edge good_condition
    good_listed good_words good_tree sheet_refusal root edge_into others dep dep_plus need kept is_shown shown columns size start store_length
    in_order table_plan good_plan plan good_change tied same_tied tied_stay meets qualified joins list_row counts store_of part_words rows_at model_of
    sound_part sound_table sound fits show_refusal stretch_of show widened wide_sides can_take ways_through rows_through referring rows_found side_row
    insert_effect delete_effect update_effect effect after new_key old_row found_show agrees model_after change_refusal accepted change
table = wanted-if cases tt
