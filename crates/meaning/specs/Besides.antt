-- Worked cases beside the table of ● cases, each the smallest that sees an error which the table cannot see, proved the same way.
-- Assumes nothing.
use Rattle.std.specs.Prelude.{List, [], ◌∷◌, ◌++◌}
use Rattle.lists.specs.Lists.{Words}
use Rattle.lists.specs.Totals.{one}
use Rattle.rows.specs.Rows.{cut, word_order, then_by, row_order, is_less, smaller, rising, put_row, put_rows, sorted, take_row, take_rows, has_rows}
use Rattle.meaning.specs.Sheet.{sheet_of, good_counts, good_edge, good_condition, good_listed, good_words, good_tree, sheet_refusal}
use Rattle.meaning.specs.Plan.{root, edge_into, others, dep, dep_plus, need, kept, is_shown, shown, columns}
use Rattle.meaning.specs.Plan.{size, start, store_length, in_order, table_plan, good_plan, plan}
use Rattle.meaning.specs.Base.{Change, base_start, base_of, has_parents, lawful_table, lawful, good_base}
use Rattle.meaning.specs.Base.{good_change, tied, same_tied, tied_stay, has_promised_child, lawful_change}
use Rattle.meaning.specs.Meaning.{meets, qualified, side_table, joins, holds, ways, list_row, the_list, meaning}
use Rattle.meaning.specs.Store.{counts, store_of, part_words, rows_at, model_of, sound_part, sound_table, sound, fits, show_refusal, stretch_of, show}
use Rattle.meaning.specs.Change.{widened, wide_sides, can_take, ways_through, rows_through, referring, rows_found, side_row, insert_effect, delete_effect}
use Rattle.meaning.specs.Change.{update_effect, effect, after, new_key, old_row, found_show, agrees, model_after, change_refusal, accepted, change}
use Rattle.meaning.specs.Fill.{fill_refusal, filled, fill}
use Rattle.meaning.specs.Cases.{Case, Step, AsWanted, wanted-if, step, story, insert, delete, update}
use Rattle.meaning.specs.Cases.{desk, zeros, title, copy_a, copy_b, borrower, loan, cases3to5}

-- "Restricting a side table by a parent whose edge isn't promised: the parent may come later." Two tables and one edge, not promised: the
-- child stands in its side table before its parent comes, and is on the list from then on.
abbrev pub waiting : Words
waiting = (2 ∷ 1 ∷ 0 ∷ 1 ∷ 2 ∷ 1 ∷ []) ++ (0 ∷ 1 ∷ 1 ∷ 0 ∷ []) ++ (0 ∷ 0 ∷ []) ++ (1 ∷ 1 ∷ 1 ∷ [])

abbrev pub parent_later : Case
parent_later =
    story waiting
    (step (insert 0 (5 ∷ 9 ∷ [])) 0 0 0 0 ((5 ∷ 9 ∷ []) ∷ []) ∷ step (insert 1 (9 ∷ [])) 2 0 0 1 ((5 ∷ []) ∷ []) ∷ [])

-- "Running an update as a delete and an insert: a parent would vanish from under its children." The title of case 6 has copies on a
-- promised edge: its update is lawful, its delete is not.
abbrev pub desk_run : Words
desk_run = (1 ∷ 2 ∷ 1 ∷ 1 ∷ []) ++ loan ++ copy_a ++ copy_b ++ title 24 3 ++ borrower

abbrev pub is_lawful : Change → Words
is_lawful c = one (lawful_change (sheet_of desk) (base_of (sheet_of desk) desk_run) c) ∷ []

abbrev pub parent_stays : Case
parent_stays =
    record {
      got = is_lawful (update 2 (title 24 3) (title 24 4)) ∷ is_lawful (delete 2 (title 24 3)) ∷ [];
      want = (1 ∷ []) ∷ (0 ∷ []) ∷ [];
    }

-- No ● case fills a store. The desk's tables filled at once are the store that the changes of cases 3 to 5 made.
abbrev pub store_after : Words → Words → List Step → Words
store_after sheet store [] = store
store_after sheet store (p ∷ steps) = store_after sheet (change sheet store p.change).words steps

abbrev pub filled_at_once : Case
filled_at_once =
    let o = fill desk (zeros desk) desk_run in
    record {
      got = (o.number ∷ o.taken ∷ o.added ∷ o.words) ∷ [];
      want = (0 ∷ 0 ∷ 1 ∷ store_after desk (zeros desk) cases3to5) ∷ [];
    }

abbrev pub besides : List Case
besides = parent_later ∷ parent_stays ∷ filled_at_once ∷ []

pub beside-table : AsWanted besides
unfolding
    cut word_order then_by row_order is_less smaller rising put_row put_rows sorted take_row take_rows has_rows sheet_of good_counts good_edge
    good_condition good_listed good_words good_tree sheet_refusal root edge_into others dep dep_plus need kept is_shown shown columns size start
    store_length in_order table_plan good_plan plan base_start base_of has_parents lawful_table lawful good_base good_change tied same_tied tied_stay
    has_promised_child lawful_change meets qualified side_table joins holds ways list_row the_list meaning counts store_of part_words rows_at model_of
    sound_part sound_table sound fits show_refusal stretch_of show widened wide_sides can_take ways_through rows_through referring rows_found side_row
    insert_effect delete_effect update_effect effect after new_key old_row found_show agrees model_after change_refusal accepted change fill_refusal
    filled fill
beside-table = wanted-if besides tt
