-- Worked texts: what the program prints for each, as one table under one statement, proved by computation.
-- Assumes nothing.
use Prim.Native.String.{String}
use Rattle.std.specs.Prelude.{◌≡◌, List, [], ◌∷◌, map, eqb}
use Rattle.std.proofs.Common.{eqb→eq}
use Rattle.lists.proofs.Truth.{same_lists→≡}
use Rattle.rows.specs.Rows.{same_row, cut}
use Rattle.meaning.specs.Sheet.{sheet_of, good_counts, good_edge, good_condition, good_listed, good_words, good_tree, sheet_refusal}
use Rattle.meaning.specs.Plan.{root, edge_into, others, dep, dep_plus, need, kept, is_shown, shown, columns, size, start, store_length}
use Rattle.meaning.specs.Plan.{in_order, table_plan, good_plan, plan}
use Rattle.text.specs.Ascii.{ascii}
use Rattle.text.specs.Reading.{Text, is_blank, is_digit, onward, value, before, pieces, is_some, decimals, is_number, read_text}
use Rattle.text.specs.Printing.{digits, decimal, commas, parted, set_text, sets_text, line_text, table_text, tables_text, head_text, refused_text, plan_text}
use Rattle.text.specs.Outcomes.{plan_of_text, printed}

-- A line of the table: the text of a sheet, and what is printed
pub record WorkedText : Type 0 where
  pub sheet : String
  pub prints : String

infix 10 ◌prints◌
abbrev pub ◌prints◌ : String → String → WorkedText
sheet prints text = record { sheet = sheet; prints = text }

abbrev pub worked_texts : List WorkedText
worked_texts =
    -- the desk sheet
    ("4 3 2 5  4 3 3 3\n0 2 1 1  1 1 2 1  0 1 3 1\n1 2 7 7  2 1 20 29\n0 0  1 0  2 2  3 0  3 2\n8 8 8 8 8\n"
    prints "root 0 store 97\n0 kept 0 cols - dep 1,3 need -\n1 kept 1 cols 0,1 dep 2 need -\n2 kept 1 cols 0,2 dep - need 1\n3 kept 1 cols 0,2 dep - need -\n")
    -- case 2: with 3 0 unlisted
    ∷ ("4 3 2 4  4 3 3 3\n0 2 1 1  1 1 2 1  0 1 3 1\n1 2 7 7  2 1 20 29\n0 0  1 0  2 2  3 2\n8 8 8 8 8\n"
    prints
    "root 0 store 113\n0 kept 1 cols 0,1,2 dep 1,3 need -\n1 kept 1 cols 0,1 dep 2 need -\n2 kept 1 cols 0,2 dep - need 1\n3 kept 1 cols 0,2 dep - need 0\n")
    -- refusals 1 to 3: two edges for two tables; a promise of 2; an edge from a table to itself
    ∷ ("2 2 0 1  2 1  0 1 1 1  0 1 1 1  0 0  4 4 4" prints "refused 1\n")
    ∷ ("2 1 0 1  2 1  0 1 1 2  0 0  4 4 4" prints "refused 2\n")
    ∷ ("2 1 0 1  2 1  0 1 0 1  0 0  4 4 4" prints "refused 3\n")
    -- blanks and zeros before, between and behind
    ∷ ("\n  001 0 0\n\n1 02  0 1 3\n 4 \n" prints "root 0 store 13\n0 kept 0 cols - dep - need -\n")
    -- the largest number of 64 bits, and one more
    ∷ ("1 0 1 1 2 0 1 0 18446744073709551615 0 1 3 4" prints "root 0 store 13\n0 kept 0 cols - dep - need -\n")
    ∷ ("1 0 1 1 2 0 1 0 18446744073709551616 0 1 3 4" prints "refused 1\n")
    ∷ ("1 0 1 1 2 0 1 0 0018446744073709551615 0 1 3 4" prints "root 0 store 13\n0 kept 0 cols - dep - need -\n")
    ∷ ("1 0 1 1 2 0 1 0 99999999999999999999 0 1 3 4" prints "refused 1\n")
    -- no text, and other bytes
    ∷ ("" prints "refused 1\n")
    ∷ ("1 0 0 1 2 0 1 3\t4" prints "refused 1\n")
    ∷ ("1 0 0 1 2 0 1 3 4\r\n" prints "refused 1\n")
    ∷ ("1 0 0 1 2 0 1 3 +4" prints "refused 1\n")
    ∷ []

abbrev got : WorkedText → Text
got l = printed (ascii l.sheet)

abbrev want : WorkedText → Text
want l = ascii l.prints

-- antt computes a test, and the test's law turns it into the equation
pub texts-print : map got worked_texts ≡ map want worked_texts
unfolding
    cut sheet_of good_counts good_edge good_condition good_listed good_words good_tree sheet_refusal root edge_into others dep
    dep_plus need kept is_shown shown columns size start store_length in_order table_plan good_plan plan is_blank is_digit
    onward value before pieces is_some decimals is_number read_text digits decimal commas parted set_text sets_text line_text
    table_text tables_text head_text refused_text plan_text plan_of_text printed
texts-print = same_lists→≡ same_row (same_lists→≡ eqb eqb→eq) (map got worked_texts) (map want worked_texts) tt
