-- The plan call's 220 words for the desk sheet, for the same with 3 0 unlisted and for a refused sheet, word by word, proved by computation.
-- Assumes nothing.
use Rattle.std.specs.Prelude.{◌≡◌, List, [], ◌∷◌, ◌++◌, map, eqb, replicate}
use Rattle.std.proofs.Common.{eqb→eq}
use Rattle.lists.specs.Lists.{Words, flat}
use Rattle.lists.specs.Loops.{filled}
use Rattle.lists.proofs.Truth.{same_lists→≡}
use Rattle.rows.specs.Rows.{same_row, cut}
use Rattle.meaning.specs.Sheet.{sheet_of, good_counts, good_edge, good_condition, good_listed, good_words, good_tree, sheet_refusal}
use Rattle.meaning.specs.Plan.{root, edge_into, others, dep, dep_plus, need, kept, is_shown, shown, columns, size, start, store_length}
use Rattle.meaning.specs.Plan.{in_order, table_plan, good_plan, plan}
use Rattle.meaning.specs.Cases.{desk, desk_unlisted}
use Rattle.plan_answer.specs.Answers.{sets_of, per_table, laid_out, answer_of}
use Rattle.oratjolet.specs.Exports.{plan_words}

-- the marks of eight tables, of which the desk sheet has four
abbrev sets : List Words → Words
sets tables = flat tables ++ replicate 32 0

abbrev none : Words
none = replicate 8 0

-- the columns and the sets that the two sheets share
abbrev sides : List Words
sides = (1 ∷ 1 ∷ replicate 6 0) ∷ (1 ∷ 0 ∷ 1 ∷ replicate 5 0) ∷ (1 ∷ 0 ∷ 1 ∷ replicate 5 0) ∷ []

abbrev deps : Words
deps = sets ((0 ∷ 1 ∷ 0 ∷ 1 ∷ replicate 4 0) ∷ (0 ∷ 0 ∷ 1 ∷ replicate 5 0) ∷ none ∷ none ∷ [])

-- A sheet, and the words that the document's plan of it comes to
pub record WorkedPlan : Type 0 where
  pub sheet : Words
  pub words : Words

abbrev pub worked_plans : List WorkedPlan
worked_plans =
    record {
      sheet = desk;
      words =
          (0 ∷ 4 ∷ 0 ∷ 97 ∷ []) ++ (0 ∷ 1 ∷ 1 ∷ 1 ∷ replicate 4 0) ++ sets (none ∷ sides) ++ deps
          ++ sets (none ∷ none ∷ (0 ∷ 1 ∷ replicate 6 0) ∷ none ∷ [])
          ++ (9 ∷ 9 ∷ 25 ∷ 41 ∷ replicate 4 0) ++ (8 ∷ 8 ∷ 8 ∷ 8 ∷ replicate 4 0);
    }
    ∷ record {
      sheet = desk_unlisted;
      words =
          (0 ∷ 4 ∷ 0 ∷ 113 ∷ []) ++ (1 ∷ 1 ∷ 1 ∷ 1 ∷ replicate 4 0) ++ sets ((1 ∷ 1 ∷ 1 ∷ replicate 5 0) ∷ sides) ++ deps
          ++ sets (none ∷ none ∷ (0 ∷ 1 ∷ replicate 6 0) ∷ (1 ∷ replicate 7 0) ∷ [])
          ++ (9 ∷ 33 ∷ 49 ∷ 65 ∷ replicate 4 0) ++ (8 ∷ 8 ∷ 8 ∷ 8 ∷ replicate 4 0);
    }
    ∷ record { sheet = 9 ∷ []; words = 1 ∷ replicate 219 0 }
    ∷ []

abbrev got : WorkedPlan → Words
got l = plan_words (answer_of (plan l.sheet))

abbrev want : WorkedPlan → Words
want l = l.words

-- antt computes a test, and the test's law turns it into the equation
pub plans-come-to : map got worked_plans ≡ map want worked_plans
unfolding
    cut sheet_of good_counts good_edge good_condition good_listed good_words good_tree sheet_refusal root edge_into others dep
    dep_plus need kept is_shown shown columns size start store_length in_order table_plan good_plan plan filled sets_of
    per_table laid_out answer_of plan_words
plans-come-to = same_lists→≡ same_row (same_lists→≡ eqb eqb→eq) (map got worked_plans) (map want worked_plans) tt
