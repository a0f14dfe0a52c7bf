-- The plan call's answer: document 01's plan laid out as arrays.
-- Assumes nothing.
use Rattle.std.specs.Prelude.{ℕ, ◌/◌, ◌%◌, cond, ◌&&◌, List, [], Result, Ok, Err, eqb, ltb, length, get_or, replicate}
use Rattle.lists.specs.Lists.{member}
use Rattle.lists.specs.Totals.{one}
use Rattle.lists.specs.Loops.{filled}
use Rattle.meaning.specs.Limits.{most_tables, most_columns, most_places}
use Rattle.meaning.specs.Plan.{TablePlan, dep, need}
use Rattle.meaning.specs.Plan as Meant
use Rattle.meaning.specs.Sheet.{Sheet}
use Rattle.sheet.specs.declared.refusal.Refusal.{Refusal}
use Rattle.sheet.specs.Refusals.{refusal_of}
use Rattle.sheet_plan.specs.declared.Plan.{Plan}
use Rattle.plan_answer.specs.declared.PlanAnswer.{PlanAnswer}

-- what the plan says of table t, and of a table that is not there
abbrev pub no_table : TablePlan
no_table = record { kept = 0; columns = []; dep = []; need = []; start = 0; room = 0 }

abbrev pub table_no : Meant.Plan → ℕ → TablePlan
table_no p t = get_or p.tables t no_table

-- a set for each of eight tables, as marks: 1 at 8t + x if x is in the set of table t
unfoldable pub sets_of : (ℕ → List ℕ) → List ℕ
sets_of f = filled (λ i. one (member (i % most_tables) (f (i / most_tables)))) most_places (replicate most_places 0)

-- a number for each table
unfoldable pub per_table : (ℕ → ℕ) → ℕ → List ℕ
per_table f n = filled f n (replicate most_tables 0)

unfoldable pub laid_out : Meant.Plan → PlanAnswer
laid_out p =
    record {
      tables = length p.tables;
      root = p.root;
      store = p.store;
      kept = per_table (λ t. (table_no p t).kept) (length p.tables);
      columns = sets_of (λ t. (table_no p t).columns);
      dep = sets_of (λ t. (table_no p t).dep);
      need = sets_of (λ t. (table_no p t).need);
      starts = per_table (λ t. (table_no p t).start) (length p.tables);
      rooms = per_table (λ t. (table_no p t).room) (length p.tables);
    }

-- the plan, or the refusal alone
unfoldable pub answer_of : Meant.Plan → Result PlanAnswer Refusal
answer_of p = cond (eqb p.number 0) (Ok (laid_out p)) (Err (refusal_of p.number))

-- Dep and Need as marks: place i speaks of table i / 8 and of the table i % 8
unfoldable pub dep_at : Sheet → ℕ → ℕ
dep_at s i = one (member (i % most_tables) (dep s (i / most_tables)))

unfoldable pub dep_of : Sheet → List ℕ
dep_of s = filled (dep_at s) most_places (replicate most_places 0)

unfoldable pub need_at : Sheet → ℕ → ℕ
need_at s i = one (ltb (i / most_tables) s.n && member (i % most_tables) (need s (i / most_tables)))

unfoldable pub need_of : Sheet → List ℕ
need_of s = filled (need_at s) most_places (replicate most_places 0)

-- The same from the arrays that the check hands out, and these marks
unfoldable pub kept_column : List ℕ → List ℕ → ℕ → ℕ
kept_column kept shows i = cond (eqb (get_or kept (i / most_columns) 0) 1) (get_or shows i 0) 0

unfoldable pub kept_columns : List ℕ → List ℕ → List ℕ
kept_columns kept shows = filled (kept_column kept shows) most_places (replicate most_places 0)

unfoldable pub first_parts : List ℕ → ℕ → List ℕ
first_parts parts n = filled (λ t. get_or parts t 0) n (replicate most_tables 0)

unfoldable pub answer_for : Plan → List ℕ → List ℕ → PlanAnswer
answer_for p dep need =
    record {
      tables = p.tables;
      root = p.root;
      store = p.store;
      kept = p.kept;
      columns = kept_columns p.kept p.shows;
      dep = dep;
      need = need;
      starts = first_parts p.starts p.tables;
      rooms = first_parts p.rooms p.tables;
    }
