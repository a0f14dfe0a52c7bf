-- The mission's three demands as statements about the definitions, each sentence in one named field. Nothing is proved here.
-- Assumes nothing.
use Rattle.std.specs.Prelude.{ℕ, ◌≤◌, ◌<◌, ◌≡◌, Bool, cond, ◌||◌, List, [], ◌∷◌, ◌++◌, map, ◌⊎◌, T, ltb, leb, eqb, length}
use Rattle.lists.specs.Lists.{Words, select, flat}
use Rattle.rows.specs.Rows.{Row, pick, same_row, sorted}
use Rattle.meaning.specs.Answers.{Outcome}
use Rattle.meaning.specs.Sheet.{Sheet, room, sheet_of, good_counts, good_words, good_tree, sheet_refusal}
use Rattle.meaning.specs.Plan.{Plan, root, edge_into, others, dep, dep_plus, key_listed, need, kept, shown, store_length, no_plan, plan}
use Rattle.meaning.specs.Base.{Tables, rows_of, Change, base_of, good_base, good_change, tied_stay, lawful_change, changed}
use Rattle.meaning.specs.Meaning.{qualified, Way, row_in, ways, side_table, the_list, meaning}
use Rattle.meaning.specs.Store.{Stretch, part_rows, store_of, model_of, sound, rows_at, fits, show}
use Rattle.meaning.specs.Change.{model_after, agrees, change}
use Rattle.meaning.specs.Fill.{fill}

-- the call is refused
abbrev pub Refused : ℕ → Type 0
Refused number = number ≡ 0 → ⊥

-- Demand 1. A row of the table "What a call turns down": the number, and the test that a call must pass not to be given it
pub record Test : Type 0 where
  pub number : ℕ
  pub passed : Bool

abbrev pub test : ℕ → Bool → Test
test number passed = record { number = number; passed = passed }

-- the number is that of the first test that is not passed, and 0 if all are
abbrev pub First : List Test → ℕ → Type 0
First [] number = number ≡ 0
First (t ∷ ts) number = ((T t.passed → ⊥) × (number ≡ t.number)) ⊎ (T t.passed × First ts number)

-- each call's tests, in its order
abbrev pub sheet_tests : Words → List Test
sheet_tests sheet = test 1 (good_counts sheet) ∷ test 2 (good_words (sheet_of sheet)) ∷ test 3 (good_tree (sheet_of sheet)) ∷ []

abbrev pub store_tests : Words → Words → List Test
store_tests sheet store = sheet_tests sheet ++ (test 4 (eqb (length store) (store_length (sheet_of sheet))) ∷ [])

abbrev pub change_tests : Words → Words → Change → List Test
change_tests sheet store c =
    let s = sheet_of sheet in
    store_tests sheet store
    ++ (test 5 (good_change s c)
    ∷ test 6 (tied_stay s c)
    ∷ test 7 (sound s store)
    ∷ test 8 (agrees s (model_of s store) c)
    ∷ test 9 (fits s (model_after s store c))
    ∷ [])

abbrev pub fill_tests : Words → Words → Words → List Test
fill_tests sheet store run =
    let s = sheet_of sheet in
    store_tests sheet store ++ (test 10 (good_base s run) ∷ test 9 (fits s (meaning s (base_of s run))) ∷ [])

abbrev pub show_tests : Words → Words → ℕ → List Test
show_tests sheet store part =
    store_tests sheet store ++ (test 5 (leb part (sheet_of sheet).n) ∷ test 7 (sound (sheet_of sheet) store) ∷ [])

-- "Every call takes any sheet, store, base tables or change, and ends": each is a function of any words. "Bad input gets the numbered
-- refusal of document 01, in its order" is `number`. "A refused call alters no word of the store" is `words`
pub record Answered (tests : List Test) (store : Words) (o : Outcome) : Type 0 where
  pub number : First tests o.number
  pub taken : Refused o.number → o.taken ≡ 0
  pub added : Refused o.number → o.added ≡ 0
  pub words : Refused o.number → o.words ≡ store

pub record Shown (tests : List Test) (o : Stretch) : Type 0 where
  pub number : First tests o.number
  pub words : Refused o.number → o.words ≡ []

pub record Planned (tests : List Test) (o : Plan) : Type 0 where
  pub number : First tests o.number
  pub fields : Refused o.number → o ≡ no_plan o.number

pub record Demand1 : Type 0 where
  pub changes : (sheet store : Words) (c : Change) → Answered (change_tests sheet store c) store (change sheet store c)
  pub fills : (sheet store run : Words) → Answered (fill_tests sheet store run) store (fill sheet store run)
  pub shows : (sheet store : Words) (part : ℕ) → Shown (show_tests sheet store part) (show sheet store part)
  pub plans : (sheet : Words) → Planned (sheet_tests sheet) (plan sheet)

-- Demand 2. "The side tables derived from a sheet are exactly those of Algorithm 3.1 as document 01 states it": Dep+, Need and the side
-- tables meet the document's own recursive sentences, with no count of tables left on the path
pub record Derived (s : Sheet) : Type 0 where
  pub all-reached : (t : ℕ) → t < s.n → dep_plus s t ≡ flat (map (λ p. p ∷ dep_plus s p) (dep s t))
  pub need-listed : (t : ℕ) → t < s.n → T (key_listed s t) → need s t ≡ []
  pub need-root : (T (key_listed s (root s)) → ⊥) → need s (root s) ≡ others s (root s)
  pub need-child : (t : ℕ) → t < s.n → (t ≡ root s → ⊥) → (T (key_listed s t) → ⊥)
      → need s t ≡ (edge_into s t).child ∷ need s (edge_into s t).child
  pub only-root : (t : ℕ) → t < s.n → (T (kept s t) → ⊥) → t ≡ root s
  pub side : (base : Tables) (t : ℕ) → t < s.n → T (kept s t)
      → side_table s base t ≡ sorted (map (pick (shown s t)) (select (qualified s (side_table s base) t) (rows_of base t)))

-- "Filling a store from lawful base tables whose rows fit is accepted and writes exactly the rows that select, project and join give, all
-- 64 bits of each value, in the stated order"
pub record Filled (sheet run : Words) (o : Outcome) : Type 0 where
  pub number : o.number ≡ 0
  pub taken : o.taken ≡ 0
  pub added : o.added ≡ length (the_list (sheet_of sheet) (base_of (sheet_of sheet) run))
  pub is-sound : T (sound (sheet_of sheet) o.words)
  pub model : model_of (sheet_of sheet) o.words ≡ meaning (sheet_of sheet) (base_of (sheet_of sheet) run)
  pub shows : (part : ℕ) → part ≤ (sheet_of sheet).n
      → (show sheet o.words part).words ≡ flat (part_rows (meaning (sheet_of sheet) (base_of (sheet_of sheet) run)) part)

pub record Demand2 : Type 0 where
  pub derived : (sheet : Words) → sheet_refusal sheet ≡ 0 → Derived (sheet_of sheet)
  pub fills : (sheet store run : Words) → sheet_refusal sheet ≡ 0 → length store ≡ store_length (sheet_of sheet)
      → T (good_base (sheet_of sheet) run) → T (fits (sheet_of sheet) (meaning (sheet_of sheet) (base_of (sheet_of sheet) run)))
      → Filled sheet run (fill sheet store run)

-- Demand 3. The ways of the base tables that take r from table t: as many list rows arise from r
unfoldable pub ways_of : Sheet → Tables → ℕ → Row → List Way
ways_of s base t r = select (λ way. same_row (row_in way t) r) (ways s base)

-- the list, or table t's side table, does not fit its room
unfoldable pub outgrows : Sheet → Tables → ℕ → Bool
outgrows s base t = ltb (room s s.n) (length (the_list s base)) || ltb (room s t) (length (side_table s base t))

-- the base tables after a call: the change is made if the call accepted it. They may have any number of rows
unfoldable pub base_after : Words → Tables → Words → Change → Tables
base_after sheet base store c = cond (eqb (change sheet store c).number 0) (changed base c) base

-- What one call owes, on a store that was right for these base tables. "The change call never sees the base tables": it is no function of them
pub record Right (sheet : Words) (base : Tables) (store : Words) (c : Change) : Type 0 where
  -- "the store equals what demand 2 gives for the base tables after the accepted changes"
  pub words : (change sheet store c).words ≡ store_of (sheet_of sheet) (meaning (sheet_of sheet) (base_after sheet base store c))
  -- "and the answer counts rows taken and added as document 01 does"
  pub taken : (change sheet store c).number ≡ 0
      → (change sheet store c).taken ≡ length (ways_of (sheet_of sheet) base c.table c.old)
  pub added : (change sheet store c).number ≡ 0
      → (change sheet store c).added ≡ length (ways_of (sheet_of sheet) (changed base c) c.table c.new)
  -- "A lawful change is refused only for room in the list or its own side table"
  pub only-room : T (lawful_change (sheet_of sheet) base c) → Refused (change sheet store c).number
      → ((change sheet store c).number ≡ 9) × T (outgrows (sheet_of sheet) (changed base c) c.table)

-- "after any sequence of change calls where each accepted change is lawful", for the base tables as the earlier accepted ones left them;
-- refused ones are arbitrary
abbrev pub AllRight : Words → Tables → Words → List Change → Type 0
AllRight sheet base store [] = Unit {0}
AllRight sheet base store (c ∷ cs) =
    ((change sheet store c).number ≡ 0 → T (lawful_change (sheet_of sheet) base c))
    → Right sheet base store c × AllRight sheet (base_after sheet base store c) (change sheet store c).words cs

pub record Demand3 : Type 0 where
  -- "From a filled store"
  pub right : (sheet store run : Words) → (fill sheet store run).number ≡ 0 → (changes : List Change)
      → AllRight sheet (base_of (sheet_of sheet) run) (fill sheet store run).words changes
  -- "No change alters another table's side table": lawful or not, on any store
  pub others-stay : (sheet store : Words) (c : Change) (t : ℕ) → t < (sheet_of sheet).n → (t ≡ c.table → ⊥)
      → rows_at (sheet_of sheet) (change sheet store c).words t ≡ rows_at (sheet_of sheet) store t
