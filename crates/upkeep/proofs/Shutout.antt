-- Document 01, "How much the contracts must say": the versions of the calls that must be shut out, each sentence in a few fields. A version meets the
-- contracts if its outcomes are those of the definitions; then it is none of these. `fill-accepts`, `change-accepts` and `counted` are demands 2 and 3
-- for one call; the other fields are computed on a sheet of one table.
-- Assumes nothing.
use Prim.Native.Nat.{ℕ}
use mathlib.Core.Path.{◌≡◌, refl, sym, ap, ◌∙◌, subst}
use mathlib.Core.Bool.{not}
use mathlib.Core.List.{[], ◌∷◌}
use native.Mathlib.Omega.{arith}
use lib.Dec.{T}
use lib.ListN.{length, replicate}
use Rattle.lists.specs.Lists.{Words}
use Rattle.lists.proofs.Truth.{not→F}
use Rattle.rows.specs.Rows.{cut, word_order, then_by, row_order, is_less, smaller, same_row, rising, put_row, put_rows, sorted, take_row, take_rows, has_rows}
use Rattle.rows.proofs.Ordered.{≡→same}
use Rattle.meaning.specs.Answers.{Outcome}
use Rattle.meaning.specs.Sheet.{sheet_of, good_counts, good_edge, good_condition, good_listed, good_words, good_tree, sheet_refusal}
use Rattle.meaning.specs.Plan.{Plan, root, edge_into, others, dep, dep_plus, need, kept, is_shown, shown}
use Rattle.meaning.specs.Plan.{columns, size, start, store_length, in_order, table_plan, good_plan, plan}
use Rattle.meaning.specs.Base.{base_start, base_of, has_parents, lawful_table, lawful, good_base, Change}
use Rattle.meaning.specs.Base.{change_of, good_change, tied, same_tied, tied_stay, lawful_change, changed}
use Rattle.meaning.specs.Meaning.{meets, qualified, side_table, joins, holds, ways, list_row, the_list, meaning}
use Rattle.meaning.specs.Store.{counts, store_of, part_words, rows_at, model_of, sound_part, sound_table, sound, fits}
use Rattle.meaning.specs.Change.{widened, wide_sides, can_take, ways_through, rows_through, side_row, insert_effect, delete_effect}
use Rattle.meaning.specs.Change.{effect, after, new_key, old_row, agrees, model_after, change_refusal, accepted, change}
use Rattle.meaning.specs.Fill.{fill_refusal, filled, fill}
use Rattle.meaning.specs.Demands.{Refused, Filled, ways_of, outgrows}
use Rattle.upkeep.proofs.Second.{demand2}
use Rattle.upkeep.proofs.Third.{zero_or, demand3}

pub record Version : Type 0 where
  pub planned : Words → Plan
  pub filling : Words → Words → Words → Outcome
  pub changing : Words → Words → Change → Outcome

pub record Meets (v : Version) : Type 0 where
  pub plans : (sheet : Words) → v.planned sheet ≡ plan sheet
  pub fills : (sheet store run : Words) → v.filling sheet store run ≡ fill sheet store run
  pub changes : (sheet store : Words) (c : Change) → v.changing sheet store c ≡ change sheet store c

-- a change after a fill, and a second one after it
abbrev pub changed_first : Version → Words → Words → Words → Change → Outcome
changed_first v sheet store run c = v.changing sheet (v.filling sheet store run).words c

abbrev pub changed_second : Version → Words → Words → Words → Change → Change → Outcome
changed_second v sheet store run c d = v.changing sheet (changed_first v sheet store run c).words d

pub record ShutOut (v : Version) : Type 0 where
  -- "a version that always refuses": a fill that demand 2 speaks of is accepted, and a lawful change is refused for room only
  pub fill-accepts : (sheet store run : Words) → sheet_refusal sheet ≡ 0 → length store ≡ store_length (sheet_of sheet)
      → T (good_base (sheet_of sheet) run) → T (fits (sheet_of sheet) (meaning (sheet_of sheet) (base_of (sheet_of sheet) run)))
      → Filled sheet run (v.filling sheet store run)
  pub fill-refuses : ((sheet store run : Words) → Refused (v.filling sheet store run).number) → ⊥
  pub change-refuses : ((sheet store : Words) (c : Change) → Refused (v.changing sheet store c).number) → ⊥
  pub change-accepts : (sheet store run : Words) (c : Change) → (v.filling sheet store run).number ≡ 0
      → T (lawful_change (sheet_of sheet) (base_of (sheet_of sheet) run) c)
      → (T (outgrows (sheet_of sheet) (changed (base_of (sheet_of sheet) run) c) c.table) → ⊥)
      → (changed_first v sheet store run c).number ≡ 0
  -- "one with a single fixed answer or plan", were it of the accepted calls only
  pub fill-fixed : (o : Outcome) → ((sheet store run : Words) → (v.filling sheet store run).number ≡ 0 → v.filling sheet store run ≡ o) → ⊥
  pub change-fixed : (o : Outcome)
      → ((sheet store : Words) (c : Change) → (v.changing sheet store c).number ≡ 0 → v.changing sheet store c ≡ o) → ⊥
  pub plan-fixed : (p : Plan) → ((sheet : Words) → (v.planned sheet).number ≡ 0 → v.planned sheet ≡ p) → ⊥
  -- "one that leaves the store untouched"
  pub fill-untouched : ((sheet store run : Words) → (v.filling sheet store run).words ≡ store) → ⊥
  pub change-untouched : ((sheet store : Words) (c : Change) → (v.changing sheet store c).words ≡ store) → ⊥
  -- "one that applies the first change and merely nods at later ones": it accepts the second and leaves the store as the first left it
  pub second-nodded : ((sheet store run : Words) (c d : Change) → (changed_second v sheet store run c d).number ≡ 0
      → (changed_second v sheet store run c d).words ≡ (changed_first v sheet store run c).words) → ⊥
  -- "one that invents taken and added": they are the numbers of the base tables' ways, and no number serves for all changes
  pub counted : (sheet store run : Words) (c : Change) → (v.filling sheet store run).number ≡ 0
      → T (lawful_change (sheet_of sheet) (base_of (sheet_of sheet) run) c) → (changed_first v sheet store run c).number ≡ 0
      → ((changed_first v sheet store run c).taken ≡ length (ways_of (sheet_of sheet) (base_of (sheet_of sheet) run) c.table c.old))
      × ((changed_first v sheet store run c).added ≡ length (ways_of (sheet_of sheet) (changed (base_of (sheet_of sheet) run) c) c.table c.new))
  pub taken-fixed : (k : ℕ) → ((sheet store : Words) (c : Change) → (v.changing sheet store c).number ≡ 0 → (v.changing sheet store c).taken ≡ k) → ⊥
  pub added-fixed : (k : ℕ) → ((sheet store : Words) (c : Change) → (v.changing sheet store c).number ≡ 0 → (v.changing sheet store c).added ≡ k) → ⊥

-- One table of two columns, of which the second is listed, with room for k rows; stores of other words than a fill's; no base row, and two
sheet : ℕ → Words
sheet k = 1 ∷ 0 ∷ 0 ∷ 1 ∷ 2 ∷ 0 ∷ 1 ∷ k ∷ k ∷ []

old : Words
old = replicate 11 7

none : Words
none = 0 ∷ []

two : Words
two = 2 ∷ 1 ∷ 5 ∷ 2 ∷ 6 ∷ []

-- filled with none, then (1, 5) and (2, 6) inserted, then (1, 5) deleted
first : Change
first = change_of 1 0 [] (1 ∷ 5 ∷ [])

second : Change
second = change_of 1 0 [] (2 ∷ 6 ∷ [])

third : Change
third = change_of 2 0 (1 ∷ 5 ∷ []) []

store : Words
store = (fill (sheet 2) old none).words

store-one : Words
store-one = (change (sheet 2) store first).words

store_two : Words
store_two = (change (sheet 2) store-one second).words

differ : (xs ys : Words) → T (not (same_row xs ys)) → xs ≡ ys → ⊥
differ xs ys h e = not→F (same_row xs ys) h (≡→same xs ys e)

-- what the definitions give
record Seen : Type 0 where
  fill_none : (fill (sheet 2) old none).number ≡ 0
  fill-two : (fill (sheet 2) old two).number ≡ 0
  fill-writes : store ≡ old → ⊥
  fill-writes-two : store ≡ (fill (sheet 2) old two).words → ⊥
  first-accepted : (change (sheet 2) store first).number ≡ 0
  first-writes : store-one ≡ store → ⊥
  first_taken : (change (sheet 2) store first).taken ≡ 0
  first-added : (change (sheet 2) store first).added ≡ 1
  second-accepted : (change (sheet 2) store-one second).number ≡ 0
  second-writes : store_two ≡ store-one → ⊥
  third-accepted : (change (sheet 2) store_two third).number ≡ 0
  third-taken : (change (sheet 2) store_two third).taken ≡ 1
  third-added : (change (sheet 2) store_two third).added ≡ 0
  plan-two : (plan (sheet 2)).number ≡ 0
  plan-one : (plan (sheet 1)).number ≡ 0
  store-lengths : (plan (sheet 2)).store ≡ (plan (sheet 1)).store → ⊥

seen : Seen
unfolding sheet old none two first second third store store-one store_two sheet_of good_counts good_edge good_condition good_listed good_words
    good_tree sheet_refusal root edge_into others dep dep_plus need kept is_shown shown columns size start store_length in_order table_plan good_plan
    plan base_start base_of has_parents lawful_table lawful good_base good_change tied same_tied tied_stay meets qualified side_table joins holds
    ways list_row the_list meaning counts store_of part_words rows_at model_of sound_part sound_table sound fits widened wide_sides can_take
    ways_through rows_through side_row insert_effect delete_effect effect after new_key old_row agrees model_after change_refusal accepted change
    fill_refusal filled fill cut word_order then_by row_order is_less smaller rising put_row put_rows sorted take_row take_rows has_rows
seen =
    record {
      fill_none = refl;
      fill-two = refl;
      fill-writes = differ store old tt;
      fill-writes-two = differ store (fill (sheet 2) old two).words tt;
      first-accepted = refl;
      first-writes = differ store-one store tt;
      first_taken = refl;
      first-added = refl;
      second-accepted = refl;
      second-writes = differ store_two store-one tt;
      third-accepted = refl;
      third-taken = refl;
      third-added = refl;
      plan-two = refl;
      plan-one = refl;
      store-lengths = λ e. omega arith;
    }

definitions : Version
definitions = record { planned = plan; filling = fill; changing = change }

theirs : ShutOut definitions
unfolding definitions store store-one store_two
theirs =
    record {
      fill-accepts = demand2.fills;
      fill-refuses = λ h. h (sheet 2) old none seen.fill_none;
      change-refuses = λ h. h (sheet 2) store first seen.first-accepted;
      change-accepts = λ sheet store run c f l n.
          let r = (demand3.right sheet store run f (c ∷ []) (λ e. l)).0 in
          zero_or ((changed_first definitions sheet store run c).number ≡ 0) _ (λ e. e) (λ d. absurd (n (r.only-room l d).1));
      fill-fixed = λ o h. seen.fill-writes-two (ap (λ o. o.words) (h (sheet 2) old none seen.fill_none ∙ sym (h (sheet 2) old two seen.fill-two)));
      change-fixed = λ o h. added-differ o.added (λ sheet store c e. ap (λ o. o.added) (h sheet store c e));
      plan-fixed = λ p h. seen.store-lengths (ap (λ p. p.store) (h (sheet 2) seen.plan-two ∙ sym (h (sheet 1) seen.plan-one)));
      fill-untouched = λ h. seen.fill-writes (h (sheet 2) old none);
      change-untouched = λ h. seen.first-writes (h (sheet 2) store first);
      second-nodded = λ h. seen.second-writes (h (sheet 2) old none first second seen.second-accepted);
      counted = λ sheet store run c f l a. let r = (demand3.right sheet store run f (c ∷ []) (λ e. l)).0 in (r.taken a, r.added a);
      taken-fixed = λ k h.
          let a = h (sheet 2) store first seen.first-accepted in
          let b = h (sheet 2) store_two third seen.third-accepted in
          omega (arith, a, seen.first_taken, b, seen.third-taken);
      added-fixed = added-differ;
    }
  where
    added-differ : (k : ℕ) → ((sheet store : Words) (c : Change) → (change sheet store c).number ≡ 0 → (change sheet store c).added ≡ k) → ⊥
    added-differ k h =
        let a = h (sheet 2) store first seen.first-accepted in
        let b = h (sheet 2) store_two third seen.third-accepted in
        omega (arith, a, seen.first-added, b, seen.third-added)

-- every version that meets the contracts
pub shut_out : (v : Version) → Meets v → ShutOut v
unfolding definitions
shut_out v m = subst ShutOut (sym same) theirs
  where
    same : v ≡ definitions
    same = λ i. record {
      planned = λ sheet. m.plans sheet i;
      filling = λ sheet store run. m.fills sheet store run i;
      changing = λ sheet store c. m.changes sheet store c i;
    }
