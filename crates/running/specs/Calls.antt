-- The calls of the code as they ran. All that is known of one is its function's own contract: `Learnt` is what antt reads from the `ensures`
-- of the source, and `Asked` what it reads from the `requires`. Each call is that of the crate's function or that of the face, which
-- `oratjolet_c` exports to C under the same name and with the same clauses.
-- Assumes nothing.
use Rattle.std.specs.Prelude.{ℕ, ◌≡◌, ◌⊎◌, Result, take, drop}
use Rattle.std.proofs.Common.{inl, inr}
use contract.Lifetimes.{Lfts}
use denote.Triple.Clauses.{Ended, AtExit}
use borrow.Fn.World.{ArgsD, ResD}
use Rattle.lists.specs.Lists.{Words}
use Rattle.meaning.specs.Answers.{Outcome}
use Rattle.meaning.specs.Base.{Change, change_of}
use Rattle.meaning.specs.Store.{Stretch}
use Rattle.sheet.specs.declared.refusal.Refusal.{Refusal}
use Rattle.sheet.specs.Refusals.{number_of}
use Rattle.store.specs.declared.Done.{Done}
use Rattle.store.specs.Answers.{taken_of, added_of}
use Rattle.store.specs.Shows.{words_in}
use Rattle.plan_answer.specs.declared.PlanAnswer.{PlanAnswer}
use Rattle.oratjolet.specs.Exports.{plan_words}
use Rattle.plan_answer.specs.contracts.plan_of as plan
use Rattle.plan_answer.proofs.plan_of.Reads as plan-reads
use Rattle.store.specs.contracts.show as show
use Rattle.store.proofs.show.Reads as show-reads
use Rattle.fill.specs.contracts.fill as fill
use Rattle.fill.proofs.fill.Reads as fill-reads
use Rattle.change.specs.contracts.change as change
use Rattle.change.proofs.change.Reads as change-reads
use Rattle.oratjolet.specs.contracts.oratjolet_plan as plan-out
use Rattle.oratjolet.proofs.oratjolet_plan.Reads as plan-out-reads
use Rattle.oratjolet.specs.contracts.oratjolet_show as show-out
use Rattle.oratjolet.proofs.oratjolet_show.Reads as show-out-reads
use Rattle.oratjolet.specs.contracts.oratjolet_fill as fill-out
use Rattle.oratjolet.proofs.oratjolet_fill.Reads as fill-out-reads
use Rattle.oratjolet.specs.contracts.oratjolet_change as change-out
use Rattle.oratjolet.proofs.oratjolet_change.Reads as change-out-reads

-- what a caller learns, of the values passed, the result and the parameters at exit
abbrev pub ToLearn : Ended → Type 1
ToLearn T = (κs : Lfts T.signature.lifetimes) → ArgsD T.signature κs → ResD T.signature κs → AtExit T κs → Type 0

-- a call of one function: these values, and what is learnt of them
pub record Call (T : Ended) (learnt : ToLearn T) : Type 0 where
  pub κs : Lfts T.signature.lifetimes
  pub args : ArgsD T.signature κs
  pub result : ResD T.signature κs
  pub exit : AtExit T κs
  pub promise : learnt κs args result exit

abbrev pub PlanCall : Type 0
PlanCall = Call plan.ended plan-reads.Learnt ⊎ Call plan-out.ended plan-out-reads.Learnt

abbrev pub ShowCall : Type 0
ShowCall = Call show.ended show-reads.Learnt ⊎ Call show-out.ended show-out-reads.Learnt

abbrev pub FillCall : Type 0
FillCall = Call fill.ended fill-reads.Learnt ⊎ Call fill-out.ended fill-out-reads.Learnt

abbrev pub ChangeCall : Type 0
ChangeCall = Call change.ended change-reads.Learnt ⊎ Call change-out.ended change-out-reads.Learnt

-- a function whose contract asks nothing of the values passed
abbrev pub TakesAny : (T : Ended) → ((κs : Lfts T.signature.lifetimes) → ArgsD T.signature κs → Type 0) → Type 0
TakesAny T asked = (κs : Lfts T.signature.lifetimes) (args : ArgsD T.signature κs) → asked κs args

pub record AllTakeAny : Type 0 where
  pub plans : TakesAny plan.ended plan-reads.Asked × TakesAny plan-out.ended plan-out-reads.Asked
  pub shows : TakesAny show.ended show-reads.Asked × TakesAny show-out.ended show-out-reads.Asked
  pub fills : TakesAny fill.ended fill-reads.Asked × TakesAny fill-out.ended fill-out-reads.Asked
  pub changes : TakesAny change.ended change-reads.Asked × TakesAny change-out.ended change-out-reads.Asked

-- a call in document 01's words
pub record Ran (Asked Given : Type 0) : Type 0 where
  pub sheet : Words
  pub store : Words
  pub asked : Asked
  pub outcome : Given

abbrev pub outcome_of : Result Done Refusal → Words → Outcome
outcome_of a exit = record { number = number_of a; taken = taken_of a; added = added_of a; words = exit }

abbrev pub change_ran : ChangeCall → Ran Change Outcome
change_ran (inl k) =
    let (sheet, (store, (kind, (table, (old, (new, _)))))) = k.args in
    let (_, (exit, _)) = k.exit in
    record { sheet = sheet.now; store = store.now; asked = change_of kind table old.now new.now; outcome = outcome_of k.result exit.now }
change_ran (inr k) =
    let (sheet, (store, (kind, (table, (old, (new, _)))))) = k.args in
    let (_, (exit, (_, (_, (_, (_, (taken, (added, _)))))))) = k.exit in
    record {
      sheet = sheet.now;
      store = store.now;
      asked = change_of kind table old.now new.now;
      outcome = record { number = k.result; taken = taken.now; added = added.now; words = exit.now };
    }

abbrev pub fill_ran : FillCall → Ran Words Outcome
fill_ran (inl k) =
    let (sheet, (base, (store, _))) = k.args in
    let (_, (_, (exit, _))) = k.exit in
    record { sheet = sheet.now; store = store.now; asked = base.now; outcome = outcome_of k.result exit.now }
fill_ran (inr k) =
    let (sheet, (base, (store, _))) = k.args in
    let (_, (_, (exit, (taken, (added, _))))) = k.exit in
    record {
      sheet = sheet.now;
      store = store.now;
      asked = base.now;
      outcome = record { number = k.result; taken = taken.now; added = added.now; words = exit.now };
    }

-- the face's names a stretch of the store
abbrev pub show_ran : ShowCall → Ran ℕ Stretch
show_ran (inl k) =
    let (sheet, (store, (part, _))) = k.args in
    record { sheet = sheet.now; store = store.now; asked = part; outcome = record { number = number_of k.result; words = words_in k.result } }
show_ran (inr k) =
    let (sheet, (store, (part, _))) = k.args in
    let (_, (_, (_, (first, (count, _))))) = k.exit in
    record {
      sheet = sheet.now;
      store = store.now;
      asked = part;
      outcome = record { number = k.result; words = take count.now (drop first.now store.now) };
    }

abbrev pub planned_sheet : PlanCall → Words
planned_sheet (inl k) = k.args.0.now
planned_sheet (inr k) = k.args.0.now

-- the face's answers a number and 220 words
abbrev pub Answers : PlanCall → Result PlanAnswer Refusal → Type 0
Answers (inl k) a = k.result ≡ a
Answers (inr k) a = (k.result ≡ number_of a) × (k.exit.1.0.now ≡ plan_words a)
