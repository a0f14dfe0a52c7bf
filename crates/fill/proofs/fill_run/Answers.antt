-- `fill_run` meets its contract.
-- Assumes nothing.
use mathlib.Core.Path.{refl, sym, ◌∙◌}
use Prim.Native.Nat.{ℕ}
use lib.ListN.{length-replicate}
use Rattle.filling.proofs.Runs.{run-facts}
use Rattle.base_run.proofs.Tests.{once-lawful}
use Rattle.fill.proofs.Zeros.{long-enough}
use Rattle.fill.proofs.Outcomes.{lawful-refused}
use native.Mathlib.Omega.{arith}
use Rattle.fill.proofs.fill_run.Goals as goal

pub starts_of-starts-requires : goal.starts_of-starts-requires
starts_of-starts-requires c = record {
  good_sheet = c.requires.stored.good;
  run = run-facts _ _ c.requires.run_value;
}

pub invariant_of-tables : goal.invariant_of-tables
invariant_of-tables c = record { laid = c.starts_of-starts.ensures }

-- the length of a local array is not computed: it goes by a law
pub slice_bounds-order_tables-end : goal.slice_bounds-order_tables-end
slice_bounds-order_tables-end c = sym (length-replicate {A = ℕ} 524280 0)

pub slice_bounds-order_tables-end-2 : goal.slice_bounds-order_tables-end-2
slice_bounds-order_tables-end-2 c = refl

pub order_tables-requires : goal.order_tables-requires
order_tables-requires c = record {
  numbers_len = length-replicate {A = ℕ} 524280 0;
  in_bounds = long-enough 32767 32768 (omega arith);
}

pub slice_bounds-ordered-end : goal.slice_bounds-ordered-end
slice_bounds-ordered-end c = sym c.order_tables.ensures.long

pub invariant_of-ordered : goal.invariant_of-ordered
invariant_of-ordered c = record { ordered = c.order_tables.ensures }

pub returns-then-not-is_lawful : goal.returns-then-not-is_lawful
returns-then-not-is_lawful c =
    lawful-refused c.requires.stored _ c.requires.run_value (sym c.is_lawful.ensures ∙ c.if-not-is_lawful.true)

pub invariant_of-base : goal.invariant_of-base
invariant_of-base c = record { once = once-lawful c.starts_of-starts.ensures (sym c.is_lawful.ensures ∙ c.if-not-is_lawful.false) }

pub fill_lawful-requires : goal.fill_lawful-requires
fill_lawful-requires c = record { stored = c.requires.stored; lawful = sym c.is_lawful.ensures ∙ c.if-not-is_lawful.false }

pub returns : goal.returns
returns c = c.fill_lawful.ensures
