-- A run whose counts are good passes their test.
-- Assumes nothing.
use Prim.Native.Nat.{ℕ, zero, suc, ◌<◌, ◌≤◌}
use mathlib.Core.Path.{◌≡◌, refl, sym, ap₂, ◌∙◌}
use mathlib.Core.Bool.{true, ◌&&◌}
use native.Mathlib.Omega.{arith}
use lib.ListN.{length}
use borrow.Author.Tests.{le-leb, eq-eqb}
use Rattle.lists.specs.Lists.{Words, at}
use Rattle.lists.specs.Loops.{every}
use Rattle.meaning.specs.Sheet.{Sheet}
use Rattle.meaning.specs.Base.{base_start}
use Rattle.filling.specs.Runs.{few_rows, good_run, Run}
use Rattle.filling.proofs.Runs.{run_is}

every-few : (run : Words) (n : ℕ) → ((t : ℕ) → t < n → at run t ≤ 65535) → every (few_rows run) n ≡ true
unfolding every few_rows
every-few run zero h = refl
every-few run (suc n) h = ap₂ ◌&&◌ (every-few run n (λ t l. h t (omega arith))) (le-leb (at run n) 65535 (h n (omega arith)))

pub run-good : (s : Sheet) (run : Words) → Run s run → good_run s run ≡ true
run-good s run r =
    sym (run_is s run (base_start s run s.n) refl (every-few run s.n r.few)) ∙ eq-eqb (length run) (base_start s run s.n) r.long
