-- The loop's invariant: the places of the numbers before k are marked.
-- Assumes nothing.
use Rattle.std.proofs.Common.{◌≡◌, ℕ, ◌+◌, ◌*◌, ◌<◌}
use Rattle.sheet_plan.specs.Marked.{marked_by}
use Rattle.sheet_plan.proofs.mark_each.Given as goal

abbrev pub invariant-loop-k : goal.invariant-loop-k
invariant-loop-k g l =
    (f : ℕ → ℕ) → ((k : ℕ) (r : ℕ × ℕ) → k < l.n → goal.P-post g l.place k r → 8 * r.0 + r.1 ≡ f k) → l.m ≡ marked_by f l.k l.fn.m
