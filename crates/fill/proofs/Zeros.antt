-- The length of a local array of zeros, which is not computed.
-- Assumes nothing.
use Prim.Native.Nat.{ℕ, ◌≤◌}
use native.Mathlib.Omega.{arith}
use lib.ListN.{length, replicate, length-replicate}

pub long-enough : (k n : ℕ) → k ≤ n → k ≤ length (replicate {A = ℕ} n 0)
long-enough k n h = omega (arith, length-replicate {A = ℕ} n 0)
