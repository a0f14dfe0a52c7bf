-- `size_of` meets its contract: the product of room and columns, which is small.
-- Assumes nothing.
use native.Mathlib.Omega.{arith}
use Rattle.sheet_plan.proofs.Sizes.{size-read}
use Rattle.sheet_plan.proofs.size_of.Goals as goal

pub overflow_mul-result : goal.overflow_mul-result
overflow_mul-result c = omega (arith, (size-read _ c.requires.0 _ _ _ c.requires.1.0 c.requires.1.1.0 c.requires.1.1.1).1)

pub returns : goal.returns
returns c = size-read _ c.requires.0 _ _ _ c.requires.1.0 c.requires.1.1.0 c.requires.1.1.1
