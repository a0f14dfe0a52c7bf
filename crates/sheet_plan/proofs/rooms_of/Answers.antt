-- `rooms_of` meets its contract.
-- Assumes nothing.
use Rattle.std.proofs.Common.{rules, arith}
use Rattle.sheet.proofs.Words.{n-is}
use Rattle.sheet_plan.specs.Plans.{room_at, rooms_of}
use Rattle.sheet_plan.proofs.Sizes.{room-read}
use Rattle.sheet_plan.proofs.FromFn.{filled-from_from_fn}
use Rattle.sheet_plan.proofs.rooms_of.Goals as goal

pub returns : goal.returns
unfolding rooms_of
returns c =
    filled-from_from_fn _ _ (room_at _) _ _ 9 c.from_fn.ensures.items
    (omega (arith, n-is c.args.sheet.now, c.requires.tables-few)) (λ k r q s. search (rules, n-is c.args.sheet.now, room-read))
