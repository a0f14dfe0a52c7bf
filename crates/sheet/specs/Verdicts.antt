-- What the check answers: nothing that stands in the way, or the refusal.
-- Assumes nothing.
use Rattle.std.specs.Prelude.{cond, eqb, Result, Ok, Err, ⊤}
use Rattle.lists.specs.Lists.{Words}
use Rattle.meaning.specs.Sheet.{sheet_refusal}
use Rattle.sheet.specs.declared.refusal.Refusal.{Refusal}
use Rattle.sheet.specs.Refusals.{refusal_of}

unfoldable pub verdict_of : Words → Result ⊤ Refusal
verdict_of ws = cond (eqb (sheet_refusal ws) 0) (Ok tt) (Err (refusal_of (sheet_refusal ws)))
