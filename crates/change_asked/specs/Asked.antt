-- Refusals 5 and 6 by number: what a change asks, against the sheet alone.
-- Assumes nothing.
use Rattle.std.specs.Prelude.{ℕ, Bool, cond, not, ◌&&◌, ◌||◌, Result, Ok, Err, ⊤, eqb, length}
use Rattle.lists.specs.Lists.{Words, at}
use Rattle.lists.specs.Loops.{every}
use Rattle.rows.specs.Rows.{Row, key}
use Rattle.meaning.specs.Sheet.{sheet_of}
use Rattle.meaning.specs.Base.{Change, good_change, tied, tied_stay}
use Rattle.sheet.specs.Numbered.{condition_no}
use Rattle.sheet.specs.declared.refusal.Refusal.{Refusal}
use Rattle.sheet.specs.declared.refusal.Refusal.TheVariants.{BadRequest, AltersTied}

-- condition i is on column c of table t
unfoldable pub condition_on : Words → ℕ → ℕ → ℕ → Bool
condition_on ws t c i = eqb (condition_no ws i).table t && eqb (condition_no ws i).column c

-- column c of table t is tied
unfoldable pub tied_no : Words → ℕ → ℕ → Bool
tied_no ws t c = tied (sheet_of ws) t c

-- it is not, or r and r' have the same value there
unfoldable pub stays_at : Words → ℕ → Row → Row → ℕ → Bool
stays_at ws t r r' c = not (tied_no ws t c) || eqb (at r c) (at r' c)

-- the rows of an insert or a delete by their lengths, and those of an update
unfoldable pub one_row : ℕ → ℕ → ℕ → Result ⊤ Refusal
one_row unused row w = cond (eqb unused 0 && eqb row w) (Ok tt) (Err BadRequest)

unfoldable pub two_rows : Words → ℕ → Row → Row → ℕ → Result ⊤ Refusal
two_rows ws t r r' w =
    cond (eqb (length r) w && eqb (length r') w && eqb (key r) (key r'))
    (cond (every (stays_at ws t r r') (length r)) (Ok tt) (Err AltersTied)) (Err BadRequest)

-- tests 5 and 6
unfoldable pub asked_of : Words → Change → Result ⊤ Refusal
asked_of ws c = cond (good_change (sheet_of ws) c) (cond (tied_stay (sheet_of ws) c) (Ok tt) (Err AltersTied)) (Err BadRequest)
