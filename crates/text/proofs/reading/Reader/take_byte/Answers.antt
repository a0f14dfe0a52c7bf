-- `Reader::take_byte` meets its contract, by what the byte is.
-- Assumes nothing.
use native.Mathlib.Omega.{arith}
use Rattle.text.proofs.Bytes.{blank, no-blank, digit, below-digits, above-digits, byte-failed, byte-blank, byte-digit, byte-other}
use Rattle.text.proofs.reading.Reader.take_byte.Goals as goal
use Rattle.text.proofs.reading.Reader.take_byte.Goals.{in_default-via-then-b-lt48, in_default-via-else-b-lt48+else-b-lt58}

pub returns-then-self : goal.returns-then-self
returns-then-self c = byte-failed _ c.args.self _ c.if-self.true

pub returns-in-32 : goal.returns-in-32
returns-in-32 c = byte-blank _ _ _ c.if-self.false (blank _ c.in-32.is) c.take_blank.ensures

pub returns-in-48-to-57 : goal.returns-in-48-to-57
returns-in-48-to-57 c =
    byte-digit _ _ _ c.if-self.false (no-blank _ (λ h. omega arith)) (digit _ (omega arith) (omega arith)) c.take_digit.ensures

pub returns-in_default : goal.returns-in_default
returns-in_default c =
    elim c.in_default.branch [
      | in_default-via-then-b-lt48 w ↦
          byte-other _ _ _ c.if-self.false (no-blank _ (λ h. omega arith)) (below-digits _ (omega arith)) c.broken.ensures
      | in_default-via-else-b-lt48+else-b-lt58 w ↦
          byte-other _ _ _ c.if-self.false (no-blank _ (λ h. omega arith)) (above-digits _ (omega arith)) c.broken.ensures
    ]
