-- `put_number` meets its contract: a number's last digit after the others, which are a tenth of it.
-- Assumes nothing.
use Rattle.text.proofs.Writes.{wrote-digit, wrote-number, tens-fit}
use borrow.Author.Rules.{rules}
use native.Mathlib.Omega.{arith}
use Rattle.text.proofs.printing.+put_number.Goals as goal

pub returns-then-n-lt10-clause-put_at : goal.returns-then-n-lt10-clause-put_at
returns-then-n-lt10-clause-put_at t c = wrote-digit _ _ _ c.if-n-lt10.true

pub bounds-out-end : goal.bounds-out-end
bounds-out-end t c = tens-fit _ _ _ _ _ c.if-n-lt10.false (search rules) c.put_number-end.ensures.put_at c.requires

pub overflow_add-result-2 : goal.overflow_add-result-2
overflow_add-result-2 t c = omega (arith, tens-fit _ _ _ _ _ c.if-n-lt10.false (search rules) c.put_number-end.ensures.put_at c.requires)

pub returns : goal.returns
returns t c =
    let both = wrote-number _ _ _ _ _ c.if-n-lt10.false (search rules) c.put_number-end.ensures.put_at in
    record { put_at = both.0; upper_bound = both.1 }
