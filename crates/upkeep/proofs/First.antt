-- Demand 1: every call's number is that of its first test that is not passed, and a refused call alters nothing.
-- Assumes nothing.
use mathlib.Core.Path.{ap}
use Rattle.meaning.specs.Demands.{Demand1}
use Rattle.laws.proofs.Numbers.{change-first, change-refused, fill-first, fill-refused, show-first, show-refused, plan-first, plan-refused}

pub demand1 : Demand1
demand1 =
    record {
      changes = λ sheet store c. record {
        number = change-first sheet store c;
        taken = λ d. ap (λ o. o.taken) (change-refused sheet store c d);
        added = λ d. ap (λ o. o.added) (change-refused sheet store c d);
        words = λ d. ap (λ o. o.words) (change-refused sheet store c d);
      };
      fills = λ sheet store run. record {
        number = fill-first sheet store run;
        taken = λ d. ap (λ o. o.taken) (fill-refused sheet store run d);
        added = λ d. ap (λ o. o.added) (fill-refused sheet store run d);
        words = λ d. ap (λ o. o.words) (fill-refused sheet store run d);
      };
      shows = λ sheet store part. record { number = show-first sheet store part; words = show-refused sheet store part };
      plans = λ sheet. record { number = plan-first sheet; fields = plan-refused sheet };
    }
