-- `store::show` meets its contract: what it hands back is the stretch that was found.
-- Assumes nothing.
use mathlib.Core.Path.{refl}
use Rattle.std.proofs.lemmas.Result.{err_from_is_err_and}
use Rattle.lists.specs.Parts.{part}
use Rattle.store.proofs.Shows.{hands-back, none-back}
use Rattle.store.proofs.show.Goals as goal

pub returns-in_err-s : goal.returns-in_err-s
returns-in_err-s c =
    let p = err_from_is_err_and c.from_residual.result c.from_residual.ensures.1 in
    rw (p.1, p.2) (none-back c.args.store _ c.in_err-s.ensures)

pub returns : goal.returns
unfolding part
returns c = hands-back _ c.in_ok-s.ensures refl refl
