-- `shows_row` meets its contract: each word of the row is the one that it would be given.
-- Assumes nothing.
use Rattle.std.proofs.Common.{rules, tests, refl, ◌∙◌, ◌+◌, ◌*◌, eqb}
use Rattle.lists.specs.Lists.{at}
use Rattle.lists.proofs.Chains.{every-from_all}
use Rattle.list_part.specs.Gives.{row_with}
use Rattle.list_part.proofs.Words.{shows-each}
use Rattle.list_part.proofs.columns.shows_row.Goals as goal

pub returns : goal.returns
returns c =
    every-from_all
    (λ k. eqb (at c.args.s.now (c.args.i * c.listed-p.result + k)) (at (row_with c.args.sheet.now c.args.t c.args.r.now c.args.i c.args.s.now) k))
    _ _ _ refl c.all.ensures.ran (λ x b q k. search (rules, tests))
    ∙ shows-each _ _ _ _ _ _ c.listed-p.ensures c.requires.sheet_in_bounds
