-- `verdict_of` meets its contract: the three tests are those of `sheet_refusal`, in order.
-- Assumes nothing.
use mathlib.Core.Path.{sym, ◌∙◌}
use Rattle.sheet.proofs.Facts.{counts-facts, rules}
use Rattle.sheet.proofs.Good.{refused-counts, refused-words, refused-tree, passed}
use Rattle.sheet.proofs.verdict_of.Goals as goal

pub returns-then-not-counts_ok : goal.returns-then-not-counts_ok
returns-then-not-counts_ok c = refused-counts _ (sym c.counts_ok.ensures ∙ c.if-not-counts_ok.true)

pub words_ok-requires : goal.words_ok-requires
words_ok-requires c = counts-facts _ (sym c.counts_ok.ensures ∙ c.if-not-counts_ok.false)

pub returns-then-not-words_ok : goal.returns-then-not-words_ok
returns-then-not-words_ok c =
    refused-words _ (sym c.counts_ok.ensures ∙ c.if-not-counts_ok.false)
    (sym c.words_ok.ensures ∙ c.if-not-words_ok.true)

pub tree_ok-requires : goal.tree_ok-requires
tree_ok-requires c =
    rules _ (counts-facts _ (sym c.counts_ok.ensures ∙ c.if-not-counts_ok.false))
    (sym c.words_ok.ensures ∙ c.if-not-words_ok.false)

pub returns-then-not-tree_ok : goal.returns-then-not-tree_ok
returns-then-not-tree_ok c =
    refused-tree _ (sym c.counts_ok.ensures ∙ c.if-not-counts_ok.false)
    (sym c.words_ok.ensures ∙ c.if-not-words_ok.false) (sym c.tree_ok.ensures ∙ c.if-not-tree_ok.true)

pub returns : goal.returns
returns c =
    passed _ (sym c.counts_ok.ensures ∙ c.if-not-counts_ok.false)
    (sym c.words_ok.ensures ∙ c.if-not-words_ok.false) (sym c.tree_ok.ensures ∙ c.if-not-tree_ok.false)
