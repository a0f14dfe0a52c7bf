-- `reply` meets its contract: the text is unread, or its words are those that the reader holds.
-- Assumes nothing.
use Rattle.std.proofs.Common.{rules}
use Rattle.text.proofs.Writes.{wrote_as}
use Rattle.text.proofs.Answers.{replies-unread, replies-held}
use Rattle.text.proofs.reply.Goals as goal

pub returns-then-r-clause-put_at : goal.returns-then-r-clause-put_at
returns-then-r-clause-put_at c = wrote_as (replies-unread _ _ c.finish-r.ensures c.if-r.true) c.put_unread.ensures.put_at

pub returns-clause-put_at : goal.returns-clause-put_at
returns-clause-put_at c =
    wrote_as (replies-held _ _ c.finish-r.ensures c.if-r.false _ c.min-many.ensures (search rules)) c.put_plan_of.ensures.put_at
