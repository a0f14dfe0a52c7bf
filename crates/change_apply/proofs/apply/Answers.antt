-- `apply` meets its contract: each arm of the match is one kind.
-- Assumes nothing.
use Rattle.change_apply.proofs.Applying.{inserts, deletes, updates, applies}
use mathlib.Core.Path.{ap}
use Rattle.change_asked.specs.Kinds.{kind_number}
use Rattle.change_apply.proofs.apply.Goals as goal

pub insert-requires : goal.insert-requires
insert-requires c =
    record {
      ready = c.requires.ready;
      lent = inserts _ _ _ _ _ c.requires.value (ap kind_number c.in-Insert.is);
    }

pub delete-requires : goal.delete-requires
delete-requires c =
    record {
      ready = c.requires.ready;
      lent = deletes _ _ _ _ _ c.requires.value (ap kind_number c.in-Delete.is);
    }

pub update-requires : goal.update-requires
update-requires c =
    let both = updates _ _ _ _ _ c.requires.value c.requires.ready.planned.good (ap kind_number c.in-Update.is) in
    record {
      ready = c.requires.ready;
      lent = both.0;
      lent_2 = both.1.0;
      tied = both.1.1;
    }

pub returns-in-Insert : goal.returns-in-Insert
returns-in-Insert c =
    applies _ _ _ _ _ c.requires.value _ _ c.requires.ready _ _ 1 (ap kind_number c.in-Insert.is) (c.insert.ensures.says _)

pub returns-in-Delete : goal.returns-in-Delete
returns-in-Delete c =
    applies _ _ _ _ _ c.requires.value _ _ c.requires.ready _ _ 2 (ap kind_number c.in-Delete.is) (c.delete.ensures.says _)

pub returns-in-Update : goal.returns-in-Update
returns-in-Update c =
    applies _ _ _ _ _ c.requires.value _ _ c.requires.ready _ _ 3 (ap kind_number c.in-Update.is) c.update.ensures.says
