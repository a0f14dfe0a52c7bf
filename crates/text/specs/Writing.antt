-- What a function leaves that writes bytes or words into a lent buffer, from one place to another.
-- Assumes nothing.
use Rattle.std.specs.Prelude.{ℕ, ◌+◌, ◌≡◌, List, length}
use Rattle.std.proofs.lemmas.List.Edits.{sets}

-- in so many bytes there is room for the text of every plan
abbrev pub page : ℕ
page = 1024

-- these items stand from `at` on, up to `end`; all else is as it was
pub record PutAt {A : Type 0} (old : List A) (at : ℕ) (items : List A) (new : List A) (end : ℕ) : Type 0 where
  pub new_is : new ≡ sets old at items
  pub end_is : end ≡ at + length items
