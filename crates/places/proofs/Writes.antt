-- Writing a part of a store that stands for a model, as a loan leaves it: what stands then.
-- The premises are what the functions of `rows` ensure of a lent part.
-- Assumes nothing.
use Prim.Native.Nat.{ℕ, ◌-◌, ◌≤◌}
use mathlib.Core.Path.{◌≡◌, refl}
use native.Mathlib.Omega.{arith}
use lib.ListN.{length, set}
use borrow.Rule.Slice.PartMut.{put_mid}
use Rattle.lists.specs.Lists.{Words}
use Rattle.lists.proofs.Parts.{put_back}
use Rattle.rows.specs.Rows.{Rows}
use Rattle.rows.specs.Regions.{Holds}
use Rattle.meaning.specs.Sheet.{Sheet}
use Rattle.meaning.specs.Plan.{columns, size, start}
use Rattle.meaning.specs.Meaning.{Model}
use Rattle.laws.specs.Sheets.{Good}
use Rattle.places.specs.Stands.{slot, stop, Stands, with_part}
use Rattle.places.proofs.Stands.{stands-written}

module _ (s : Sheet) (g : Good s) (ws : Words) (m : Model) (st : Stands s ws m) where
  -- the part's places by the names that the code knows them by
  pub part-lent : (p : ℕ) → p ≤ s.n → (rows : Rows) (k : ℕ) (x : Words) (a b c : ℕ) → a ≡ start s p → b ≡ stop s p → c ≡ slot s p
      → Holds (columns s p) k rows x → length x ≡ size s p → Stands s (set (put_mid a (b - a) ws x) c k) (with_part m p rows)
  part-lent p i rows k x a b c ea eb ec h size-x =
      let l : a ≤ b = omega arith in
      rw (put_back ws a b x x l refl, ea, eb, ec) (stands-written s g ws m st p i rows k x h size-x)
