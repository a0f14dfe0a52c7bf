-- What an accepted change writes: the list's part and the changed table's, one after the other.
-- Assumes nothing.
use Prim.Native.Nat.{ℕ, ◌<◌}
use mathlib.Core.Path.{◌≡◌, ap, ◌∙◌}
use Rattle.lists.specs.Lists.{Words}
use Rattle.rows.specs.Rows.{Rows}
use Rattle.meaning.specs.Sheet.{Sheet}
use Rattle.meaning.specs.Store.{store_of, model_of}
use Rattle.laws.specs.Sheets.{Good}
use Rattle.laws.proofs.Stores.{model-many}
use Rattle.places.specs.Stands.{Stands, with_part}
use Rattle.places.proofs.Models.{with-side, with-list, with-many}
use Rattle.places.proofs.Stands.{stands-words}
use Rattle.effects.specs.Applied.{done}

-- the store's words when the list and then the side table of t have got these rows
pub done-words : (s : Sheet) → Good s → (ws exit : Words) (t taken added : ℕ) → t < s.n → (side list : Rows)
    → Stands s exit (with_part (with_part (model_of s ws) s.n list) t side) → exit ≡ (done s ws t taken added side list).words
unfolding done
done-words s g ws exit t taken added l side list st =
    stands-words s g exit (with_part (with_part (model_of s ws) s.n list) t side) st
    ∙ ap (store_of s) (with-side (with_part (model_of s ws) s.n list) s.n (with-many (model_of s ws) s.n (model-many s ws) list s.n) side t l
    ∙ rw (with-list (model_of s ws) s.n (model-many s ws) list))
