-- A change of any kind below its tests 1 to 7, by its effect: refused with 8, refused with 9, accepted with nothing changed, or accepted and done.
-- Assumes nothing.
use Prim.Native.Nat.{ℕ, ◌<◌, ◌≤◌}
use mathlib.Core.Path.{◌≡◌, refl, ap, ◌∙◌}
use mathlib.Core.Bool.{Bool, true, false, cond, ◌&&◌}
use mathlib.Core.List.{[]}
use mathlib.Core.Logic.{◌⊎◌, inl, inr}
use lib.Dec.{T, leb}
use lib.ListN.{length}
use lib.Seq.{set-get_or}
use borrow.Author.Tests.{lt-leb, le-leb}
use Rattle.lists.specs.Lists.{Words}
use Rattle.rows.specs.Rows.{Rows, put_rows, take_rows}
use Rattle.meaning.specs.Answers.{contradiction, no_room, refused}
use Rattle.meaning.specs.Sheet.{Sheet, room}
use Rattle.meaning.specs.Base.{Tables, Change}
use Rattle.meaning.specs.Store.{store_of, model_of, sound, fits}
use Rattle.meaning.specs.Change.{Effect, no_effect, effect, after, agrees, model_after, accepted}
use Rattle.laws.specs.Sheets.{Good}
use Rattle.laws.proofs.Stores.{model-many, sound-fits, store-back}
use Rattle.laws.proofs.Changes.{side_after}
use Rattle.effects.specs.Applied.{applied, done, nothing}
use Rattle.effects.proofs.Rooms.{list_after, fits_after, side-room, list-room}

module _ (s : Sheet) (g : Good s) (ws : Words) (ok : T (sound s ws)) (c : Change) (l : c.table < s.n) where
  pub applied-contradicts : agrees s (model_of s ws) c ≡ false → applied s ws c ≡ refused contradiction ws
  unfolding applied
  applied-contradicts e = rw e

  -- the room after the change
  fits_by : (x : Effect) → effect s (model_of s ws) c ≡ x
      → fits s (model_after s ws c)
      ≡ leb (length (side_after (model_of s ws) c.table x)) (room s c.table) && leb (length (list_after (model_of s ws) x)) (room s s.n)
  unfolding model_after
  fits_by x e =
      ap (λ x. fits s (after (model_of s ws) c.table x)) e
      ∙ fits_after s (model_of s ws) (model-many s ws) (sound-fits s g ws ok) c.table l x

  module _ (agree : agrees s (model_of s ws) c ≡ true) (x : Effect) (e : effect s (model_of s ws) c ≡ x) where
    pub applied-no-room : (room s c.table < length (side_after (model_of s ws) c.table x)) ⊎ (room s s.n < length (list_after (model_of s ws) x))
        → applied s ws c ≡ refused no_room ws
    unfolding applied
    applied-no-room h = rw (agree, fits_by x e) (go h)
      where
        side : ℕ
        side = length (side_after (model_of s ws) c.table x)

        list : ℕ
        list = length (list_after (model_of s ws) x)

        go : (room s c.table < side) ⊎ (room s s.n < list)
            → cond (leb side (room s c.table) && leb list (room s s.n)) (accepted s ws c) (refused no_room ws) ≡ refused no_room ws
        go (inl h) = rw (lt-leb side (room s c.table) h)
        go (inr h) = rw (lt-leb list (room s s.n) h) (neither (leb side (room s c.table)))
          where
            neither : (a : Bool) → cond (a && false) (accepted s ws c) (refused no_room ws) ≡ refused no_room ws
            neither true = refl
            neither false = refl

    pub applied-done : length (side_after (model_of s ws) c.table x) ≤ room s c.table → length (list_after (model_of s ws) x) ≤ room s s.n
        → applied s ws c ≡ done s ws c.table (length x.list_out) (length x.list_in) (side_after (model_of s ws) c.table x) (list_after (model_of s ws) x)
    unfolding applied accepted done model_after after
    applied-done h k =
        rw (
          agree,
          fits_by x e,
          le-leb (length (side_after (model_of s ws) c.table x)) (room s c.table) h,
          le-leb (length (list_after (model_of s ws) x)) (room s s.n) k,
        )
        (ap
        (λ (x : Effect). done s ws c.table (length x.list_out) (length x.list_in) (side_after (model_of s ws) c.table x) (list_after (model_of s ws) x))
        e)

  -- a change without an effect leaves every word as it was
  pub applied-nothing : agrees s (model_of s ws) c ≡ true → effect s (model_of s ws) c ≡ no_effect → applied s ws c ≡ nothing ws
  unfolding done put_rows take_rows
  applied-nothing agree e =
      applied-done agree no_effect e (side-room s g ws ok c.table l) (list-room s g ws ok)
      ∙ ap (λ (w : Words). nothing w)
      (ap (λ (sides : Tables). store_of s (record { sides = sides; list = (model_of s ws).list })) (set-get_or (model_of s ws).sides c.table [])
      ∙ store-back s g ws ok)

-- the same counts and rows
pub done-same : (s : Sheet) (ws : Words) (t : ℕ) {taken taken' added added' : ℕ} {side side' list list' : Rows} → taken ≡ taken' → added ≡ added' → side ≡ side'
    → list ≡ list' → done s ws t taken added side list ≡ done s ws t taken' added' side' list'
done-same s ws t a b c d = rw (a, b, c, d)
