-- What each answer says, and that no two answers say the same outcome.
-- Assumes nothing.
use Prim.Native.Nat.{ℕ}
use mathlib.Core.Path.{◌≡◌, refl, sym, ap, ◌∙◌}
use Rattle.std.specs.Prelude.{Result, Ok, Err}
use Rattle.lists.specs.Lists.{Words}
use Rattle.meaning.specs.Answers.{Outcome, refused}
use Rattle.sheet.specs.declared.refusal.Refusal.{Refusal}
use Rattle.sheet.specs.Refusals.{refusal_number}
use Rattle.sheet.proofs.Refusals.{never-zero, number-once}
use Rattle.store.specs.declared.Done.{Done}
use Rattle.store.specs.Answers.{accepts, Says}

-- two answers that say one outcome are one answer, and leave the same store
pub says-once : (o : Outcome) (a b : Result Done Refusal) (v w : Words) → Says o a v → Says o b w → (a ≡ b) × (v ≡ w)
says-once o a b v w x y = (same a b x y, x.words ∙ sym y.words)
  where
    same : (a b : Result Done Refusal) → Says o a v → Says o b w → a ≡ b
    same (Ok d) (Ok e) x y = λ i. Ok (record { taken = (x.taken ∙ sym y.taken) i; added = (x.added ∙ sym y.added) i })
    same (Ok d) (Err r) x y = absurd (never-zero r (y.number ∙ sym x.number))
    same (Err r) (Ok e) x y = absurd (never-zero r (x.number ∙ sym y.number))
    same (Err r) (Err q) x y = ap Err (number-once r q (x.number ∙ sym y.number))

-- a refusal says its outcome, with the store as it was
pub says-refused : (o : Outcome) (r : Refusal) (store : Words) → o ≡ refused (refusal_number r) store → Says o (Err r) store
says-refused o r store e = rw e (record { number = refl; taken = refl; added = refl; words = refl })

-- and so does an accepted call that counts and writes what the outcome has
pub says-done : (o : Outcome) (taken added : ℕ) (exit : Words) → o.number ≡ 0 → taken ≡ o.taken → added ≡ o.added → exit ≡ o.words
    → Says o (accepts taken added) exit
says-done o taken added exit e f g h = record { number = sym e; taken = f; added = g; words = h }
