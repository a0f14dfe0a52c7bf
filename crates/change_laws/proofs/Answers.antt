-- The answers of a change below its tests, by its outcome.
-- Assumes nothing.
use Prim.Native.Nat.{ℕ}
use mathlib.Core.Path.{◌≡◌, refl, ap, ◌∙◌}
use Rattle.std.specs.Prelude.{Option, None, Result, Err}
use Rattle.std.specs.Option.{ok_or}
use Rattle.std.proofs.lemmas.Result.{IfErr-at_err}
use Rattle.sheet.specs.declared.refusal.Refusal.{Refusal}
use Rattle.lists.specs.Lists.{Words}
use Rattle.rows.specs.Rows.{Rows}
use Rattle.meaning.specs.Answers.{Outcome}
use Rattle.meaning.specs.Sheet.{Sheet}
use Rattle.effects.specs.Applied.{done, nothing}
use Rattle.store.specs.Answers.{accepts, Says}
use Rattle.store.proofs.Answers.{says-done}

-- where a count is none, what `ok_or` refuses by is what it was given
pub refused-by : {A : Type 0} (o : Option A) (e f : Refusal) → ◌≡◌ {A = Result A Refusal} (Err e) (ok_or o f) → o ≡ None → e ≡ f
refused-by o e f h n = IfErr-at_err (λ x. e ≡ x) (h ∙ ap (λ o. ok_or o f) n) refl

-- nothing changes
pub says_nothing : (o : Outcome) (store : Words) → o ≡ nothing store → Says o (accepts 0 0) store
says_nothing o store e = rw e (says-done (nothing store) 0 0 store refl refl refl refl)

-- it is done, and these rows stand in its side table and on the list
pub says_all : (s : Sheet) (store : Words) (t k j : ℕ) (side list : Rows) (o : Outcome) (taken added : ℕ) (exit : Words)
    → o ≡ done s store t k j side list → taken ≡ k → added ≡ j → exit ≡ (done s store t k j side list).words → Says o (accepts taken added) exit
unfolding done
says_all s store t k j side list o taken added exit e f g h = rw e (says-done (done s store t k j side list) taken added exit refl f g h)
