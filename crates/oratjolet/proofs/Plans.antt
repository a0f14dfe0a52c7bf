-- The exported plan call: its words, written over as many, are the answer.
-- Assumes nothing.
use Prim.Native.Nat.{ℕ}
use mathlib.Core.Path.{◌≡◌, refl, sym, ap, ◌∙◌}
use mathlib.Core.List.{List, ◌++◌, append-nil}
use native.Mathlib.Nat.{zero-add}
use native.Mathlib.Omega.{arith}
use lib.ListN.{length, get_or, set, replicate}
use lib.Seq.{sets-eq, drop-length, ext_get_or}
use denote.Param.Members.{Mut, Called}
use Rattle.std.specs.Array.{IsMapOf}
use Rattle.std.specs.Prelude.{Result, Ok, Err}
use Rattle.laws.proofs.Numbers.{plan-number}
use Rattle.sheet.specs.declared.refusal.Refusal.{Refusal}
use Rattle.sheet.specs.Refusals.{refusal_number, number_of}
use Rattle.plan_answer.proofs.Laid.{planned-number}
use Rattle.lists.specs.Lists.{Words}
use Rattle.meaning.specs.Plan.{plan}
use Rattle.text.specs.Writing.{PutAt}
use Rattle.plan_answer.specs.Answers.{answer_of}
use Rattle.plan_answer.specs.declared.PlanAnswer.{PlanAnswer}
use Rattle.oratjolet.specs.Exports.{plan_length, plan_words, PlanLeft}

-- words written over as many words are all that stands there
pub wrote-all : (old new : Words) (ws : Words) (end : ℕ) → end ≡ length old → PutAt old 0 ws new end → new ≡ ws
wrote-all old new ws end e w =
    let l : length ws ≡ length old = omega (arith, w.end_is) in
    w.new_is ∙ sets-eq ws old 0 (omega arith) ∙ ap (λ (r : Words). ws ++ r) (rw (zero-add (length ws), l) (drop-length old)) ∙ append-nil ws

-- a plan written, and a refusal's number over zeros
pub put-good : (old new : Words) (a : PlanAnswer) (end : ℕ) → length old ≡ plan_length → PutAt old 0 (plan_words (Ok a)) new end → end ≡ plan_length
    → new ≡ plan_words (Ok a)
put-good old new a end l w e = wrote-all old new (plan_words (Ok a)) end (e ∙ sym l) w

pub put-refused : (r : Refusal) (zeros : Words) (n k : ℕ) → zeros ≡ replicate n 0 → n ≡ plan_length → k ≡ refusal_number r
    → set zeros 0 k ≡ plan_words (Err r)
unfolding plan_words
put-refused r zeros n k z l e = rw (z, l, e)

first-word : (a : Result PlanAnswer Refusal) → get_or (plan_words a) 0 0 ≡ number_of a
unfolding plan_words
first-word (Ok a) = refl
first-word (Err r) = refl

pub planned-is : (sheet new : Words) (a : Result PlanAnswer Refusal) → a ≡ answer_of (plan sheet) → new ≡ plan_words a
    → PlanLeft sheet (get_or new 0 0) new
planned-is sheet new a e w =
    record {
      number_is = ap (λ (ws : Words). get_or ws 0 0) w ∙ first-word a ∙ ap number_of e ∙ planned-number sheet ∙ sym (plan-number sheet);
      words_are = w ∙ ap plan_words e;
    }

-- `map` with a closure that gives the number itself
pub mapped-same : {F : Type 0} (g : Mut F (ℕ × Unit {0}) ℕ) (f : F) (xs ys : List ℕ) (n : ℕ) → IsMapOf g f xs ys n → length xs ≡ n
    → ((x r : ℕ) (p q : F) → Called g p (x, tt) r q → r ≡ x) → ys ≡ xs
mapped-same g f xs ys n made l says =
    ext_get_or 0 ys xs (made.long ∙ sym l) (λ i h. let m = made.at i 0 0 (omega (arith, made.long)) in says _ _ m.0 m.1 m.2)
