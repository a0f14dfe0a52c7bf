-- Whatever the text, and however it was cut into chunks, the reply is what the definition on the whole text says.
-- Assumes nothing.
use Prim.Native.Nat.{ℕ, ◌≤◌, ◌<◌, min}
use native.Mathlib.Omega.{arith}
use mathlib.Core.Logic.{⊎_elim}
use Rattle.std.proofs.lemmas.Bool.{cases_lt}
use mathlib.Core.Path.{◌≡◌, sym, ap, ◌∙◌}
use mathlib.Core.Bool.{true, false}
use mathlib.Core.List.{List}
use lib.ListN.{length, take}
use lib.Seq.{take_all}
use Rattle.lists.specs.Lists.{Words, flat}
use Rattle.meaning.specs.Plan.{plan}
use Rattle.text.specs.Reading.{Text, says, isnt, read_text}
use Rattle.text.specs.Printing.{refused_text, plan_text}
use Rattle.text.specs.Readers.{fresh, finished, reading_of, after_bytes, after_chunks}
use Rattle.text.specs.Outcomes.{plan_of_reading, plan_of_text, printed, reply_to}
use Rattle.text.specs.declared.reading.Reader.{Reader}
use Rattle.text.proofs.Bytes.{passed, failing, any-chunks}
use Rattle.text.proofs.Texts.{reads}
use Rattle.text.proofs.Lengths.{first-enough}

-- the reply by what a finished reader holds
module _ (r q : Reader) (e : q ≡ finished r) where
  pub replies-unread : q.failed ≡ true → refused_text 1 ≡ reply_to r
  unfolding reply_to reading_of plan_text
  replies-unread f = ap (λ x. plan_text (plan_of_reading x)) (passed q.failed isnt (says (take q.many q.words)) f ∙ ap reading_of e)

  pub replies-words : q.failed ≡ false → (ws : Words) → ws ≡ take q.many q.words → plan_text (plan ws) ≡ reply_to r
  unfolding reply_to reading_of
  replies-words f ws w =
      ap (λ x. plan_text (plan_of_reading (says x))) w
      ∙ ap (λ x. plan_text (plan_of_reading x)) (failing q.failed isnt (says (take q.many q.words)) f ∙ ap reading_of e)

  -- a full reader holds all its words
  pub replies-held : q.failed ≡ false → (m : ℕ) → m ≡ min q.many 146 → length q.words ≡ 146 → plan_text (plan (take m q.words)) ≡ reply_to r
  replies-held f m k l = replies-words f (take m q.words) (⊎_elim short full (cases_lt q.many 146))
    where
      short : q.many < 146 → take m q.words ≡ take q.many q.words
      short h = let e : m ≡ q.many = omega arith in ap (λ (n : ℕ). take n q.words) e

      full : 146 ≤ q.many → take m q.words ≡ take q.many q.words
      full h = take_all m q.words (omega arith) ∙ sym (take_all q.many q.words (omega arith))

pub replies : (text : Text) → reply_to (after_bytes fresh text) ≡ printed text
unfolding reply_to printed plan_of_text
replies text = ap (λ r. plan_text (plan_of_reading r)) (reads text) ∙ ap plan_text (first-enough (read_text text))

pub chunks-reply : (chunks : List Text) → reply_to (after_chunks fresh chunks) ≡ printed (flat chunks)
chunks-reply chunks = ap reply_to (any-chunks chunks fresh) ∙ replies (flat chunks)
