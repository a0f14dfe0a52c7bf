-- What the calls of the text print, from their contracts alone.
-- Assumes nothing.
use Prim.Native.Nat.{ℕ, zero, suc}
use mathlib.Core.Path.{◌≡◌, refl, ap, ◌∙◌, subst}
use mathlib.Core.List.{List, [], ◌∷◌, ◌++◌, map}
use borrow.Author.Tests.{eq-eqb, ne_eqb}
use Rattle.lists.specs.Lists.{Words, flat, from}
use Rattle.meaning.specs.Sheet.{sheet_of, sheet_refusal}
use Rattle.meaning.specs.Plan.{TablePlan, table_plan, good_plan, plan}
use Rattle.text.specs.Reading.{Text, Reading, read_text}
use Rattle.text.specs.Printing.{table_text, tables_text, refused_text, plan_text}
use Rattle.text.specs.Readers.{fresh, after_bytes, after_chunks}
use Rattle.text.specs.Outcomes.{plan_of_reading, plan_of_text, printed, reply_to}
use Rattle.text.specs.declared.reading.Reader.{Reader}
use Rattle.text.proofs.Answers.{chunks-reply}
use Rattle.running.specs.Texts.{NewCall, ChunkCall, ReplyCall, Read, chunk_of, text_of, Wrote-out, derived_text, Printed}

-- the reader that the reply was given has taken every chunk
reader-is : (r : Reader) (ks : List ChunkCall) (end : ReplyCall) → Read r ks end → end.args.0 ≡ after_chunks r (map chunk_of ks)
unfolding after_chunks
reader-is r [] end e = e
reader-is r (k ∷ ks) end (e, h) =
    reader-is k.result ks end h ∙ ap (λ (q : Reader). after_chunks q (map chunk_of ks)) (k.promise ∙ ap (λ (q : Reader). after_bytes q (chunk_of k)) e)

-- a line for each table
lines_are : (f : ℕ → TablePlan) (t k : ℕ) → tables_text t (map f (from t k)) ≡ flat (map (λ u. table_text u (f u)) (from t k))
unfolding tables_text
lines_are f t zero = refl
lines_are f t (suc k) = ap (λ (r : Text). table_text t (f t) ++ r) (lines_are f (suc t) k)

good-text : (sheet : Words) → sheet_refusal sheet ≡ 0 → plan_text (plan sheet) ≡ derived_text (sheet_of sheet)
unfolding plan plan_text good_plan table_text table_plan
good-text sheet e = rw (eq-eqb (sheet_refusal sheet) 0 e, lines_are (table_plan (sheet_of sheet)) 0 (sheet_of sheet).n)

refused-text : (sheet : Words) → (sheet_refusal sheet ≡ 0 → ⊥) → plan_text (plan sheet) ≡ refused_text (sheet_refusal sheet)
unfolding plan plan_text
refused-text sheet d = rw (ne_eqb (sheet_refusal sheet) 0 d, ne_eqb (sheet_refusal sheet) 0 d)

pub prints : (n : NewCall) (ks : List ChunkCall) (end : ReplyCall) → Read n.result ks end → Printed (text_of ks) end
unfolding printed plan_of_text refused_text plan_text
prints n ks end h =
    let read : end.args.0 ≡ after_chunks fresh (map chunk_of ks) =
    reader-is n.result ks end h ∙ ap (λ (q : Reader). after_chunks q (map chunk_of ks)) n.promise in
    let is : reply_to end.args.0 ≡ plan_text (plan_of_reading (read_text (text_of ks))) = ap reply_to read ∙ chunks-reply (map chunk_of ks) in
    let out : Wrote-out end (plan_text (plan_of_reading (read_text (text_of ks)))) = subst (Wrote-out end) is end.promise.0 in
    record {
      unread = λ e. subst (λ (x : Reading). Wrote-out end (plan_text (plan_of_reading x))) e out;
      refused = λ sheet e d. subst (Wrote-out end) (ap (λ (x : Reading). plan_text (plan_of_reading x)) e ∙ refused-text sheet d) out;
      plan = λ sheet e z. subst (Wrote-out end) (ap (λ (x : Reading). plan_text (plan_of_reading x)) e ∙ good-text sheet z) out;
    }
