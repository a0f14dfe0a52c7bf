-- The calls of the text as they ran: a fresh reader took a text chunk by chunk, and the reply wrote what is printed for it.
-- Assumes nothing.
use Rattle.std.specs.Prelude.{◌≡◌, cond, List, [], ◌∷◌, ◌++◌, map}
use Rattle.lists.specs.Lists.{Words, flat}
use Rattle.lists.specs.Totals.{one}
use Rattle.meaning.specs.Sheet.{Sheet, sheet_of, sheet_refusal, tables}
use Rattle.meaning.specs.Plan.{root, kept, shown, dep, need, in_order, store_length}
use Rattle.meaning.specs.Demands.{Refused}
use Rattle.text.specs.Reading.{Text, says, isnt, read_text}
use Rattle.text.specs.Printing.{line_text, head_text, refused_text}
use Rattle.text.specs.Writing.{PutAt}
use Rattle.text.specs.declared.reading.Reader.{Reader}
use Rattle.text.specs.contracts.reading.Reader.new as new
use Rattle.text.proofs.reading.Reader.new.Reads as new-reads
use Rattle.text.specs.contracts.reading.Reader.take_chunk as take-chunk
use Rattle.text.proofs.reading.Reader.take_chunk.Reads as take-chunk-reads
use Rattle.text.specs.contracts.reply as reply
use Rattle.text.proofs.reply.Reads as reply-reads
use Rattle.running.specs.Calls.{Call, TakesAny}

abbrev pub NewCall : Type 0
NewCall = Call new.ended new-reads.Learnt

abbrev pub ChunkCall : Type 0
ChunkCall = Call take-chunk.ended take-chunk-reads.Learnt

abbrev pub ReplyCall : Type 0
ReplyCall = Call reply.ended reply-reads.Learnt

abbrev pub TextsTakeAny : Type 0
TextsTakeAny = TakesAny new.ended new-reads.Asked × TakesAny take-chunk.ended take-chunk-reads.Asked × TakesAny reply.ended reply-reads.Asked

-- each chunk went to the reader that the call before it gave, and the reply to the last
abbrev pub Read : Reader → List ChunkCall → ReplyCall → Type 0
Read r [] end = end.args.0 ≡ r
Read r (k ∷ ks) end = (k.args.0 ≡ r) × Read k.result ks end

abbrev pub chunk_of : ChunkCall → Text
chunk_of k = k.args.1.0.now

abbrev pub text_of : List ChunkCall → Text
text_of ks = flat (map chunk_of ks)

-- the reply wrote these bytes from the buffer's first on, and left the rest as it was
abbrev pub Wrote-out : ReplyCall → Text → Type 0
Wrote-out k bytes = PutAt k.args.1.0.now 0 bytes k.exit.1.0.now k.result

-- "table, kept or not, shown columns, Dep, Need", as Algorithm 3.1 derives them
abbrev pub derived_text : Sheet → Text
derived_text s =
    head_text (root s) (store_length s)
    ++ flat (map (λ t. line_text t (one (kept s t)) (cond (kept s t) (shown s t) []) (in_order s (dep s t)) (in_order s (need s t))) (tables s))

-- what is printed for a text: by the words that it says, if it says such numbers
pub record Printed (text : Text) (end : ReplyCall) : Type 0 where
  pub unread : read_text text ≡ isnt → Wrote-out end (refused_text 1)
  pub refused : (sheet : Words) → read_text text ≡ says sheet → Refused (sheet_refusal sheet) → Wrote-out end (refused_text (sheet_refusal sheet))
  pub plan : (sheet : Words) → read_text text ≡ says sheet → sheet_refusal sheet ≡ 0 → Wrote-out end (derived_text (sheet_of sheet))
