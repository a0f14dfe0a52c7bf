-- The reader's state after a byte, and after all the bytes so far: one function of these, however they were cut into chunks.
-- Assumes nothing.
use Rattle.std.specs.Prelude.{ℕ, ◌+◌, ◌-◌, ◌*◌, ◌^◌, Bool, true, false, cond, Some, None, List, [], ◌∷◌, ltb, take, set, replicate}
use Rattle.std.specs.Option.{is_some, unwrap_or}
use Rattle.text.specs.Reading.{Text, is_blank, is_digit, Reading, says, isnt}
use Rattle.text.specs.declared.reading.Reader.{Reader}

-- A sheet has at most 145 words: one more is kept, so that a text that says too many is still known by its length
abbrev pub most : ℕ
most = 146

-- nothing read yet
abbrev pub fresh : Reader
fresh = record { words = replicate most 0; many = 0; number = None; failed = false }

-- a number has begun; the number in hand, 0 if none has
abbrev pub has_begun : Reader → Bool
has_begun r = is_some r.number

abbrev pub hand : Reader → ℕ
hand r = unwrap_or r.number 0

-- text that isn't such numbers
unfoldable pub broken : Reader → Reader
broken r = record { words = r.words; many = r.many; number = None; failed = true }

-- nothing in hand
unfoldable pub emptied : Reader → Reader
emptied r = record { words = r.words; many = r.many; number = None; failed = r.failed }

-- the number in hand is one of the words
unfoldable pub noted : Reader → Reader
noted r = record { words = set r.words r.many (hand r); many = r.many + 1; number = None; failed = r.failed }

-- the number in hand has ended, and is kept while there is room
unfoldable pub after_blank : Reader → Reader
after_blank r = cond (has_begun r) (cond (ltb r.many most) (noted r) (emptied r)) r

-- the number in hand with one digit more
unfoldable pub longer : Reader → ℕ → Reader
longer r d = record { words = r.words; many = r.many; number = Some (hand r * 10 + d); failed = r.failed }

-- if that still has 64 bits
unfoldable pub after_digit : Reader → ℕ → Reader
after_digit r d = cond (ltb (hand r * 10 + d) (2 ^ 64)) (longer r d) (broken r)

unfoldable pub after_byte : Reader → ℕ → Reader
after_byte r b =
    cond r.failed r
    (cond (is_blank b) (after_blank r)
    (cond (is_digit b) (after_digit r (b - 48)) (broken r)))

unfoldable pub after_bytes : Reader → Text → Reader
after_bytes r [] = r
after_bytes r (b ∷ bs) = after_bytes (after_byte r b) bs

-- the same, chunk by chunk
unfoldable pub after_chunks : Reader → List Text → Reader
after_chunks r [] = r
after_chunks r (chunk ∷ chunks) = after_chunks (after_bytes r chunk) chunks

-- at the text's end the number in hand has ended: a newline more says the same
unfoldable pub finished : Reader → Reader
finished r = after_byte r 10

-- what a finished reader has read
unfoldable pub reading_of : Reader → Reading
reading_of r = cond r.failed isnt (says (take r.many r.words))

-- the first words that a text says, as many as a reader keeps
unfoldable pub first_words : Reading → Reading
first_words (says ws) = says (take most ws)
first_words isnt = isnt
