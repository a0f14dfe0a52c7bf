-- The loop's invariant: the reader is the state after the bytes passed so far.
-- Assumes nothing.
use Rattle.std.proofs.Common.{◌≡◌}
use lib.ListN.{take}
use Rattle.text.specs.Readers.{after_bytes}
use Rattle.text.proofs.reading.Reader.take_chunk.Given as goal

abbrev pub invariant-loop-byte : goal.invariant-loop-byte
invariant-loop-byte l = l.self ≡ after_bytes l.fn.self (take l.byte-index l.chunk)
