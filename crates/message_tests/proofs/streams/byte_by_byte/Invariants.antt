use Rattle.std.proofs.Common.{◌≤◌, ◌+◌, length}
use Rattle.message_tests.proofs.streams.byte_by_byte.Given as goal

abbrev pub invariant-loop-byte : goal.invariant-loop-byte
invariant-loop-byte l = l.decoder.taken + length l.decoder.held ≤ l.byte-index
