use Rattle.std.proofs.Common.{◌≤◌, ◌+◌, length}
use Rattle.bench_messages.proofs.pieces.feed_all.Given as goal

-- what is left to feed has room beside what was fed
abbrev pub invariant-feeding : goal.invariant-feeding
invariant-feeding l = l.decoder.taken + length l.decoder.held + length l.rest
    ≤ l.initial.decoder.taken + length l.initial.decoder.held + length l.bytes

abbrev pub decreases-feeding : goal.decreases-feeding
decreases-feeding l = length l.rest
