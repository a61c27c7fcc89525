use Rattle.std.proofs.Common.{◌≡◌, ◌+◌, length}
use Rattle.message_tests.proofs.streams.take_all.Given as goal

-- what is taken is no longer held
abbrev pub invariant-taking : goal.invariant-taking
invariant-taking l = l.decoder.taken + length l.decoder.held ≡ l.initial.decoder.taken + length l.initial.decoder.held

abbrev pub decreases-taking : goal.decreases-taking
decreases-taking l = length l.decoder.held
