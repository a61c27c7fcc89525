use Rattle.std.proofs.Common.{◌≤◌, ◌+◌, ◌-◌, length}
use Rattle.bench_messages.proofs.pieces.take_stream.Given as goal

-- no more is held and taken than was fed
abbrev pub invariant-reading : goal.invariant-reading
invariant-reading g l = record {
  held : l.decoder.taken + length l.decoder.held ≤ l.fed;
  few : l.fed ≤ 1073741824 + 65536;
}

abbrev pub decreases-reading : goal.decreases-reading
decreases-reading g l = 1073741824 + 65537 - l.fed
