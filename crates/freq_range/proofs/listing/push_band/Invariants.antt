use Rattle.freq_range.specs.Ascending.{AreAllAscending}
use Rattle.freq_range.specs.inner.Places.{place, IsChannelBefore}
use Rattle.freq_range.proofs.listing.push_band.Given as goal

abbrev pub invariant-loop-n : goal.invariant-loop-n
invariant-loop-n l = AreAllAscending (IsChannelBefore (place l.band 0)) l.initial.centres → AreAllAscending (IsChannelBefore (place l.band l.n)) l.centres
