use Rattle.std.proofs.Common.{◌≡◌, ◌-◌, ◌≤◌, length, map, take}
use Rattle.core_parts.proofs.radio.centres_of.Given as goal

abbrev pub invariant-channels : goal.invariant-channels
invariant-channels l = record {
  centres : l.centres.items ≡ map (λ c. c.khz) (take l.i l.chans.chans);
  within : l.i ≤ length l.chans.chans;
}

abbrev pub decreases-channels : goal.decreases-channels
decreases-channels l = length l.chans.chans - l.i
