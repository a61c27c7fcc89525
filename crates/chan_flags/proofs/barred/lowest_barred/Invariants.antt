use Rattle.std.proofs.Common.{ℕ, ◌<◌}
use Rattle.chan_def.specs.Covered.{width_khz, IsSubchannel}
use Rattle.chan_flags.specs.ByRecords.{BarsBy}
use Rattle.chan_flags.proofs.barred.lowest_barred.Given as goal

abbrev pub invariant-loop-i : goal.invariant-loop-i
invariant-loop-i l = (s j : ℕ) → j < l.i → IsSubchannel (width_khz l.asked.chan.width) l.asked.chan.centre_khz j s → BarsBy l.chans l.asked l.obstacle s → ⊥
