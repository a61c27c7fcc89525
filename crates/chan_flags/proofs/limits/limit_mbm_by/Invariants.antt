use Rattle.std.proofs.Common.{◌≡◌, ℕ, ◌<◌, ◌≤◌, ◌⊎◌}
use Rattle.chan_def.specs.Covered.{width_khz, IsCovered, IsSubchannel}
use Rattle.chan_flags.specs.ByRecords.{chan_with_centre, FitHas, IfFit}
use Rattle.chan_flags.proofs.limits.limit_mbm_by.Given as goal

abbrev pub invariant-loop-i : goal.invariant-loop-i
invariant-loop-i l = record {
  radio : l.limit_mbm ≤ l.asked.profile.power_mbm;
  records : (s j : ℕ) → j < l.i → IsSubchannel (width_khz l.asked.chan.width) l.asked.chan.centre_khz j s
      → IfFit (λ fit. l.limit_mbm ≤ fit.limit_mbm) (chan_with_centre l.chans s);
  least : (l.limit_mbm ≡ l.asked.profile.power_mbm)
      ⊎ ((s : ℕ) × IsCovered l.asked.chan s × FitHas (λ fit. l.limit_mbm ≡ fit.limit_mbm) (chan_with_centre l.chans s));
}
