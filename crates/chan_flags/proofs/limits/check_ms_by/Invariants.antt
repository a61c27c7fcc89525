use Rattle.std.proofs.Common.{◌≡◌, ℕ, ◌<◌, ◌≤◌, ◌⊎◌, IsTrue}
use Rattle.chan_def.specs.Covered.{width_khz, IsCovered, IsSubchannel}
use Rattle.chan_flags.specs.ByRecords.{chan_with_centre, FitHas, IfFit}
use Rattle.chan_flags.proofs.limits.check_ms_by.Given as goal

abbrev pub invariant-loop-i : goal.invariant-loop-i
invariant-loop-i l = record {
  records : (s j : ℕ) → j < l.i → IsSubchannel (width_khz l.asked.chan.width) l.asked.chan.centre_khz j s
      → IfFit (λ fit. IsTrue fit.flags.dfs → fit.check_ms ≤ l.length_ms) (chan_with_centre l.chans s);
  greatest : (l.length_ms ≡ 0)
      ⊎ ((s : ℕ) × IsCovered l.asked.chan s × FitHas (λ fit. IsTrue fit.flags.dfs × (l.length_ms ≡ fit.check_ms)) (chan_with_centre l.chans s));
}
