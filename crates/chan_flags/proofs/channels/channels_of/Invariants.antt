use Rattle.std.proofs.Common.{◌≡◌, None, All, map}
use Rattle.freq_range.specs.Ascending.{AreAllAscending}
use Rattle.freq_range.proofs.Picked.{IsPicked}
use Rattle.chan_flags.specs.Lists.{IsRadioChannel}
use Rattle.chan_flags.proofs.channels.channels_of.Given as goal

abbrev pub invariant-loop-khz : goal.invariant-loop-khz
invariant-loop-khz l = record {
  channels : AreAllAscending (IsPicked (IsRadioChannel l.bands) l.khz-items l.khz-index) (map (λ c. c.khz) l.chans.items);
  unfit : All (λ c. c.fit ≡ None) l.chans.items;
}
