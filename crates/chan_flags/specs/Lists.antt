-- The channels of a radio.
use Rattle.std.specs.Prelude.{ℕ, List, IsTrue}
use Rattle.freq_range.specs.Ascending.{AreAllAscending}
use Rattle.freq_range.specs.Channels.{IsChannel}
use Rattle.freq_range.specs.declared.channel.Band.{Band}
use Rattle.chan_flags.specs.Profiles.{has_band}
use Rattle.chan_flags.specs.declared.profile.Bands.{Bands}

-- the channel table has a channel with this centre, in kHz, in one of the bands
abbrev pub IsRadioChannel : Bands → ℕ → Type 0
IsRadioChannel bands khz = (band : Band) × (n : ℕ) × IsChannel band n khz × IsTrue (has_band bands band)

-- these are the centres of all channels of the bands, ascending
abbrev pub AreChannels : Bands → List ℕ → Type 0
AreChannels bands list = AreAllAscending (IsRadioChannel bands) list
