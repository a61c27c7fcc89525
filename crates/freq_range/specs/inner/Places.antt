-- The places of channels, by which the list of all channels grows.
use Rattle.std.specs.Prelude.{ℕ, ◌+◌, ◌<◌}
use Rattle.freq_range.specs.Channels.{IsChannel}
use Rattle.freq_range.specs.declared.channel.Band.{Band}
use Rattle.freq_range.specs.declared.channel.Band.TheVariants.{Ghz2, Ghz5, Ghz6}

-- where the number n, below 234, of the band stands among the numbers of all bands
abbrev pub place : Band → ℕ → ℕ
place Ghz2 n = n
place Ghz5 n = 234 + n
place Ghz6 n = 468 + n

-- this is the centre, in kHz, of a channel before the place
abbrev pub IsChannelBefore : ℕ → ℕ → Type 0
IsChannelBefore end khz = (band : Band) × (n : ℕ) × IsChannel band n khz × (place band n < end)
