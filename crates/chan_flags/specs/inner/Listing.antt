-- The order of a radio's channels.
use Rattle.std.specs.Prelude.{◌<◌, List, map, AllPairs}
use Rattle.chan_flags.specs.declared.record.Chan.{Chan}

-- each centre is above the one before
abbrev pub AreAscending : List Chan → Type 0
AreAscending chans = AllPairs (λ low high. low < high) (map (λ chan. chan.khz) chans)
