-- How radios, codes, bands, kinds and channels are spelled.
use Rattle.std.specs.Prelude.{ℕ, ◌/◌, Bool, true, false, List, [], ◌∷◌, ◌++◌, codes, decimal}
use Rattle.rule_tables.specs.declared.code.Alpha2.{Alpha2}
use Rattle.chan_def.specs.declared.definition.ChanDef.{ChanDef}
use Rattle.chan_def.specs.declared.kind.Kind.{Kind}
use Rattle.chan_def.specs.declared.kind.Kind.TheVariants.{Ap, Ibss, Mesh, Station, Monitor}
use Rattle.chan_def.specs.declared.width.Width.{Width}
use Rattle.chan_def.specs.declared.width.Width.TheVariants.{Noht, W20, W40, W80, W160, W320}
use Rattle.chan_flags.specs.declared.profile.Bands.{Bands}

-- `phy0` to `phy7`
abbrev pub radio_text : ℕ → List ℕ
radio_text radio = codes "phy" ++ decimal radio

-- a code is spelled by its two bytes
abbrev pub code_text : Alpha2 → List ℕ
code_text code = code.a ∷ code.b ∷ []

-- kHz in whole MHz, rounded down
abbrev pub whole_mhz_text : ℕ → List ℕ
whole_mhz_text khz = decimal (khz / 1000)

-- whether there is 2.4 GHz, 5 GHz and 6 GHz, by their numbers, which are parted by commas
abbrev pub band_numbers : Bool → Bool → Bool → List ℕ
band_numbers true true true = codes "2,5,6"
band_numbers true true false = codes "2,5"
band_numbers true false true = codes "2,6"
band_numbers true false false = codes "2"
band_numbers false true true = codes "5,6"
band_numbers false true false = codes "5"
band_numbers false false true = codes "6"
band_numbers false false false = []

-- the numbers of the bands, ascending
abbrev pub bands_text : Bands → List ℕ
bands_text bands = band_numbers bands.ghz2 bands.ghz5 bands.ghz6

-- the kind of an interface
abbrev pub kind_text : Kind → List ℕ
kind_text Ap = codes "__ap"
kind_text Ibss = codes "ibss"
kind_text Mesh = codes "mesh"
kind_text Station = codes "managed"
kind_text Monitor = codes "monitor"

-- how an interface of the kind operates
abbrev pub operating_text : Kind → List ℕ
operating_text Ap = codes "ap"
operating_text Ibss = codes "ibss"
operating_text Mesh = codes "mesh"
operating_text Station = codes "station"
operating_text Monitor = codes "monitor"

-- a width, in MHz
abbrev pub width_text : Width → List ℕ
width_text Noht = codes "NOHT"
width_text W20 = codes "20"
width_text W40 = codes "40"
width_text W80 = codes "80"
width_text W160 = codes "160"
width_text W320 = codes "320"

-- a channel: its control channel in MHz, its width, and its centre in MHz
unfoldable pub channel_text : ChanDef → List ℕ
channel_text c = whole_mhz_text c.control_khz ++ codes " " ++ width_text c.width ++ codes " " ++ whole_mhz_text c.centre_khz
