-- What the words of a line have told so far.
use Rattle.std.specs.Prelude.{ℕ, ◌*◌, Bool, true, false, List, [], codes}
use Rattle.rule_tables.specs.declared.code.Alpha2.{Alpha2}
use Rattle.chan_def.specs.declared.definition.ChanDef.{ChanDef}
use Rattle.chan_def.specs.declared.kind.Kind.{Kind}
use Rattle.chan_def.specs.declared.kind.Kind.TheVariants.{Ap}
use Rattle.chan_def.specs.declared.width.Width.{Width}
use Rattle.chan_def.specs.declared.width.Width.TheVariants.{W20}
use Rattle.chan_flags.specs.Profiles.{Abilities, abilities}
use Rattle.chan_flags.specs.declared.profile.Bands.{Bands}
use Rattle.line_forms.specs.Spelling.{noht}

-- What words have told: the last of each kind, whose form of a line says what it stands for.
pub record Told : Type 0 where
  pub moment : ℕ
  pub radio : ℕ
  pub name : List ℕ
  pub kind : Kind
  pub code : Alpha2
  pub digits : List ℕ
  pub chan : ChanDef
  pub profile : Abilities
  pub power : ℕ

-- before the first word: what no word tells doesn't matter
abbrev pub nothing : Told
nothing = record {
  moment = 0;
  radio = 0;
  name = codes "-";
  kind = Ap;
  code = record { a = 48; b = 48 };
  digits = [];
  chan = noht 0;
  profile = abilities (record { ghz2 = true; ghz5 = false; ghz6 = false }) 20 0 0 1 false false;
  power = 0;
}

-- a moment, in ms is told
abbrev pub tell_moment : ℕ → Told → Told
tell_moment n d = record { moment = n; radio = d.radio; name = d.name; kind = d.kind; code = d.code; digits = d.digits; chan = d.chan; profile = d.profile; power = d.power }

-- the number of a radio is told
abbrev pub tell_radio : ℕ → Told → Told
tell_radio r d = record { moment = d.moment; radio = r; name = d.name; kind = d.kind; code = d.code; digits = d.digits; chan = d.chan; profile = d.profile; power = d.power }

-- the name of an interface is told
abbrev pub tell_name : List ℕ → Told → Told
tell_name w d = record { moment = d.moment; radio = d.radio; name = w; kind = d.kind; code = d.code; digits = d.digits; chan = d.chan; profile = d.profile; power = d.power }

-- the kind of an interface is told
abbrev pub tell_kind : Kind → Told → Told
tell_kind k d = record { moment = d.moment; radio = d.radio; name = d.name; kind = k; code = d.code; digits = d.digits; chan = d.chan; profile = d.profile; power = d.power }

-- a code is told
abbrev pub tell_code : Alpha2 → Told → Told
tell_code a d = record { moment = d.moment; radio = d.radio; name = d.name; kind = d.kind; code = a; digits = d.digits; chan = d.chan; profile = d.profile; power = d.power }

-- digits of hexadecimal is told
abbrev pub tell_digits : List ℕ → Told → Told
tell_digits w d = record { moment = d.moment; radio = d.radio; name = d.name; kind = d.kind; code = d.code; digits = w; chan = d.chan; profile = d.profile; power = d.power }

-- a channel is told
abbrev pub tell_chan : ChanDef → Told → Told
tell_chan c d = record { moment = d.moment; radio = d.radio; name = d.name; kind = d.kind; code = d.code; digits = d.digits; chan = c; profile = d.profile; power = d.power }

-- what a radio can do is told
abbrev pub tell_profile : Abilities → Told → Told
tell_profile p d = record { moment = d.moment; radio = d.radio; name = d.name; kind = d.kind; code = d.code; digits = d.digits; chan = d.chan; profile = p; power = d.power }

-- a power, in mBm is told
abbrev pub tell_power : ℕ → Told → Told
tell_power n d = record { moment = d.moment; radio = d.radio; name = d.name; kind = d.kind; code = d.code; digits = d.digits; chan = d.chan; profile = d.profile; power = n }

-- ---- channels

-- the channel with this width
abbrev pub as_wide : Width → ChanDef → ChanDef
as_wide width c = record { control_khz = c.control_khz; width = width; centre_khz = c.centre_khz }

-- the channel round this centre, in MHz
abbrev pub round : ℕ → ChanDef → ChanDef
round mhz c = record { control_khz = c.control_khz; width = c.width; centre_khz = 1000 * mhz }

-- the channel of 20 MHz with the same control channel
abbrev pub twenty : ChanDef → ChanDef
twenty c = record { control_khz = c.control_khz; width = W20; centre_khz = c.control_khz }

-- ---- profiles

-- the profile with one part changed
abbrev pub with_bands : Bands → Abilities → Abilities
with_bands bands p = abilities bands p.width_mhz p.radar_mhz p.power_mbm p.contexts p.self_managed p.deaf

-- the profile with this greatest width, in MHz
abbrev pub with_width : ℕ → Abilities → Abilities
with_width mhz p = abilities p.bands mhz p.radar_mhz p.power_mbm p.contexts p.self_managed p.deaf

-- the profile with this greatest width where it checks for radar (CAC), in MHz
abbrev pub with_radar : ℕ → Abilities → Abilities
with_radar mhz p = abilities p.bands p.width_mhz mhz p.power_mbm p.contexts p.self_managed p.deaf

-- the profile with this greatest power, in mBm
abbrev pub with_most_power : ℕ → Abilities → Abilities
with_most_power mbm p = abilities p.bands p.width_mhz p.radar_mhz mbm p.contexts p.self_managed p.deaf

-- the profile of a radio that can be on so many channels at once
abbrev pub with_contexts : ℕ → Abilities → Abilities
with_contexts contexts p = abilities p.bands p.width_mhz p.radar_mhz p.power_mbm contexts p.self_managed p.deaf

-- the profile, self-managed or not, and ignoring country elements or not
abbrev pub with_marks : Bool → Bool → Abilities → Abilities
with_marks self_managed deaf p = abilities p.bands p.width_mhz p.radar_mhz p.power_mbm p.contexts self_managed deaf
