-- What attributes say: each of these tells a value by payloads, none where there is no attribute of the kind.
use Rattle.std.specs.Prelude.{◌≡◌, ℕ, ◌+◌, ◌*◌, ◌==◌, ◌^◌, ◌<◌, ◌≤◌, false, Bool, cond, List, [], ◌∷◌, length, reverse, Option, None, Some, IsSomeAnd}
use Rattle.std.specs.List.{find}
use Rattle.std.specs.Option.{option_map}
use Rattle.rule_tables.specs.Code.{IsCode}
use Rattle.rule_tables.specs.declared.code.Alpha2.{Alpha2}
use Rattle.chan_def.specs.Covered.{width_khz, width_number}
use Rattle.chan_def.specs.declared.definition.ChanDef.{ChanDef}
use Rattle.chan_def.specs.declared.kind.Kind.{Kind}
use Rattle.chan_def.specs.declared.kind.Kind.TheVariants.{Ap, Ibss, Mesh, Station, Monitor}
use Rattle.chan_def.specs.declared.width.Width.{Width}
use Rattle.chan_def.specs.declared.width.Width.TheVariants.{Noht}
use Rattle.chan_flags.specs.Profiles.{Abilities, IsProfile}
use Rattle.chan_flags.specs.declared.profile.Bands.{Bands}
use Rattle.chan_flags.specs.declared.verdict.PowerSetting.{PowerSetting}
use Rattle.chan_flags.specs.declared.verdict.PowerSetting.TheVariants.{Auto, Limit, Fixed}
use Rattle.radio_drv.specs.Names.{IsName}
use Rattle.nl_attrs.specs.Endian.{le32, le64}
use Rattle.nl_attrs.specs.Payloads.{Tells}
use Rattle.nl_attrs.specs.declared.attr.Attr.{Attr}
use Rattle.nl80211_cmds.specs.declared.attribute.TheConstants.{BANDS, WIDTH_MHZ, RADAR_MHZ, POWER, CONTEXTS, PROFILE_FLAGS}

-- the payload of the attribute of this kind, of the last one where it is repeated
abbrev pub payload_of : ℕ → List Attr → Option (List ℕ)
payload_of kind attrs = option_map (λ a. a.payload) (find (λ a. a.kind == kind) (reverse attrs))

-- an attribute that holds no others
abbrev pub plain_attr : ℕ → List ℕ → Attr
plain_attr kind payload = record { kind = kind; nested = false; payload = payload }

-- a number in four bytes
abbrev pub number_attr : ℕ → ℕ → Attr
number_attr kind number = plain_attr kind (le32 number)

-- the payload is four zero bytes
abbrev pub AreFourZeros : List ℕ → Type 0
AreFourZeros payload = payload ≡ 0 ∷ 0 ∷ 0 ∷ 0 ∷ []

-- a number of four bytes in this range
pub record TellsNumber (payload : Option (List ℕ)) (least most n : ℕ) : Type 0 where
  pub told : payload ≡ Some (le32 n)
  pub least_is : least ≤ n
  pub most_is : n ≤ most

-- a name, with a zero byte at its end or without it
pub record TellsName (payload : Option (List ℕ)) (name : List ℕ) : Type 0 where
  pub told : IsSomeAnd payload (λ p. Tells p name)
  pub is : IsName name

-- a country's code, likewise
pub record TellsCode (payload : Option (List ℕ)) (code : Alpha2) : Type 0 where
  pub told : IsSomeAnd payload (λ p. Tells p (code.a ∷ code.b ∷ []))
  pub is : IsCode code

-- the number of a kind of interfaces
abbrev pub iftype_number : Kind → ℕ
iftype_number Ibss = 1
iftype_number Station = 2
iftype_number Ap = 3
iftype_number Monitor = 6
iftype_number Mesh = 7

abbrev pub TellsKind : Option (List ℕ) → Kind → Type 0
TellsKind payload kind = TellsNumber payload 0 7 (iftype_number kind)

-- a moment, in eight bytes
pub record TellsMoment (payload : Option (List ℕ)) (moment : ℕ) : Type 0 where
  pub told : payload ≡ Some (le64 moment)
  pub fits : moment < 2 ^ 64

-- 1 for true and 0 for false
abbrev pub bit_of : Bool → ℕ
bit_of on = cond on 1 0

-- one byte, 0 or 1
abbrev pub TellsSwitch : Option (List ℕ) → Bool → Type 0
TellsSwitch payload on = payload ≡ Some (bit_of on ∷ [])

-- ---- channels

-- the width's number; none counts as 0
abbrev pub TellsWidth : Option (List ℕ) → Width → Type 0
TellsWidth None width = width ≡ Noht
TellsWidth (Some p) width = TellsNumber (Some p) 0 13 (width_number width)

-- The centre in MHz. For 20 MHz none counts as the control frequency, and for width 0 no other is told.
abbrev pub TellsCentre : Option (List ℕ) → Width → ℕ → ℕ → Type 0
TellsCentre None width mhz centre = (width_khz width ≡ 20000) × (centre ≡ mhz)
TellsCentre (Some p) width mhz centre = TellsNumber (Some p) 1 100000 centre × (width ≡ Noht → centre ≡ mhz)

-- the control frequency in MHz, the width and the centre in MHz
pub record TellsChan (frequency width centre : Option (List ℕ)) (c : ChanDef) : Type 0 where
  pub mhz : ℕ
  pub centre_mhz : ℕ
  pub frequency_is : TellsNumber frequency 1 100000 mhz
  pub width_is : TellsWidth width c.width
  pub centre_is : TellsCentre centre c.width mhz centre_mhz
  pub control : c.control_khz ≡ 1000 * mhz
  pub middle : c.centre_khz ≡ 1000 * centre_mhz

-- ---- powers

-- how power is set, and where it is set to some power that power, in mBm
abbrev pub TellsPower : Option (List ℕ) → Option (List ℕ) → PowerSetting → Type 0
TellsPower setting level Auto = TellsNumber setting 0 2 0
TellsPower setting level (Limit power) = TellsNumber setting 0 2 1 × TellsNumber level 0 65535 power
TellsPower setting level (Fixed power) = TellsNumber setting 0 2 2 × TellsNumber level 0 65535 power

-- ---- profiles

-- a bit for each band: 2.4, 5 and 6 GHz
abbrev pub band_bits : Bands → ℕ
band_bits bands = bit_of bands.ghz2 + 2 * bit_of bands.ghz5 + 4 * bit_of bands.ghz6

-- bit 0 where the radio is self-managed, bit 1 where it ignores country elements
abbrev pub profile_bits : Abilities → ℕ
profile_bits p = bit_of p.self_managed + 2 * bit_of p.deaf

-- widths in MHz, the power in mBm; no other bits are set
pub record TellsAbilities (attrs : List Attr) (p : Abilities) : Type 0 where
  pub bands : TellsNumber (payload_of BANDS attrs) 0 7 (band_bits p.bands)
  pub width : TellsNumber (payload_of WIDTH_MHZ attrs) 0 65535 p.width_mhz
  pub radar : TellsNumber (payload_of RADAR_MHZ attrs) 0 65535 p.radar_mhz
  pub power : TellsNumber (payload_of POWER attrs) 0 65535 p.power_mbm
  pub contexts : TellsNumber (payload_of CONTEXTS attrs) 0 255 p.contexts
  pub flags : TellsNumber (payload_of PROFILE_FLAGS attrs) 0 3 (profile_bits p)

-- there may be such a radio
pub record TellsProfile (attrs : List Attr) (p : Abilities) : Type 0 where
  pub numbers : TellsAbilities attrs p
  pub allowed : IsProfile p

-- ---- bodies

-- 1 to 255 bytes
pub record TellsBody (payload : Option (List ℕ)) (body : List ℕ) : Type 0 where
  pub told : payload ≡ Some body
  pub some : 1 ≤ length body
  pub few : length body ≤ 255
