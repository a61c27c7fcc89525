-- What the facts say of the moment, of radios and of interfaces: always by the last fact on them.
use Rattle.std.specs.Prelude.{ℕ, ◌+◌, ◌==◌, nat_lt, Bool, false, ◌||◌, ◌&&◌, not, List, [], ◌∷◌, ◌++◌, map, filter, find, Option, Some, None, is_some, unwrap_or, if◌then◌else◌, option_and_then}
use Rattle.std.specs.Option.{option_map}
use Rattle.freq_range.specs.declared.rule.Rule.{Rule}
use Rattle.chan_def.specs.declared.definition.ChanDef.{ChanDef}
use Rattle.chan_def.specs.declared.kind.Kind.{Kind}
use Rattle.chan_flags.specs.Profiles.{Abilities, abilities}
use Rattle.chan_flags.specs.declared.verdict.PowerSetting.{PowerSetting}
use Rattle.chan_flags.specs.declared.verdict.PowerSetting.TheVariants.{Auto}
use Rattle.reg_journal.specs.Facts.{Journal, moment_is, radio_added, radio_removed, rules_are, indoor_is, made, ended, typed, set_to, started, stopped, powered, check_begun, check_dropped}
use Rattle.reg_base.specs.Texts.{same_bytes}

-- ---- limits

-- how many interfaces can be made: an index is a number of 32 bits
abbrev pub most_made : ℕ
most_made = 4294967295

-- ---- the moment, and where the radios stand

-- the present moment: the last one, or 0
abbrev pub now_of : Journal → ℕ
now_of [] = 0
now_of (moment_is moment ∷ J) = moment
now_of (f ∷ J) = now_of J

-- whether it was last said that the radios are indoors
abbrev pub is_indoor : Journal → Bool
is_indoor [] = false
is_indoor (indoor_is on ∷ J) = on
is_indoor (f ∷ J) = is_indoor J

-- ---- radios

-- a radio of this number is there, or was
abbrev pub is_used : Journal → ℕ → Bool
is_used [] r = false
is_used (radio_added q profile ∷ J) r = r == q || is_used J r
is_used (f ∷ J) r = is_used J r

-- the profile of the radio, or none where it isn't there
abbrev pub profile_of : Journal → ℕ → Option Abilities
profile_of [] r = None
profile_of (radio_added q profile ∷ J) r = if r == q then Some profile else profile_of J r
profile_of (radio_removed q ∷ J) r = if r == q then None else profile_of J r
profile_of (f ∷ J) r = profile_of J r

-- a radio that isn't there can do nothing
abbrev pub no_abilities : Abilities
no_abilities = abilities (record { ghz2 = false; ghz5 = false; ghz6 = false }) 0 0 0 0 false false

-- what the radio can do, and nothing where it is not there
abbrev pub abilities_of : Journal → ℕ → Abilities
abilities_of J r = unwrap_or (profile_of J r) no_abilities

-- the radio's custom rules, if it has some
abbrev pub custom_rules_of : Journal → ℕ → Option (List Rule)
custom_rules_of [] r = None
custom_rules_of (rules_are q rules ∷ J) r = if r == q then Some rules else custom_rules_of J r
custom_rules_of (f ∷ J) r = custom_rules_of J r

-- the radio was there, and has gone
abbrev pub is_removed : Journal → ℕ → Bool
is_removed J r = is_used J r && not (is_some (profile_of J r))

-- the radios that are there, by number
abbrev pub radios_of : Journal → List ℕ
radios_of J = filter (λ r. is_some (profile_of J r)) (0 ∷ 1 ∷ 2 ∷ 3 ∷ 4 ∷ 5 ∷ 6 ∷ 7 ∷ [])

-- ---- interfaces

-- An interface as it is. Its index, its name and its radio never change.
pub record Iface : Type 0 where
  pub index : ℕ
  pub name : List ℕ
  pub radio : ℕ
  pub kind : Kind
  pub setting : PowerSetting

-- a new interface
abbrev pub new_iface : ℕ → List ℕ → ℕ → Kind → Iface
new_iface i name r kind = record { index = i; name = name; radio = r; kind = kind; setting = Auto }

-- the interface of this number gets the kind; others stay
abbrev pub with_kind : ℕ → Kind → Iface → Iface
with_kind i kind x = if x.index == i then record x { kind = kind } else x

-- the interface of this number gets the power setting; others stay
abbrev pub with_setting : ℕ → PowerSetting → Iface → Iface
with_setting i setting x = if x.index == i then record x { setting = setting } else x

-- it is not the interface of this number
abbrev pub is_apart : ℕ → Iface → Bool
is_apart i x = not (x.index == i)

-- the interfaces that are there, in order of creation
abbrev pub ifaces_of : Journal → List Iface
ifaces_of [] = []
ifaces_of (made i name r kind ∷ J) = ifaces_of J ++ new_iface i name r kind ∷ []
ifaces_of (ended i ∷ J) = filter (is_apart i) (ifaces_of J)
ifaces_of (typed i kind ∷ J) = map (with_kind i kind) (ifaces_of J)
ifaces_of (set_to i setting ∷ J) = map (with_setting i setting) (ifaces_of J)
ifaces_of (f ∷ J) = ifaces_of J

-- how many interfaces were made
abbrev pub made_of : Journal → ℕ
made_of [] = 0
made_of (made i name r kind ∷ J) = made_of J + 1
made_of (f ∷ J) = made_of J

-- the radio on which the interface of this index was made, whether it is still there or not
abbrev pub radio_of : Journal → ℕ → Option ℕ
radio_of [] i = None
radio_of (made j name r kind ∷ J) i = if i == j then Some r else radio_of J i
radio_of (f ∷ J) i = radio_of J i

-- the interface of this name, if it is there
abbrev pub named : Journal → List ℕ → Option Iface
named J name = find (λ x. same_bytes x.name name) (ifaces_of J)

-- the interface of this index, if it is there
abbrev pub indexed : Journal → ℕ → Option Iface
indexed J i = find (λ x. x.index == i) (ifaces_of J)

-- the interfaces of the radio, in order of creation
abbrev pub ifaces_on : Journal → ℕ → List Iface
ifaces_on J r = filter (λ x. x.radio == r) (ifaces_of J)

-- ---- operations

-- an operation on a channel, with its power in mBm
pub record Operation : Type 0 where
  pub chan : ChanDef
  pub power : ℕ

-- the operation goes on with this power, in mBm
abbrev pub operation_with_power : ℕ → Operation → Operation
operation_with_power power o = record { chan = o.chan; power = power }

-- the last start without a later stop, with the last power since
abbrev pub operation_of : Journal → ℕ → Option Operation
operation_of [] i = None
operation_of (started j chan power ∷ J) i = if i == j then Some (record { chan = chan; power = power }) else operation_of J i
operation_of (stopped j ∷ J) i = if i == j then None else operation_of J i
operation_of (powered j power ∷ J) i = if i == j then option_map (operation_with_power power) (operation_of J i) else operation_of J i
operation_of (f ∷ J) i = operation_of J i

-- ---- checks

-- a check (CAC) of a channel, from its beginning on and for its length, both in ms
pub record Check : Type 0 where
  pub chan : ChanDef
  pub begin : ℕ
  pub length : ℕ

-- the last check without a later drop, whether it is over or not
abbrev pub last_check_of : Journal → ℕ → Option Check
last_check_of [] i = None
last_check_of (check_begun j chan length ∷ J) i = if i == j then Some (record { chan = chan; begin = now_of J; length = length }) else last_check_of J i
last_check_of (check_dropped j ∷ J) i = if i == j then None else last_check_of J i
last_check_of (f ∷ J) i = last_check_of J i

-- the check where it isn't over at the moment
abbrev pub unless_over : ℕ → Check → Option Check
unless_over moment check = if nat_lt moment (check.begin + check.length) then Some check else None

-- the running check
abbrev pub check_of : Journal → ℕ → Option Check
check_of J i = option_and_then (unless_over (now_of J)) (last_check_of J i)
