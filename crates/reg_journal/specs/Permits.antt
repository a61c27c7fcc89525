-- What speaks against a channel for an interface: its radio, the rules of the domains that apply, and radar.
-- Below, x is an interface and c the channel.
use Rattle.std.specs.Prelude.{◌≡◌, ℕ, ◌/◌, ◌<◌, List, [], ◌∷◌, length, filter, Option, Some, None, IsTrue, if◌then◌else◌}
use Rattle.std.specs.List.{filter_map, list_any}
use Rattle.std.specs.Option.{option_map}
use Rattle.rule_tables.specs.declared.domain.Domain.{Domain}
use Rattle.chan_def.specs.Covered.{width_khz, IsCovered}
use Rattle.chan_def.specs.Kinds.{initiates}
use Rattle.chan_def.specs.Same.{is_same_channel}
use Rattle.chan_def.specs.declared.definition.ChanDef.{ChanDef}
use Rattle.chan_flags.specs.Verdicts.{asked, Bars, IsBound, IsLimit, IsCheckLength, IsAbove, power_of}
use Rattle.chan_flags.specs.declared.asked.Asked.{Asked}
use Rattle.chan_flags.specs.declared.verdict.PowerSetting.{PowerSetting}
use Rattle.chan_flags.specs.declared.asked.Obstacle.TheVariants.{Missing, Unruled, Narrow, OfdmBarred, IrBarred, OutdoorBarred}
use Rattle.chan_flags.specs.declared.verdict.ChanRefusal.{ChanRefusal}
use Rattle.chan_flags.specs.declared.verdict.ChanRefusal.TheVariants.{LacksChannel as Lacking, LacksWidth as Narrower, NoRule as Ruleless, TooNarrow as Tight, NoOfdm as Ofdm, NoIr as Ir, NoOutdoor as Outdoor, AboveLimit}
use Rattle.reg_journal.specs.Facts.{Journal}
use Rattle.reg_journal.specs.Present.{Iface, Operation, Check, is_apart, is_indoor, abilities_of, ifaces_on, operation_of, check_of}
use Rattle.reg_journal.specs.Applicable.{applies}
use Rattle.reg_journal.specs.Radar.{IsQuiet, Stands, NoneStands}
use Rattle.reg_journal.specs.Causes.{◌before◌, Where, AtLowest}
use Rattle.reg_journal.specs.declared.refusal.Refusal.{Refusal}
use Rattle.reg_journal.specs.declared.refusal.Refusal.TheVariants.{RadioLacks, RadioLacksWidth, RadioLacksContext, NoRule, Width as TooNarrow, NoOfdm, NoIr, NoOutdoor, Power, RadioLacksRadarWidth, Radar, Unchecked}

-- what the interface asks of its radio with the channel
abbrev pub asked_by : Journal → Iface → ChanDef → Asked
asked_by J x c = asked (abilities_of J x.radio) c x.kind (is_indoor J) x.setting

-- the channel's width in MHz
abbrev pub width_mhz : ChanDef → ℕ
width_mhz c = width_khz c.width / 1000

-- the refusal of the interface which a refusal of its channel is
abbrev pub refusal_of_channel : ChanRefusal → Refusal
refusal_of_channel (Lacking s) = RadioLacks s
refusal_of_channel (Narrower mhz) = RadioLacksWidth mhz
refusal_of_channel (Ruleless s) = NoRule s
refusal_of_channel (Tight s) = TooNarrow s
refusal_of_channel (Ofdm s) = NoOfdm s
refusal_of_channel (Ir s) = NoIr s
refusal_of_channel (Outdoor s) = NoOutdoor s
refusal_of_channel (AboveLimit limit) = Power limit

-- ---- the radio

-- the radio has no channel for a subchannel
abbrev pub LacksChannel : List Domain → Journal → Iface → ChanDef → Refusal → Type 0
LacksChannel db J x c = AtLowest (Bars (applies db J x.radio) (asked_by J x c) Missing) c RadioLacks

-- the channel is wider than the radio can operate
abbrev pub LacksWidth : Journal → Iface → ChanDef → Refusal → Type 0
LacksWidth J x c = Where ((abilities_of J x.radio).width_mhz < width_mhz c) (RadioLacksWidth (width_mhz c))

-- each channel of the list once: each that isn't among those behind it
abbrev pub distinct : List ChanDef → List ChanDef
distinct [] = []
distinct (c ∷ cs) = if list_any (is_same_channel c) cs then distinct cs else c ∷ distinct cs

-- the channel that the interface is on: that of its operation, or else of its running check
abbrev pub channel_in : Option Operation → Option Check → Option ChanDef
channel_in (Some o) k = Some o.chan
channel_in None k = option_map (λ (k : Check). k.chan) k

-- the channel that the interface is on, if any
abbrev pub channel_of : Journal → Iface → Option ChanDef
channel_of J x = channel_in (operation_of J x.index) (check_of J x.index)

-- the channels that the other interfaces of its radio are on
abbrev pub channels_beside : Journal → Iface → List ChanDef
channels_beside J x = filter_map (channel_of J) (filter (is_apart x.index) (ifaces_on J x.radio))

-- what the radio forbids: it has no channel for a subchannel, or not the width
abbrev pub RadioForbids : List Domain → Journal → Iface → ChanDef → Refusal → Type 0
RadioForbids db J x c = LacksChannel db J x c before LacksWidth J x c

-- With this channel, the radio would be on more channels at once than it can.
abbrev pub LacksContext : Journal → Iface → ChanDef → Refusal → Type 0
LacksContext J x c =
    Where ((abilities_of J x.radio).contexts < length (distinct (c ∷ channels_beside J x))) (RadioLacksContext (abilities_of J x.radio).contexts)

-- ---- the rules

-- No rule, too little width, no OFDM, nobody may send first, nobody may operate outdoors: each on the lowest subchannel for
-- which some domain that applies says so.
abbrev pub RulesForbid : List Domain → Journal → Iface → ChanDef → Refusal → Type 0
RulesForbid db J x c =
    let bars = Bars (applies db J x.radio) (asked_by J x c) in
    AtLowest (bars Unruled) c NoRule
    before AtLowest (bars Narrow) c TooNarrow
    before AtLowest (bars OfdmBarred) c NoOfdm
    before AtLowest (bars IrBarred) c NoIr
    before AtLowest (bars OutdoorBarred) c NoOutdoor

-- the limit of the interface on the channel, in mBm: the least of the radio's power and those of all rules
abbrev pub IsLimitOf : List Domain → Journal → Iface → ChanDef → ℕ → Type 0
IsLimitOf db J x c = IsLimit (applies db J x.radio) (asked_by J x c)

-- the power, in mBm, with which the interface operates on the channel
abbrev pub IsPowerOf : List Domain → Journal → Iface → ChanDef → ℕ → Type 0
IsPowerOf db J x c power = (limit : ℕ) × IsLimitOf db J x c limit × (power ≡ power_of x.setting limit)

-- a fixed power is above the limit
abbrev pub PassesLimit : List Domain → Journal → Iface → PowerSetting → ChanDef → Refusal → Type 0
PassesLimit db J x setting c = λ e. (limit : ℕ) × IsLimitOf db J x c limit × IsAbove setting limit × (e ≡ Power limit)

-- ---- radar

-- the subchannel has to be checked for radar (CAC): some rule has DFS
abbrev pub IsBoundOn : List Domain → Journal → ℕ → ℕ → Type 0
IsBoundOn db J r s = IsBound (applies db J r) s

-- it holds of each subchannel that has to be checked, where the interface sends first
abbrev pub OnEachBound : List Domain → Journal → Iface → ChanDef → (ℕ → Type 0) → Type 0
OnEachBound db J x c P = IsTrue (initiates x.kind) → (s : ℕ) → IsCovered c s → IsBoundOn db J x.radio s → P s

-- some subchannel has to be checked, and the channel is wider than what the radio can check
abbrev pub LacksRadarWidth : List Domain → Journal → Iface → ChanDef → Refusal → Type 0
LacksRadarWidth db J x c =
    Where (IsTrue (initiates x.kind) × ((s : ℕ) × IsCovered c s × IsBoundOn db J x.radio s) × ((abilities_of J x.radio).radar_mhz < width_mhz c))
    (RadioLacksRadarWidth (width_mhz c))

-- there was radar on a subchannel that has to be checked, and its nonoccupancy (NOP) isn't over
abbrev pub MetRadar : List Domain → Journal → Iface → ChanDef → Refusal → Type 0
MetRadar db J x c = AtLowest (λ s. IsTrue (initiates x.kind) × IsBoundOn db J x.radio s × (IsQuiet J x.radio s → ⊥)) c Radar

-- what radar forbids: the radio can't check so wide, or nonoccupancy isn't over
abbrev pub RadarForbids : List Domain → Journal → Iface → ChanDef → Refusal → Type 0
RadarForbids db J x c = LacksRadarWidth db J x c before MetRadar db J x c

-- no check stands for a subchannel that has to be checked
abbrev pub LacksCheck : List Domain → Journal → Iface → ChanDef → Refusal → Type 0
LacksCheck db J x c = AtLowest (λ s. IsTrue (initiates x.kind) × IsBoundOn db J x.radio s × NoneStands db J x.radio s) c Unchecked

-- a check stands for each subchannel that has to be checked, or none has to be
abbrev pub HasNothingToCheck : List Domain → Journal → Iface → ChanDef → Type 0
HasNothingToCheck db J x c = (s : ℕ) → IsCovered c s → IsBoundOn db J x.radio s → (end : ℕ) × Stands db J x.radio s end

-- how long the channel is checked, in ms
abbrev pub IsLengthOf : List Domain → Journal → Iface → ChanDef → ℕ → Type 0
IsLengthOf db J x c = IsCheckLength (applies db J x.radio) (asked_by J x c)

-- ---- all of it, in order: the lists differ in contexts, in power and in checks alone

-- what ends an operation on the channel
abbrev pub EndsOperation : List Domain → Journal → Iface → ChanDef → Refusal → Type 0
EndsOperation db J x c =
    RadioForbids db J x c before RulesForbid db J x c before PassesLimit db J x x.setting c before RadarForbids db J x c before LacksCheck db J x c

-- the refusals that end a running check of the channel; a change of region ends it too
abbrev pub EndsCheck : List Domain → Journal → Iface → ChanDef → Refusal → Type 0
EndsCheck db J x c = RadioForbids db J x c before RulesForbid db J x c before RadarForbids db J x c

-- what keeps an operation from the channel
abbrev pub BarsOperation : List Domain → Journal → Iface → ChanDef → Refusal → Type 0
BarsOperation db J x c =
    RadioForbids db J x c
    before LacksContext J x c
    before RulesForbid db J x c
    before PassesLimit db J x x.setting c
    before RadarForbids db J x c
    before LacksCheck db J x c

-- what keeps a check from the channel
abbrev pub BarsCheck : List Domain → Journal → Iface → ChanDef → Refusal → Type 0
BarsCheck db J x c = RadioForbids db J x c before LacksContext J x c before RulesForbid db J x c before RadarForbids db J x c
