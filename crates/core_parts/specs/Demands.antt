-- What radar demands of the subchannels of a channel.
use Rattle.std.specs.Prelude.{ℕ, ◌<◌, ◌≤◌, List, IsTrue}
use Rattle.rule_tables.specs.declared.domain.Domain.{Domain}
use Rattle.chan_def.specs.Covered.{IsCovered}
use Rattle.chan_def.specs.Kinds.{initiates}
use Rattle.chan_def.specs.declared.definition.ChanDef.{ChanDef}
use Rattle.rule_intersect.specs.Subchannels.{SomeLacksRule}
use Rattle.chan_flags.specs.Verdicts.{BarsNone, IsMissing}
use Rattle.reg_journal.specs.Applicable.{applies}
use Rattle.reg_journal.specs.Due.{EachMayFollow}
use Rattle.reg_journal.specs.Facts.{Journal}
use Rattle.reg_journal.specs.Granted.{IsClear}
use Rattle.reg_journal.specs.Permits.{IsBoundOn, width_mhz}
use Rattle.reg_journal.specs.Present.{Iface, abilities_of}
use Rattle.reg_journal.specs.Radar.{IsQuiet}
use Rattle.core_parts.specs.Kept.{KeepsRadio}
use Rattle.core_parts.specs.declared.radar.Demand.{Demand}
use Rattle.core_parts.specs.declared.radar.Demand.TheVariants.{Absent, Quiet, Clear}
use Rattle.core_parts.specs.declared.radio.Radio.{Radio}

-- this is what is kept of the radio, which has each subchannel of the channel, and each domain that applies has a rule for it
pub record HasRules (db : List Domain) (J : Journal) (r : ℕ) (radio : Radio) (c : ChanDef) : Type 0 where
  pub due : EachMayFollow db J
  pub radio_is : KeepsRadio db J r radio
  pub there : BarsNone (IsMissing radio.chans.profile.bands) c
  pub ruled : BarsNone (SomeLacksRule (applies db J r)) c

-- the subchannel meets what is demanded of those that have to be checked for radar
abbrev pub MeetsDemand : List Domain → Journal → ℕ → Demand → ℕ → Type 0
MeetsDemand db J r Absent s = ⊥
MeetsDemand db J r Quiet s = IsQuiet J r s
MeetsDemand db J r Clear s = IsClear db J r s

-- it has to be checked, and doesn't meet it
abbrev pub FailsDemand : List Domain → Journal → ℕ → Demand → ℕ → Type 0
FailsDemand db J r demand s = IsBoundOn db J r s × (MeetsDemand db J r demand s → ⊥)

-- all that have to be checked meet it
abbrev pub AllMeet : List Domain → Journal → ℕ → Demand → ChanDef → Type 0
AllMeet db J r demand c = (s : ℕ) → IsCovered c s → IsBoundOn db J r s → MeetsDemand db J r demand s

-- some has to be checked, and the channel is wider than so many MHz
abbrev pub IsTooWide : List Domain → Journal → ℕ → ℕ → ChanDef → Type 0
IsTooWide db J r mhz c = ((s : ℕ) × IsCovered c s × IsBoundOn db J r s) × (mhz < width_mhz c)

-- where some has to be checked, the channel is no wider than so many MHz
abbrev pub IsNarrowEnough : List Domain → Journal → ℕ → ℕ → ChanDef → Type 0
IsNarrowEnough db J r mhz c = (s : ℕ) → IsCovered c s → IsBoundOn db J r s → width_mhz c ≤ mhz

-- for an interface that sends first, its radio can check the channel where it has to be checked
abbrev pub HasRadarWidth : List Domain → Journal → Iface → ChanDef → Type 0
HasRadarWidth db J x c = IsTrue (initiates x.kind) → IsNarrowEnough db J x.radio (abilities_of J x.radio).radar_mhz c

-- for an interface that sends first, all subchannels that have to be checked meet what is demanded of them
abbrev pub AllMeetFor : List Domain → Journal → Iface → Demand → ChanDef → Type 0
AllMeetFor db J x demand c = IsTrue (initiates x.kind) → AllMeet db J x.radio demand c
