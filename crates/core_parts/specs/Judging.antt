-- What the core keeps of an interface whose channel is judged.
use Rattle.std.specs.Prelude.{◌≡◌, ℕ, Bool, true, false, List, Contains}
use Rattle.rule_tables.specs.declared.domain.Domain.{Domain}
use Rattle.chan_def.specs.declared.definition.ChanDef.{ChanDef}
use Rattle.chan_def.specs.declared.kind.Kind.{Kind}
use Rattle.chan_flags.specs.Verdicts.{IsVerdict}
use Rattle.chan_flags.specs.declared.verdict.ChanRefusal.TheVariants.{LacksChannel, LacksWidth}
use Rattle.chan_flags.specs.declared.verdict.Verdict.{Verdict}
use Rattle.chan_flags.specs.declared.verdict.Verdict.TheVariants.{Refused}
use Rattle.reg_journal.specs.Applicable.{applies}
use Rattle.reg_journal.specs.Due.{EachMayFollow}
use Rattle.reg_journal.specs.Facts.{Journal}
use Rattle.reg_journal.specs.Causes.{◌before◌, IsFree, Where}
use Rattle.reg_journal.specs.Permits.{BarsCheck, EndsCheck, HasNothingToCheck, IsLengthOf, asked_by}
use Rattle.reg_journal.specs.declared.refusal.Refusal.{Refusal}
use Rattle.reg_journal.specs.declared.refusal.Refusal.TheVariants.{NothingToCheck}
use Rattle.chan_flags.specs.declared.verdict.PowerSetting.TheVariants.{Auto}
use Rattle.core_parts.specs.Demands.{AllMeetFor, HasRules}
use Rattle.core_parts.specs.declared.radar.Demand.TheVariants.{Quiet}
use Rattle.reg_journal.specs.Present.{Iface, ifaces_of, is_indoor}
use Rattle.core_parts.specs.Kept.{KeepsRadio, kept, interfaces_of}
use Rattle.core_parts.specs.declared.interface.Interface.{Interface}
use Rattle.core_parts.specs.declared.radio.Radio.{Radio}

-- the interface is there, and these are what is kept of it, of all interfaces, and of its radio
pub record IsAmong (db : List Domain) (J : Journal) (x : Iface) (interface : Interface) (interfaces : List Interface) (radio : Radio) : Type 0 where
  pub due : EachMayFollow db J
  pub there : Contains (ifaces_of J) x
  pub interface_is : interface ≡ kept J x
  pub interfaces_are : interfaces ≡ interfaces_of J
  pub radio_is : KeepsRadio db J x.radio radio

-- the interface is there, these are what is kept of it and of its radio, and it is indoors or not
pub record IsSwept (db : List Domain) (J : Journal) (x : Iface) (interface : Interface) (radio : Radio) (indoor : Bool) : Type 0 where
  pub due : EachMayFollow db J
  pub there : Contains (ifaces_of J) x
  pub interface_is : interface ≡ kept J x
  pub radio_is : KeepsRadio db J x.radio radio
  pub indoor_is : indoor ≡ is_indoor J

-- these are what is kept of some interface
pub record IsSweptSomewhere (interface : Interface) (radio : Radio) (indoor : Bool) : Type 0 where
  pub db : List Domain
  pub journal : Journal
  pub iface : Iface
  pub swept : IsSwept db journal iface interface radio indoor

-- and it is indoors or not
pub record IsJudged (db : List Domain) (J : Journal) (x : Iface) (interface : Interface) (interfaces : List Interface) (radio : Radio) (indoor : Bool) : Type 0 where
  pub among : IsAmong db J x interface interfaces radio
  pub indoor_is : indoor ≡ is_indoor J

-- these are the kind of the interface, what is kept of its radio, and the verdict of the rules on its channel
pub record HasVerdict (db : List Domain) (J : Journal) (x : Iface) (kind : Kind) (radio : Radio) (c : ChanDef) (verdict : Verdict) : Type 0 where
  pub due : EachMayFollow db J
  pub kind_is : kind ≡ x.kind
  pub radio_is : KeepsRadio db J x.radio radio
  pub verdict_is : IsVerdict (applies db J x.radio) (asked_by J x c) verdict

-- the verdict says that the radio lacks the channel or its width
abbrev pub is_lacking : Verdict → Bool
is_lacking (Refused (LacksChannel s)) = true
is_lacking (Refused (LacksWidth mhz)) = true
is_lacking verdict = false

-- a check is judged as with the power that no setting limits
abbrev pub as_auto : Iface → Iface
as_auto x = record x { setting = Auto }

-- nothing ends a check of the channel, whose length this is; the radio has its subchannels, and those that have to be checked are quiet
pub record CheckFits (db : List Domain) (J : Journal) (x : Iface) (radio : Radio) (c : ChanDef) (length : ℕ) : Type 0 where
  pub free : IsFree (EndsCheck db J x c)
  pub length_is : IsLengthOf db J x c length
  pub rules : HasRules db J x.radio radio c
  pub quiet : AllMeetFor db J x Quiet c

-- what keeps a check from beginning on the channel
abbrev pub BarsBeginning : List Domain → Journal → Iface → ChanDef → Refusal → Type 0
BarsBeginning db J x c = BarsCheck db J x c before Where (HasNothingToCheck db J x c) NothingToCheck
