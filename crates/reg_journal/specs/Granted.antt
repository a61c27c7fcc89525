-- What it is that a start is granted.
use Rattle.std.specs.Prelude.{◌≡◌, ℕ, ◌≤◌, List, ◌∷◌, length, Contains}
use Rattle.rule_tables.specs.declared.domain.Domain.{Domain}
use Rattle.rule_intersect.specs.Tuples.{Choice}
use Rattle.chan_def.specs.Covered.{IsCovered, IsValidDef}
use Rattle.chan_def.specs.declared.definition.ChanDef.{ChanDef}
use Rattle.chan_def.specs.declared.kind.Kind.{Kind}
use Rattle.chan_flags.specs.Fits.{FitsRule}
use Rattle.chan_flags.specs.Lists.{IsRadioChannel}
use Rattle.chan_flags.specs.Verdicts.{IsGoverning, IsWithinLimit, power_of}
use Rattle.reg_journal.specs.Facts.{Journal}
use Rattle.reg_journal.specs.Present.{Iface, abilities_of}
use Rattle.reg_journal.specs.Applicable.{applies}
use Rattle.reg_journal.specs.Radar.{IsQuiet, Stands}
use Rattle.reg_journal.specs.Refusals.{InUseFor}
use Rattle.reg_journal.specs.Permits.{asked_by, width_mhz, distinct, channels_beside, IsLimitOf, OnEachBound}

-- The radio carries the channel for the interface: it has each covered subchannel and the width, and the width for radar where
-- an interface that sends first has a subchannel to check (CAC).
pub record IsCarried (db : List Domain) (J : Journal) (x : Iface) (c : ChanDef) : Type 0 where
  pub channels : (s : ℕ) → IsCovered c s → IsRadioChannel (abilities_of J x.radio).bands s
  pub width : width_mhz c ≤ (abilities_of J x.radio).width_mhz
  pub radar_width : OnEachBound db J x c (λ s. width_mhz c ≤ (abilities_of J x.radio).radar_mhz)

-- The radio supports the channel for the interface: it carries it, and is on no more channels with it than it can.
pub record IsSupported (db : List Domain) (J : Journal) (x : Iface) (c : ChanDef) : Type 0 where
  pub carried : IsCarried db J x c
  pub contexts : length (distinct (c ∷ channels_beside J x)) ≤ (abilities_of J x.radio).contexts

-- The channel fits the rules with this power, in mBm: each domain that applies has a governing rule for each covered subchannel,
-- and this rule allows the width, the power, and the interface by its flags.
abbrev pub FitsRules : List Domain → Journal → Iface → ChanDef → ℕ → Type 0
FitsRules db J x c power =
    (s : ℕ) (d : Domain) → IsCovered c s → Contains (applies db J x.radio) d → (g : Choice) × IsGoverning d s g × FitsRule (asked_by J x c) power g

-- This is the power, in mBm, that the interface's setting gives on the channel, and a fixed one is at most the limit.
pub record IsGivenPower (db : List Domain) (J : Journal) (x : Iface) (c : ChanDef) (power : ℕ) : Type 0 where
  pub limit : ℕ
  pub is_limit : IsLimitOf db J x c limit
  pub power_is : power ≡ power_of x.setting limit
  pub within : IsWithinLimit x.setting limit

-- a check (CAC) stands for the subchannel, and no nonoccupancy (NOP) runs there
pub record IsClear (db : List Domain) (J : Journal) (r s : ℕ) : Type 0 where
  pub quiet : IsQuiet J r s
  pub end : ℕ
  pub stands : Stands db J r s end

-- The interface may operate on the channel with this power, in mBm: its radio carries the channel, which fits the rules with the
-- power that the setting gives; and each subchannel that has to be checked is clear, for an interface that sends first.
pub record IsPermitted (db : List Domain) (J : Journal) (x : Iface) (c : ChanDef) (power : ℕ) : Type 0 where
  pub carried : IsCarried db J x c
  pub fits : FitsRules db J x c power
  pub given : IsGivenPower db J x c power
  pub clear : OnEachBound db J x c (IsClear db J x.radio)

-- The start of the interface on the channel is granted with this power, in mBm: the channel is valid, the radio supports it, it
-- fits the rules with the power that the setting gives, and each subchannel that has to be checked is clear, for an interface that
-- sends first.
pub record IsGranted (db : List Domain) (J : Journal) (x : Iface) (c : ChanDef) (power : ℕ) : Type 0 where
  pub valid : IsValidDef c
  pub supported : IsSupported db J x c
  pub fits : FitsRules db J x c power
  pub given : IsGivenPower db J x c power
  pub clear : OnEachBound db J x c (IsClear db J x.radio)

-- A start as this kind may come: the interface is of the kind and has no running check, nor an operation unless a monitor starts.
pub record IsStartable (J : Journal) (x : Iface) (kind : Kind) : Type 0 where
  pub of_kind : x.kind ≡ kind
  pub free : InUseFor J x kind → ⊥
