-- What comes of a request for a check inside the core.
use Rattle.std.specs.Prelude.{◌≡◌, ℕ, Bool, true, false, List, ◌∷◌, Option, Some, IsTrue, Result, Ok, Err}
use Rattle.rule_tables.specs.declared.domain.Domain.{Domain}
use Rattle.chan_def.specs.Covered.{IsValidDef}
use Rattle.chan_def.specs.Kinds.{initiates}
use Rattle.chan_def.specs.declared.definition.ChanDef.{ChanDef}
use Rattle.radio_drv.specs.Seen.{Seen}
use Rattle.reg_journal.specs.Causes.{IsFree}
use Rattle.reg_journal.specs.Facts.{Journal, check_begun}
use Rattle.reg_journal.specs.Permits.{IsLengthOf}
use Rattle.reg_journal.specs.Present.{Iface, named}
use Rattle.reg_journal.specs.Refusals.{CheckCauses, IsInUse}
use Rattle.reg_core.specs.Kept.{Keeps}
use Rattle.core_parts.specs.Kept.{KeepsRadio, kept}
use Rattle.reg_books.specs.Told.{DriverHears, OneGoes}
use Rattle.core_parts.specs.Judging.{BarsBeginning}
use Rattle.reg_core.specs.inner.Starting.{Falls}
use Rattle.reg_core.specs.declared.core_state.Core.{Core}
use Rattle.core_parts.specs.declared.interface.Interface.{Interface}
use Rattle.core_parts.specs.declared.radio.Radio.{Radio}
use Rattle.reg_core.specs.declared.starting.StartFault.{StartFault}
use Rattle.reg_core.specs.declared.starting.StartFault.TheVariants.{Refused, Driver}

-- the interface is the one of this name, kept of an interface that sends first and does nothing, and the radio is its own
pub record HasRestingIface (db : List Domain) (J : Journal) (name : List ℕ) (interface : Interface) (radio : Radio) : Type 0 where
  pub iface : Iface
  pub is_named : named J name ≡ Some iface
  pub interface_is : interface ≡ kept J iface
  pub sends : IsTrue (initiates iface.kind)
  pub rests : IsInUse J iface → ⊥
  pub radio_is : KeepsRadio db J iface.radio radio

-- the interface is such a one, and nothing speaks against its check of the channel, of this length
pub record HasCheckable (db : List Domain) (J : Journal) (name : List ℕ) (c : ChanDef) (interface : Interface) (length : ℕ) : Type 0 where
  pub iface : Iface
  pub is_named : named J name ≡ Some iface
  pub interface_is : interface ≡ kept J iface
  pub sends : IsTrue (initiates iface.kind)
  pub rests : IsInUse J iface → ⊥
  pub valid : IsValidDef c
  pub free : IsFree (BarsBeginning db J iface c)
  pub length_is : IsLengthOf db J iface c length

-- the check begins, and its driver is told
pub record CheckBegins (db : List Domain) (J : Journal) (name : List ℕ) (c : ChanDef) (length : ℕ) (new : Core) (row row' : List (Option Seen)) : Type 0 where
  pub iface : Iface
  pub is_named : named J name ≡ Some iface
  pub free : IsFree (CheckCauses db J name c false)
  pub length_is : IsLengthOf db J iface c length
  pub keeps : Keeps db new (check_begun iface.index c length ∷ J)
  pub told : OneGoes iface.radio (DriverHears (record { iface = iface.index; chan = c; length_ms = length })) row row'

-- what comes of it; a refusal comes before the driver is asked
abbrev pub IsCheckOutcome : List Domain → Journal → List ℕ → ChanDef → Core → Core → List (Option Seen) → List (Option Seen) → Result ℕ StartFault → Type 0
IsCheckOutcome db J name c old new row row' (Ok length) = CheckBegins db J name c length new row row'
IsCheckOutcome db J name c old new row row' (Err (Refused e)) = ((failed : Bool) → CheckCauses db J name c failed e) × (new ≡ old) × (row' ≡ row)
IsCheckOutcome db J name c old new row row' (Err Driver) = Falls J name (CheckCauses db J name c) old new row row'
