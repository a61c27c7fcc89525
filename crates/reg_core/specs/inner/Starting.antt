-- What comes of starts and stops inside the core.
use Rattle.std.specs.Prelude.{◌≡◌, ℕ, ◌^◌, ◌<◌, Bool, true, false, List, ◌∷◌, Option, Some, None, Result, Ok, Err}
use Rattle.rule_tables.specs.declared.domain.Domain.{Domain}
use Rattle.chan_def.specs.declared.definition.ChanDef.{ChanDef}
use Rattle.chan_def.specs.declared.kind.Kind.{Kind}
use Rattle.radio_drv.specs.Air.{started as put_on_air, stopped as taken_off}
use Rattle.radio_drv.specs.Seen.{Seen}
use Rattle.reg_journal.specs.Causes.{IsFree}
use Rattle.reg_journal.specs.Facts.{Journal, started, stopped}
use Rattle.reg_journal.specs.Granted.{IsGranted, IsStartable}
use Rattle.reg_journal.specs.OnAir.{entry}
use Rattle.reg_journal.specs.Permits.{IsPowerOf}
use Rattle.reg_journal.specs.Present.{Iface, Operation, named, operation_of}
use Rattle.reg_journal.specs.Refusals.{StartCauses, StopCauses}
use Rattle.reg_journal.specs.declared.refusal.Refusal.{Refusal}
use Rattle.reg_journal.specs.declared.refusal.Refusal.TheVariants.{DriverFailed}
use Rattle.reg_core.specs.Kept.{Keeps}
use Rattle.core_parts.specs.Kept.{KeepsRadio, kept}
use Rattle.reg_books.specs.Told.{DriverFails, OneGoes, DriverTakes}
use Rattle.reg_core.specs.declared.core_state.Core.{Core}
use Rattle.core_parts.specs.declared.interface.Interface.{Interface}
use Rattle.core_parts.specs.declared.radio.Radio.{Radio}
use Rattle.reg_core.specs.declared.starting.StartFault.{StartFault}
use Rattle.reg_core.specs.declared.starting.StartFault.TheVariants.{Refused, Driver}

-- the interface is the one of this name, kept of an interface that may start as the kind, and the radio is its own
pub record HasFreeIface (db : List Domain) (J : Journal) (name : List ℕ) (kind : Kind) (interface : Interface) (radio : Radio) : Type 0 where
  pub iface : Iface
  pub is_named : named J name ≡ Some iface
  pub interface_is : interface ≡ kept J iface
  pub startable : IsStartable J iface kind
  pub radio_is : KeepsRadio db J iface.radio radio

-- the interface is such a one, and its start on the channel is granted with the power
pub record HasStart (db : List Domain) (J : Journal) (name : List ℕ) (kind : Kind) (c : ChanDef) (interface : Interface) (power : ℕ) : Type 0 where
  pub iface : Iface
  pub is_named : named J name ≡ Some iface
  pub interface_is : interface ≡ kept J iface
  pub startable : IsStartable J iface kind
  pub granted : IsGranted db J iface c power
  pub small : power < 2 ^ 16

-- the interface starts, and its driver is told
pub record Starts (db : List Domain) (J : Journal) (name : List ℕ) (kind : Kind) (c : ChanDef) (power : ℕ) (new : Core) (row row' : List (Option Seen)) : Type 0 where
  pub iface : Iface
  pub is_named : named J name ≡ Some iface
  pub free : IsFree (StartCauses db J name kind c false)
  pub granted : IsGranted db J iface c power
  pub power_is : IsPowerOf db J iface c power
  pub keeps : Keeps db new (started iface.index c power ∷ J)
  pub told : OneGoes iface.radio (DriverTakes (put_on_air (entry iface.index c power))) row row'

-- its driver fails, and nothing changes but the count of its faults
pub record Falls (J : Journal) (name : List ℕ) (causes : Bool → Refusal → Type 0) (old new : Core) (row row' : List (Option Seen)) : Type 0 where
  pub iface : Iface
  pub is_named : named J name ≡ Some iface
  pub cause : causes true DriverFailed
  pub unchanged : new ≡ old
  pub told : OneGoes iface.radio DriverFails row row'

-- what comes of a start; a refusal comes before the driver is asked
abbrev pub IsStart : List Domain → Journal → List ℕ → Kind → ChanDef → Core → Core → List (Option Seen) → List (Option Seen) → Result ℕ StartFault → Type 0
IsStart db J name kind c old new row row' (Ok power) = Starts db J name kind c power new row row'
IsStart db J name kind c old new row row' (Err (Refused e)) = ((failed : Bool) → StartCauses db J name kind c failed e) × (new ≡ old) × (row' ≡ row)
IsStart db J name kind c old new row row' (Err Driver) = Falls J name (StartCauses db J name kind c) old new row row'

-- the interface is the one of this name, kept of an interface of the kind that operates
pub record HasStop (J : Journal) (name : List ℕ) (kind : Kind) (interface : Interface) : Type 0 where
  pub iface : Iface
  pub is_named : named J name ≡ Some iface
  pub interface_is : interface ≡ kept J iface
  pub right_kind : iface.kind ≡ kind
  pub operation : Operation
  pub operates : operation_of J iface.index ≡ Some operation

-- the interface stops, and its driver is told
pub record Stops (db : List Domain) (J : Journal) (name : List ℕ) (kind : Kind) (new : Core) (row row' : List (Option Seen)) : Type 0 where
  pub iface : Iface
  pub is_named : named J name ≡ Some iface
  pub free : IsFree (StopCauses J name kind)
  pub keeps : Keeps db new (stopped iface.index ∷ J)
  pub told : OneGoes iface.radio (DriverTakes (taken_off iface.index)) row row'

abbrev pub IsStop : List Domain → Journal → List ℕ → Kind → Core → Core → List (Option Seen) → List (Option Seen) → Result (Unit {0}) Refusal → Type 0
IsStop db J name kind old new row row' (Ok x) = Stops db J name kind new row row'
IsStop db J name kind old new row row' (Err e) = StopCauses J name kind e × (new ≡ old) × (row' ≡ row)
