-- What an operation that starts, or doesn't, or stops leaves.
use Rattle.std.proofs.Common.{◌≡◌, ◌^◌, ◌<◌, ◌≤◌, ℕ, arith, unwrap_or, List, ◌∷◌, Option, Some, IsSome, is_some, refl, sym, subst, ap, ◌∙◌}
use Rattle.rule_tables.specs.declared.domain.Domain.{Domain}
use Rattle.chan_def.specs.declared.definition.ChanDef.{ChanDef}
use Rattle.chan_def.specs.declared.kind.Kind.{Kind}
use Rattle.radio_drv.specs.Air.{started as put_on_air, stopped as taken_off}
use Rattle.radio_drv.specs.Seen.{Seen}
use Rattle.chan_flags.specs.Profiles.{Abilities}
use Rattle.chan_flags.proofs.Granted.{power_within}
use Rattle.reg_journal.specs.Due.{EachMayFollow, MayFollow}
use Rattle.reg_journal.specs.Granted.{IsGranted}
use Rattle.reg_journal.specs.Facts.{Journal, started, stopped}
use Rattle.reg_journal.specs.OnAir.{entry}
use Rattle.reg_journal.specs.Present.{Iface, abilities_of, no_abilities, operation_of}
use Rattle.reg_journal.proofs.Granting.{power_of_granted}
use Rattle.reg_books.specs.DriverRows.{AreDriven, driver_at}
use Rattle.core_parts.specs.Judging.{IsJudged}
use Rattle.reg_core.specs.Kept.{Keeps}
use Rattle.core_parts.specs.Kept.{KeepsRadio}
use Rattle.core_parts.specs.Changes.{IsInterfaceOf}
use Rattle.reg_journal.specs.Refusals.{StartCauses}
use Rattle.reg_core.specs.inner.Starting.{Falls, HasStart, HasStop, HasFreeIface, Starts, Stops}
use Rattle.reg_books.specs.Told.{DriverFails, HasRoom, OneGoes, DriverTakes}
use Rattle.reg_core.specs.declared.core_state.Core.{Core}
use Rattle.core_parts.specs.declared.interface.Interface.{Interface}
use Rattle.core_parts.specs.declared.radio.Radio.{Radio}
use Rattle.reg_core.proofs.KeptChanges.{interface_of_kept}
use Rattle.reg_journal.proofs.Listed.{named_listed}
use Rattle.reg_books.proofs.Room.{room_for}
use Rattle.reg_core.proofs.StartReasons.{may_start, start_fails, start_free, stop_free}

-- ---- starts

-- a granted power has 16 bits
granted_small : (db : List Domain) (J : Journal) (x : Iface) (c : ChanDef) (power : ℕ) (radio : Radio) → KeepsRadio db J x.radio radio → IsGranted db J x c power → power < 2 ^ 16
granted_small db J x c power radio kept granted =
    let given = granted.given in
    let fits = (kept.is_profile).power_fits in
    let profile : abilities_of J x.radio ≡ radio.chans.profile = ap (λ o. unwrap_or o no_abilities) kept.profile in
    let most : given.limit ≤ radio.chans.profile.power_mbm = subst (λ (p : Abilities). given.limit ≤ p.power_mbm) profile (given.is_limit).radio in
    let within = power_within x.setting given.limit given.within in
    let is = given.power_is in
    omega (arith, fits, most, within, is)

-- what is granted to an interface that rests
pub has_start : (db : List Domain) (J : Journal) (name : List ℕ) (kind : Kind) (c : ChanDef) (interface : Interface) (radio : Radio) (power : ℕ)
    → (rests : HasFreeIface db J name kind interface radio) → IsGranted db J rests.iface c power → HasStart db J name kind c interface power
has_start db J name kind c interface radio power rests granted = record {
  iface = rests.iface;
  is_named = rests.is_named;
  interface_is = rests.interface_is;
  startable = rests.startable;
  granted = granted;
  small = granted_small db J rests.iface c power radio rests.radio_is granted;
}

-- what the core keeps of it
pub is_judged : (db : List Domain) (J : Journal) (name : List ℕ) (kind : Kind) (interface : Interface) (radio : Radio) (core : Core) (interfaces : List Interface) → Keeps db core J
    → (rests : HasFreeIface db J name kind interface radio) → interfaces ≡ core.interfaces → IsJudged db J rests.iface interface interfaces radio core.indoor
is_judged db J name kind interface radio core interfaces s rests same = record {
  among = record {
    due = s.due;
    there = named_listed J name rests.iface rests.is_named;
    interface_is = rests.interface_is;
    interfaces_are = same ∙ s.interfaces;
    radio_is = rests.radio_is;
  };
  indoor_is = s.indoor;
}

-- the driver has a place for the interface
pub start_has_room : (db : List Domain) (J : Journal) (name : List ℕ) (kind : Kind) (c : ChanDef) (interface : Interface) (power : ℕ) (row : List (Option Seen)) → EachMayFollow db J
    → AreDriven J row → HasStart db J name kind c interface power → HasRoom (driver_at row interface.radio) interface.index
start_has_room db J name kind c interface power row due driven has =
    room_for db J has.iface row interface.radio interface.index (ap (λ (p : Interface). p.radio) has.interface_is) (ap (λ (p : Interface). p.index) has.interface_is) due driven
    (named_listed J name has.iface has.is_named)

pub starts_done : (db : List Domain) (J : Journal) (name : List ℕ) (kind : Kind) (c : ChanDef) (interface : Interface) (power : ℕ) (old new : Core)
    (row row' : List (Option Seen)) → Keeps db old J → HasStart db J name kind c interface power
    → ((x : Iface) → Keeps db old J → IsInterfaceOf J x interface → EachMayFollow db (started x.index c power ∷ J) → Keeps db new (started x.index c power ∷ J))
    → OneGoes interface.radio (DriverTakes (put_on_air (entry interface.index c power))) row row'
    → Starts db J name kind c power new row row'
starts_done db J name kind c interface power old new row row' s has operated told =
    let x = has.iface in
    let there = named_listed J name x has.is_named in
    record {
      iface = x;
      is_named = has.is_named;
      free = start_free db J name kind c interface power has;
      granted = has.granted;
      power_is = power_of_granted db J x c power has.granted;
      keeps = operated x s (interface_of_kept J x interface there has.interface_is) ((may_start db J x kind s.due there has.startable, (has.granted).valid, has.small), s.due);
      told = subst (λ (p : Interface). OneGoes p.radio (DriverTakes (put_on_air (entry p.index c power))) row row') has.interface_is told;
    }

pub falls_done : (db : List Domain) (J : Journal) (name : List ℕ) (kind : Kind) (c : ChanDef) (interface : Interface) (power : ℕ) (core : Core)
    (row row' : List (Option Seen)) → HasStart db J name kind c interface power → OneGoes interface.radio DriverFails row row' → Falls J name (StartCauses db J name kind c) core core row row'
falls_done db J name kind c interface power core row row' has told = record {
  iface = has.iface;
  is_named = has.is_named;
  cause = start_fails db J name kind c interface power has;
  unchanged = refl;
  told = subst (λ (p : Interface). OneGoes p.radio DriverFails row row') has.interface_is told;
}

-- ---- stops

pub stops_done : (db : List Domain) (J : Journal) (name : List ℕ) (kind : Kind) (interface : Interface) (old new : Core)
    (row row' : List (Option Seen)) → Keeps db old J → HasStop J name kind interface
    → ((x : Iface) → Keeps db old J → MayFollow db J (stopped interface.index) → IsInterfaceOf J x interface → Keeps db new (stopped interface.index ∷ J))
    → OneGoes interface.radio (DriverTakes (taken_off interface.index)) row row' → Stops db J name kind new row row'
stops_done db J name kind interface old new row row' s has committed told =
    let x = has.iface in
    let is = interface_of_kept J x interface (named_listed J name x has.is_named) has.interface_is in
    record {
      iface = x;
      is_named = has.is_named;
      free = stop_free J name kind x has.operation has.is_named has.right_kind has.operates;
      keeps = subst (λ i. Keeps db new (stopped i ∷ J)) is.index (committed x s (subst (λ i. IsSome (operation_of J i)) (sym is.index) (ap is_some has.operates)) is);
      told = subst (λ (p : Interface). OneGoes p.radio (DriverTakes (taken_off p.index)) row row') has.interface_is told;
    }
