-- Changes of interfaces: the facts that they are, and what they tell drivers and replies.
use Rattle.std.specs.Prelude.{◌≡◌, List, [], ◌∷◌, map, Contains, Option, None, Some}
use Rattle.rule_tables.specs.declared.domain.Domain.{Domain}
use Rattle.radio_drv.specs.Air.{powered as given_power, stopped as taken_off}
use Rattle.radio_drv.specs.Seen.{Seen}
use Rattle.reg_journal.specs.Due.{MayFollow}
use Rattle.reg_journal.specs.Facts.{Fact, Journal, ended, stopped, powered, check_dropped}
use Rattle.reg_journal.specs.Present.{Iface, ifaces_of}
use Rattle.reg_journal.specs.declared.effects.Effect.{Effect}
use Rattle.reg_journal.specs.declared.effects.Effect.TheVariants.{Stopped as EffectStopped, Dropped as EffectDropped, Power}
use Rattle.reg_books.specs.Slots.{slot_of}
use Rattle.reg_books.specs.Told.{DriverTakes, OneGoes}
use Rattle.core_parts.specs.declared.change.Change.{Change}
use Rattle.core_parts.specs.declared.change.Change.TheVariants.{Stopped, Powered, Dropped, Ended}
use Rattle.core_parts.specs.declared.interface.Interface.{Interface}

-- the fact that a change is
abbrev pub fact_of : Change → Fact
fact_of (Stopped p) = stopped p.index
fact_of (Powered p power) = powered p.index power
fact_of (Dropped p) = check_dropped p.index
fact_of (Ended p) = ended p.index

abbrev pub facts_of : List Change → List Fact
facts_of changes = map fact_of changes

-- what is kept of the interface to which it comes
abbrev pub interface_in : Change → Interface
interface_in (Stopped p) = p
interface_in (Powered p power) = p
interface_in (Dropped p) = p
interface_in (Ended p) = p

-- what a reply tells of it
abbrev pub effect_in : Change → Option Effect
effect_in (Stopped p) = Some (EffectStopped p.name)
effect_in (Powered p power) = Some (Power p.name power)
effect_in (Dropped p) = Some (EffectDropped p.name)
effect_in (Ended p) = None

-- The interface is there, and this is kept of it, whatever it does.
pub record IsInterfaceOf (J : Journal) (x : Iface) (p : Interface) : Type 0 where
  pub there : Contains (ifaces_of J) x
  pub index : p.index ≡ x.index
  pub name : p.name ≡ x.name
  pub radio : p.radio ≡ x.radio
  pub slot : p.slot ≡ slot_of J x.index
  pub kind : p.kind ≡ x.kind

-- The changes may come one after the other, each to an interface that is there.
abbrev pub CanAllCome : List Domain → Journal → List Change → Type 0
CanAllCome db J [] = Unit {0}
CanAllCome db J (c ∷ changes) = MayFollow db J (fact_of c) × ((x : Iface) × IsInterfaceOf J x (interface_in c)) × CanAllCome db (fact_of c ∷ J) changes

-- what a change tells the drivers: a check that is dropped is told as a stop
abbrev pub IsTold : Change → List (Option Seen) → List (Option Seen) → Type 0
IsTold (Stopped p) row row' = OneGoes p.radio (DriverTakes (taken_off p.index)) row row'
IsTold (Powered p power) row row' = OneGoes p.radio (DriverTakes (given_power p.index power)) row row'
IsTold (Dropped p) row row' = OneGoes p.radio (DriverTakes (taken_off p.index)) row row'
IsTold (Ended p) row row' = row' ≡ row

-- what one change after the other tells them
abbrev pub AreEachTold : List Change → List (Option Seen) → List (Option Seen) → Type 0
AreEachTold [] row row' = row' ≡ row
AreEachTold (c ∷ changes) row row' = (between : List (Option Seen)) × IsTold c row between × AreEachTold changes between row'
