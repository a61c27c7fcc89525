-- The interface of a name, as it is kept, and its radio.
use Rattle.std.proofs.Common.{◌≡◌, ℕ, List, Some, None, map, subst, true, false, Option, IsSome, refl, ap}
use Rattle.std.proofs.lemmas.Bool.{false≢true}
use Rattle.rule_tables.specs.declared.domain.Domain.{Domain}
use Rattle.reg_journal.specs.Causes.{IsFree}
use Rattle.reg_journal.specs.Due.{EachMayFollow}
use Rattle.reg_journal.specs.Facts.{Journal}
use Rattle.reg_journal.specs.Present.{profile_of, Iface, named}
use Rattle.reg_journal.specs.Refusals.{LacksRadio}
use Rattle.reg_journal.proofs.Granting.{free-where}
use Rattle.core_parts.specs.Kept.{KeepsRadio, kept}
use Rattle.core_parts.specs.Contexts.{IsOf}
use Rattle.core_parts.specs.Interfaces.{interface_named}
use Rattle.core_parts.specs.Judging.{IsAmong}
use Rattle.core_parts.specs.Reading.{AreKeptParts, HasNamedIface}
use Rattle.core_parts.specs.declared.interface.Interface.{Interface}
use Rattle.core_parts.specs.declared.radio.Radio.{Radio}
use Rattle.core_parts.specs.declared.radio.RadioPlace.{RadioPlace}
use Rattle.reg_journal.proofs.Radios.{home_listed}
use Rattle.core_parts.proofs.KeptInterfaces.{some_named}
use Rattle.reg_journal.proofs.Listed.{named_listed}
use Rattle.reg_journal.proofs.Operating.{home_there}
use Rattle.radio_drv.specs.Seen.{Seen}
use Rattle.reg_books.specs.DriverRows.{AreDriven, driver_at}
use Rattle.reg_journal.proofs.Operations.{some_of_property}
use Rattle.reg_books.proofs.Room.{room_for}

pub has_named : (db : List Domain) (J : Journal) (name : List ℕ) (interfaces : List Interface) (places : List RadioPlace) (interface : Interface) (radio : Radio)
    → AreKeptParts db J interfaces places → Some interface ≡ interface_named interfaces name → KeepsRadio db J interface.radio radio → HasNamedIface db J name interface radio
has_named db J name interfaces places interface radio are found keeps =
    let (x, is, interface_is) = some_named J name interfaces interface are.interfaces_are found in
    record {
      iface = x;
      is_named = is;
      interface_is = interface_is;
      radio_is = subst (λ (p : Interface). KeepsRadio db J p.radio radio) interface_is keeps;
    }

-- its radio is there
pub never_homeless : (db : List Domain) (J : Journal) (name : List ℕ) (interfaces : List Interface) (places : List RadioPlace) (interface : Interface)
    → AreKeptParts db J interfaces places → Some interface ≡ interface_named interfaces name → profile_of J interface.radio ≡ None → ⊥
never_homeless db J name interfaces places interface are found gone =
    let (x, is, interface_is) = some_named J name interfaces interface are.interfaces_are found in
    let there = home_there db J x.index x.radio are.due (home_listed db J x are.due (named_listed J name x is)) in
    let none = subst (λ (p : Interface). profile_of J p.radio ≡ None) interface_is gone in
    false≢true (rw none at there)

-- what is kept of it, of its radio and of all interfaces
pub named_among : (db : List Domain) (J : Journal) (name : List ℕ) (interfaces : List Interface) (places : List RadioPlace) (interface : Interface) (radio : Radio)
    → AreKeptParts db J interfaces places → (has : HasNamedIface db J name interface radio) → IsAmong db J has.iface interface interfaces radio
named_among db J name interfaces places interface radio are has = record {
  due = are.due;
  there = named_listed J name has.iface has.is_named;
  interface_is = has.interface_is;
  interfaces_are = are.interfaces_are;
  radio_is = has.radio_is;
}

pub named_is_of : (db : List Domain) (J : Journal) (name : List ℕ) (interface : Interface) (radio : Radio) → EachMayFollow db J
    → (has : HasNamedIface db J name interface radio) → IsOf db J has.iface radio.book interface
named_is_of db J name interface radio due has = record {
  due = due;
  there = named_listed J name has.iface has.is_named;
  interface_is = has.interface_is;
  channels = map (λ c. c.khz) radio.chans.chans;
  book_is = (has.radio_is).book;
}

-- ---- a radio that is there

pub radio_is_no_cause : (db : List Domain) (J : Journal) (r : ℕ) (radio : Radio) → KeepsRadio db J r radio → IsFree (LacksRadio J r)
radio_is_no_cause db J r radio keeps = free-where _ _ (λ none. let there = keeps.profile in absurd (cc (none, there)))

pub driver_for : (db : List Domain) (J : Journal) (x : Iface) (name : List ℕ) (p : Interface) (row : List (Option Seen)) → EachMayFollow db J → AreDriven J row → named J name ≡ Some x → p ≡ kept J x
    → IsSome (driver_at row p.radio)
driver_for db J x name p row due driven is kept_is =
    some_of_property (driver_at row p.radio) _
    (room_for db J x row p.radio x.index (ap (λ (q : Interface). q.radio) kept_is) refl due driven (named_listed J name x is))
