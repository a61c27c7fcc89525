-- The drivers have on air what the interfaces do, from fact to fact.
use Rattle.std.proofs.Common.{◌≡◌, ◌==◌, ℕ, Bool, true, false, List, ◌∷◌, Contains, Option, Some, None, if◌then◌else◌, refl, sym, ap, subst, ◌∙◌, inl, inr, eq-eqb, ne_eqb}
use Rattle.std.proofs.lemmas.Bool.{cases_eq}
use Rattle.rule_tables.specs.declared.domain.Domain.{Domain}
use Rattle.chan_def.specs.declared.definition.ChanDef.{ChanDef}
use Rattle.radio_drv.specs.Air.{IsAir, started as put_on_air, stopped as taken_off}
use Rattle.radio_drv.specs.Seen.{Seen}
use Rattle.radio_drv.specs.declared.on_air.OnAir.{OnAir}
use Rattle.radio_drv.proofs.Once.{started_once, stopped_once}
use Rattle.reg_journal.specs.Due.{EachMayFollow}
use Rattle.reg_journal.specs.Facts.{Fact, Journal, started, stopped}
use Rattle.reg_journal.specs.OnAir.{entry, is_on, on_air_of}
use Rattle.reg_journal.specs.Present.{Iface, ifaces_of, is_removed}
use Rattle.reg_books.specs.Entries.{entry_on}
use Rattle.reg_books.specs.DriverRows.{AreDriven, Follows, HasOnAir, IsDriven, driver_at}
use Rattle.reg_books.specs.Told.{OneGoes, DriverTakes}
use Rattle.reg_books.proofs.AirEntries.{leaves_air, entries_alike, entry_on-left, entry_on-started, entry_on-stopped}
use Rattle.reg_books.proofs.Airs.{air_at, air_at-started, air_at-stopped}
use Rattle.reg_books.proofs.Following.{as_many, follows_at, other_driver, removed-left}
use Rattle.reg_books.proofs.Interfaces.{on_its_radio}
use Rattle.reg_books.proofs.Room.{place_for}

-- ---- places

-- a driver that hears nothing of a fact which leaves its radio's entries
pub place_left : (db : List Domain) (J J' : Journal) (r : ℕ) (place : Option Seen) → EachMayFollow db J → EachMayFollow db J' → is_removed J' r ≡ is_removed J r
    → ((i : ℕ) → entry_on J' r i ≡ entry_on J r i) → IsDriven J r place → IsDriven J' r place
place_left db J J' r None due due' gone entries driven = gone ∙ driven
place_left db J J' r (Some s) due due' gone entries driven = (
  gone ∙ driven.0,
  record {
    is_air = (driven.1).is_air;
    each = λ i. (driven.1).each i ∙ entries_alike db J r i due ∙ sym (entries i) ∙ sym (entries_alike db J' r i due');
  },
)

-- what a call makes of a list, and what a fact makes of each entry, are one change
pub record IsChange (J J' : Journal) (r : ℕ) (change : List OnAir → List OnAir) : Type 0 where
  pub moved : ℕ → Option OnAir → Option OnAir
  pub on_list : (air : List OnAir) (i : ℕ) → air_at (change air) i ≡ moved i (air_at air i)
  pub of_fact : (i : ℕ) → entry_on J' r i ≡ moved i (entry_on J r i)
  pub keeps : (air : List OnAir) → HasOnAir J r air → IsAir (change air)

-- a driver that is told of the fact
place_told : (db : List Domain) (J J' : Journal) (r : ℕ) (change : List OnAir → List OnAir) (place place' : Option Seen) → EachMayFollow db J → EachMayFollow db J'
    → is_removed J' r ≡ is_removed J r → IsChange J J' r change → DriverTakes change place place' → IsDriven J r place → IsDriven J' r place'
place_told db J J' r change None None due due' gone is takes driven = gone ∙ driven
place_told db J J' r change (Some s) (Some s') due due' gone is takes driven = (
  gone ∙ driven.0,
  record {
    is_air = subst (λ air. IsAir air) (sym takes.air) (is.keeps s.air driven.1);
    each = λ i. ap (λ air. air_at air i) takes.air ∙ is.on_list s.air i ∙ ap (λ o. is.moved i o) ((driven.1).each i ∙ entries_alike db J r i due) ∙ sym (is.of_fact i)
        ∙ sym (entries_alike db J' r i due');
  },
)
place_told db J J' r change None (Some s') due due' gone is takes driven = absurd takes
place_told db J J' r change (Some s) None due due' gone is takes driven = absurd takes

-- ---- all places

-- where nothing on air changes
pub driven_left : (db : List Domain) (f : Fact) (J : Journal) (row : List (Option Seen)) → EachMayFollow db (f ∷ J) → leaves_air f ≡ true
    → AreDriven J row → AreDriven (f ∷ J) row
driven_left db f J row due leaves driven = record {
  eight = driven.eight;
  each = λ r below. place_left db J (f ∷ J) r (driver_at row r) due.1 due (removed-left db f J r due leaves) (λ i. entry_on-left db f J r i due leaves) (driven.each r below);
}

-- where one driver is told
pub driven_at : (db : List Domain) (J J' : Journal) (q : ℕ) (change : List OnAir → List OnAir) (row row' : List (Option Seen)) → EachMayFollow db J → EachMayFollow db J'
    → ((r : ℕ) → is_removed J' r ≡ is_removed J r) → IsChange J J' q change → ((r i : ℕ) → (q ≡ r → ⊥) → entry_on J' r i ≡ entry_on J r i)
    → OneGoes q (DriverTakes change) row row' → AreDriven J row → AreDriven J' row'
driven_at db J J' q change row row' due due' gone is others goes driven = record {
  eight = as_many q (DriverTakes change) row row' goes ∙ driven.eight;
  each = λ r below. elim (cases_eq q r) [
    | inl same ↦ subst (λ n. IsDriven J' n (driver_at row' n)) same
        (place_told db J J' q change (driver_at row q) (driver_at row' q) due due' (gone q) is goes.went
        (subst (λ n. IsDriven J n (driver_at row n)) (sym same) (driven.each r below)))
    | inr other ↦ subst (λ o. IsDriven J' r o) (sym (other_driver q r (DriverTakes change) row row' goes (λ e. other (sym e))))
        (place_left db J J' r (driver_at row r) due due' (gone r) (λ i. others r i other) (driven.each r below))
  ];
}

-- ---- a start

pub follows_started : (db : List Domain) (J : Journal) (x : Iface) (chan : ChanDef) (power : ℕ) (row row' : List (Option Seen)) → EachMayFollow db J
    → Contains (ifaces_of J) x → OneGoes x.radio (DriverTakes (put_on_air (entry x.index chan power))) row row'
    → Follows J row → Follows (started x.index chan power ∷ J) row'
follows_started db J x chan power row row' due there =
    follows_at J (started x.index chan power ∷ J) x.radio (put_on_air (entry x.index chan power)) row row' (λ r. refl)
    (λ r. ap (λ b. if b then put_on_air (entry x.index chan power) (on_air_of J r) else on_air_of J r) (on_its_radio db J x r due there))

pub driven_started : (db : List Domain) (J : Journal) (x : Iface) (chan : ChanDef) (power : ℕ) (row row' : List (Option Seen))
    → EachMayFollow db (started x.index chan power ∷ J) → Contains (ifaces_of J) x → OneGoes x.radio (DriverTakes (put_on_air (entry x.index chan power))) row row'
    → AreDriven J row → AreDriven (started x.index chan power ∷ J) row'
driven_started db J x chan power row row' due there =
    driven_at db J (started x.index chan power ∷ J) x.radio (put_on_air (entry x.index chan power)) row row' due.1 due (λ r. refl) (record {
      moved = λ i o. if x.index == i then Some (entry x.index chan power) else o;
      on_list = λ air i. air_at-started (entry x.index chan power) air i;
      of_fact = λ i. after x.radio i true (on_its_radio db J x x.radio due.1 there ∙ eq-eqb x.radio x.radio refl);
      keeps = λ air has. started_once (entry x.index chan power) air (place_for db J x air due.1 there has) has.is_air;
    })
    (λ r i other. after r i false (on_its_radio db J x r due.1 there ∙ ne_eqb x.radio r other))
  where
    after : (r i : ℕ) (b : Bool) → is_on J x.index r ≡ b
        → entry_on (started x.index chan power ∷ J) r i ≡ (if b then (if x.index == i then Some (entry x.index chan power) else entry_on J r i) else entry_on J r i)
    after r i b on = entry_on-started J r i x.index chan power ∙ ap (λ b. if b then (if x.index == i then Some (entry x.index chan power) else entry_on J r i) else entry_on J r i) on

-- ---- a stop

pub follows_stopped : (db : List Domain) (J : Journal) (x : Iface) (row row' : List (Option Seen)) → EachMayFollow db J
    → Contains (ifaces_of J) x → OneGoes x.radio (DriverTakes (taken_off x.index)) row row' → Follows J row → Follows (stopped x.index ∷ J) row'
follows_stopped db J x row row' due there =
    follows_at J (stopped x.index ∷ J) x.radio (taken_off x.index) row row' (λ r. refl)
    (λ r. ap (λ b. if b then taken_off x.index (on_air_of J r) else on_air_of J r) (on_its_radio db J x r due there))

pub driven_stopped : (db : List Domain) (J : Journal) (x : Iface) (row row' : List (Option Seen)) → EachMayFollow db (stopped x.index ∷ J)
    → Contains (ifaces_of J) x → OneGoes x.radio (DriverTakes (taken_off x.index)) row row' → AreDriven J row → AreDriven (stopped x.index ∷ J) row'
driven_stopped db J x row row' due there =
    driven_at db J (stopped x.index ∷ J) x.radio (taken_off x.index) row row' due.1 due (λ r. refl) (record {
      moved = λ i o. if i == x.index then None else o;
      on_list = λ air i. air_at-stopped x.index air i;
      of_fact = λ i. after x.radio i true (on_its_radio db J x x.radio due.1 there ∙ eq-eqb x.radio x.radio refl);
      keeps = λ air has. stopped_once x.index air has.is_air;
    })
    (λ r i other. after r i false (on_its_radio db J x r due.1 there ∙ ne_eqb x.radio r other))
  where
    after : (r i : ℕ) (b : Bool) → is_on J x.index r ≡ b
        → entry_on (stopped x.index ∷ J) r i ≡ (if b then (if i == x.index then None else entry_on J r i) else entry_on J r i)
    after r i b on = entry_on-stopped J r i x.index ∙ ap (λ b. if b then (if i == x.index then None else entry_on J r i) else entry_on J r i) on
