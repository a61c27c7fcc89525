-- The list on air of a radio has each interface once, and drivers that follow have on air what operates.
use Rattle.std.proofs.Common.{◌≡◌, ◌==◌, ℕ, Bool, true, false, List, [], ◌∷◌, Contains, Option, Some, None, IsSomeAnd, if◌then◌else◌, refl, sym, ap, subst, ◌∙◌, ◌⊎◌, eqb-true}
use Rattle.std.proofs.lemmas.Bool.{cond_both}
use Rattle.std.proofs.lemmas.Option.{none-some, same_Some}
use Rattle.std.specs.Option.{option_map}
use Rattle.rule_tables.specs.declared.domain.Domain.{Domain}
use Rattle.chan_def.specs.declared.kind.Kind.TheVariants.{Monitor}
use Rattle.radio_drv.specs.Air.{HasPlace, IsAir, started as put_on_air, stopped as taken_off, powered as given_power}
use Rattle.radio_drv.specs.Seen.{Seen}
use Rattle.radio_drv.proofs.Once.{nothing_once, powered_once, started_once, stopped_once}
use Rattle.reg_journal.specs.Due.{EachMayFollow}
use Rattle.reg_journal.specs.Facts.{Journal, started, stopped, powered}
use Rattle.reg_journal.specs.OnAir.{entry, is_on, on_air_of}
use Rattle.reg_journal.specs.Present.{Iface, ifaces_of, indexed, is_removed, operation_of}
use Rattle.reg_books.specs.DriverRows.{AreDriven, Follows, HasOnAir, IsDriven, driver_at}
use Rattle.reg_books.proofs.AirEntries.{entries_alike, on_air_entry}
use Rattle.reg_books.proofs.Interfaces.{on_its_radio}
use Rattle.reg_journal.proofs.Listed.{Contains-find, index_of_indexed}
use Rattle.reg_books.proofs.Room.{place_for}

-- a list that has each interface once has exactly the operations
has_on_air : (db : List Domain) (J : Journal) (r : ℕ) → EachMayFollow db J → IsAir (on_air_of J r) → HasOnAir J r (on_air_of J r)
has_on_air db J r due once = record { is_air = once; each = λ i. on_air_entry db J r i due ∙ sym (entries_alike db J r i due) }

-- it has a place for an interface that may start
place_to_start : (db : List Domain) (J : Journal) (r j : ℕ) → EachMayFollow db J → is_on J j r ≡ true → IsAir (on_air_of J r)
    → IsSomeAnd (indexed J j) (λ x. (operation_of J j ≡ None) ⊎ (x.kind ≡ Monitor)) → HasPlace (on_air_of J r) j
place_to_start db J r j due on once there = by (indexed J j) refl there
  where
    by : (found : Option Iface) → indexed J j ≡ found → IsSomeAnd found (λ x. (operation_of J j ≡ None) ⊎ (x.kind ≡ Monitor)) → HasPlace (on_air_of J r) j
    by None none is = absurd is
    by (Some x) some is =
        let index = index_of_indexed J j x some in
        let has : Contains (ifaces_of J) x = Contains-find (λ y. y.index == j) (ifaces_of J) x some in
        let radio : x.radio ≡ r = eqb-true x.radio r (sym (on_its_radio db J x r due has) ∙ ap (λ n. is_on J n r) index ∙ on) in
        subst (λ n. HasPlace (on_air_of J r) n) index
        (place_for db J x (on_air_of J r) due has (subst (λ q. HasOnAir J q (on_air_of J r)) (sym radio) (has_on_air db J r due once)))

-- at most eight entries, each interface once
pub on_air_once : (db : List Domain) (J : Journal) (r : ℕ) → EachMayFollow db J → IsAir (on_air_of J r)
on_air_once db [] r due = nothing_once
on_air_once db (started j chan power ∷ J) r due =
    let once = on_air_once db J r due.1 in
    cond_both (is_on J j r) (put_on_air (entry j chan power) (on_air_of J r)) (on_air_of J r) IsAir
    (λ on. started_once (entry j chan power) (on_air_of J r) (place_to_start db J r j due.1 on once due.0.0.1) once) (λ off. once)
on_air_once db (stopped j ∷ J) r due =
    let once = on_air_once db J r due.1 in
    cond_both (is_on J j r) (taken_off j (on_air_of J r)) (on_air_of J r) IsAir (λ on. stopped_once j (on_air_of J r) once) (λ off. once)
on_air_once db (powered j power ∷ J) r due =
    let once = on_air_once db J r due.1 in
    cond_both (is_on J j r) (given_power j power (on_air_of J r)) (on_air_of J r) IsAir (λ on. powered_once j power (on_air_of J r) once) (λ off. once)
on_air_once db (f ∷ J) r due = on_air_once db J r due.1

-- drivers that follow have on air what operates
pub driven_where_followed : (db : List Domain) (J : Journal) (row : List (Option Seen)) → EachMayFollow db J → Follows J row → AreDriven J row
driven_where_followed db J row due follows = record { eight = follows.eight; each = λ r below. by r (driver_at row r) (is_removed J r) refl (follows.each r below) }
  where
    by : (r : ℕ) (place : Option Seen) (gone : Bool) → is_removed J r ≡ gone
        → option_map (λ (s : Seen). s.air) place ≡ (if gone then None else Some (on_air_of J r)) → IsDriven J r place
    by r None true gone is = gone
    by r None false gone is = absurd (none-some (on_air_of J r) is)
    by r (Some s) true gone is = absurd (none-some s.air (sym is))
    by r (Some s) false gone is = (gone, subst (λ air. HasOnAir J r air) (sym (same_Some s.air (on_air_of J r) is)) (has_on_air db J r due (on_air_once db J r due)))
