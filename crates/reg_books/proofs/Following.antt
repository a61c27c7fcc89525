-- The drivers follow the journal from fact to fact.
use Rattle.std.proofs.Common.{◌≡◌, ◌==◌, ℕ, Bool, true, false, List, ◌∷◌, Option, Some, None, if◌then◌else◌, length, refl, sym, ap, subst, ◌∙◌, inl, inr, eq-eqb, ne_eqb}
use Rattle.std.proofs.lemmas.Bool.{cases_eq, false≢true}
use Rattle.std.proofs.lemmas.List.{get_or-set_other, length-set}
use Rattle.std.proofs.lemmas.Option.{none-some, same_Some}
use Rattle.std.specs.Option.{option_map}
use Rattle.radio_drv.specs.Seen.{Seen}
use Rattle.radio_drv.specs.declared.on_air.OnAir.{OnAir}
use Rattle.rule_tables.specs.declared.domain.Domain.{Domain}
use Rattle.reg_journal.specs.Due.{EachMayFollow}
use Rattle.reg_journal.specs.Facts.{Fact, Journal, radio_added, radio_removed, started, stopped, powered}
use Rattle.reg_journal.specs.OnAir.{on_air_of}
use Rattle.reg_journal.specs.Present.{is_removed, is_used}
use Rattle.reg_books.specs.DriverRows.{Follows, driver_at}
use Rattle.reg_books.specs.Told.{OneGoes, DriverTakes}
use Rattle.reg_books.proofs.AirEntries.{leaves_air}

-- ---- which drivers there are

-- where no radio goes, none has gone that had not
pub removed-left : (db : List Domain) (f : Fact) (J : Journal) (r : ℕ) → EachMayFollow db (f ∷ J) → leaves_air f ≡ true → is_removed (f ∷ J) r ≡ is_removed J r
removed-left db (started i chan power) J r due leaves = refl
removed-left db (stopped i) J r due leaves = refl
removed-left db (powered i power) J r due leaves = refl
removed-left db (radio_removed q) J r due leaves = absurd (false≢true leaves)
removed-left db (radio_added q profile) J r due leaves = elim (cases_eq r q) [
  | inl same ↦ rw (eq-eqb r q same, subst (λ n. is_used J n ≡ false) (sym same) due.0.1) refl
  | inr other ↦ rw (ne_eqb r q other) refl
]
removed-left db f J r due leaves = refl

-- a driver that is told nothing is as before
pub other_driver : (q r : ℕ) (how : Option Seen → Option Seen → Type 0) (row row' : List (Option Seen)) → OneGoes q how row row' → (r ≡ q → ⊥)
    → driver_at row' r ≡ driver_at row r
other_driver q r how row row' goes other = ap (λ xs. driver_at xs r) goes.rest ∙ get_or-set_other row q r (driver_at row' q) None other

-- there are as many as before
pub as_many : (q : ℕ) (how : Option Seen → Option Seen → Type 0) (row row' : List (Option Seen)) → OneGoes q how row row' → length row' ≡ length row
as_many q how row row' goes = ap (λ (xs : List (Option Seen)). length xs) goes.rest ∙ length-set row q (driver_at row' q)

-- ---- what is on air

-- a place that follows a list, and does with it as it is told
air_taken : (change : List OnAir → List OnAir) (o o' : Option Seen) (gone : Bool) (air : List OnAir) → DriverTakes change o o'
    → option_map (λ (s : Seen). s.air) o ≡ (if gone then None else Some air) → option_map (λ (s : Seen). s.air) o' ≡ (if gone then None else Some (change air))
air_taken change (Some s) (Some s') true air takes is = absurd (none-some s.air (sym is))
air_taken change (Some s) (Some s') false air takes is = ap (λ xs. Some xs) (takes.air ∙ ap change (same_Some s.air air is))
air_taken change None None true air takes is = refl
air_taken change None None false air takes is = absurd (none-some air is)
air_taken change (Some s) None gone air takes is = absurd takes
air_taken change None (Some s') gone air takes is = absurd takes

-- what a fact does to the lists on air, told to the radio's driver
pub follows_at : (J J' : Journal) (q : ℕ) (change : List OnAir → List OnAir) (row row' : List (Option Seen))
    → ((r : ℕ) → is_removed J' r ≡ is_removed J r) → ((r : ℕ) → on_air_of J' r ≡ (if q == r then change (on_air_of J r) else on_air_of J r))
    → OneGoes q (DriverTakes change) row row' → Follows J row → Follows J' row'
follows_at J J' q change row row' gone lists goes follows = record {
  eight = as_many q (DriverTakes change) row row' goes ∙ follows.eight;
  each = λ r below. elim (cases_eq q r) [
    | inl same ↦ rw (gone r, lists r, eq-eqb q r same) (subst (λ n. option_map (λ (s : Seen). s.air) (driver_at row' n) ≡ (if is_removed J r then None else Some (change (on_air_of J r))))
        same (air_taken change (driver_at row q) (driver_at row' q) (is_removed J r) (on_air_of J r) goes.went
        (subst (λ n. option_map (λ (s : Seen). s.air) (driver_at row n) ≡ (if is_removed J r then None else Some (on_air_of J r))) (sym same) (follows.each r below))))
    | inr other ↦ rw (gone r, lists r, ne_eqb q r other, other_driver q r (DriverTakes change) row row' goes (λ e. other (sym e))) (follows.each r below)
  ];
}

-- where nothing on air changes, they follow as they are
pub follows_left : (db : List Domain) (f : Fact) (J : Journal) (row : List (Option Seen)) → EachMayFollow db (f ∷ J) → leaves_air f ≡ true
    → Follows J row → Follows (f ∷ J) row
follows_left db f J row due leaves follows = record {
  eight = follows.eight;
  each = λ r below. rw (removed-left db f J r due leaves, lists f J r leaves) (follows.each r below);
}
  where
    lists : (f : Fact) (J : Journal) (r : ℕ) → leaves_air f ≡ true → on_air_of (f ∷ J) r ≡ on_air_of J r
    lists (started i chan power) J r leaves = absurd (false≢true leaves)
    lists (stopped i) J r leaves = absurd (false≢true leaves)
    lists (powered i power) J r leaves = absurd (false≢true leaves)
    lists f J r leaves = refl
