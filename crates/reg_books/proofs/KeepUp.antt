-- What a step leaves of the drivers.
use Rattle.std.proofs.Common.{◌≡◌, ◌==◌, ◌<◌, ℕ, true, List, [], Contains, Option, Some, None, IsSomeAnd, length, le_refl, refl, sym, ap, subst, ◌∙◌, ◌∷◌, inl, inr, eq-eqb, ne_eqb}
use Rattle.std.proofs.lemmas.Bool.{cases_eq}
use Rattle.std.proofs.lemmas.Option.{none-some, same_Some}
use Rattle.std.specs.Option.{option_map}
use Rattle.rule_tables.specs.declared.domain.Domain.{Domain}
use Rattle.chan_def.specs.declared.definition.ChanDef.{ChanDef}
use Rattle.radio_drv.specs.Air.{started as put_on_air, stopped as taken_off}
use Rattle.radio_drv.specs.Seen.{Seen}
use Rattle.radio_drv.specs.declared.on_air.CheckTold.{CheckTold}
use Rattle.radio_drv.specs.declared.on_air.OnAir.{OnAir}
use Rattle.radio_drv.proofs.Once.{nothing_once}
use Rattle.reg_journal.specs.Due.{EachMayFollow}
use Rattle.reg_journal.specs.Facts.{Fact, Journal, check_begun, started, stopped}
use Rattle.reg_journal.specs.OnAir.{entry, on_air_of}
use Rattle.reg_journal.specs.Present.{Iface, ifaces_of, named}
use Rattle.reg_journal.specs.declared.reply.Reply.{Reply}
use Rattle.reg_journal.specs.declared.request.Request.{Request}
use Rattle.reg_journal.specs.declared.request.Request.TheVariants.{Check}
use Rattle.reg_journal.specs.declared.reply.Answer.TheVariants.{Checking}
use Rattle.reg_journal.specs.declared.reply.Reply.TheVariants.{Plain}
use Rattle.reg_books.specs.DriverRows.{AllGoOn, AreDriven, Follows, GoesOn, HasFailed, HasOnAir, HasRisen, IsDriven, driven_radio, driver_at, told_after}
use Rattle.reg_books.specs.Told.{DriverFails, DriverHears, OneGoes, DriverTakes}
use Rattle.reg_books.proofs.AirEntries.{both, leaves_air}
use Rattle.reg_books.proofs.Driven.{driven_at, driven_left, driven_started, driven_stopped, follows_started, follows_stopped}
use Rattle.reg_books.proofs.Following.{as_many, follows_at, follows_left, other_driver}

-- The drivers follow to the next journal and have on air what operates there, where they did, and each goes on.
pub record KeepUp (J next : Journal) (q : Request) (reply : Reply) (row row' : List (Option Seen)) : Type 0 where
  pub follows : Follows J row → Follows next row'
  pub driven : AreDriven J row → AreDriven next row'
  pub drivers : AllGoOn J q reply row row'

-- ---- each goes on

-- the request begins no check
abbrev pub BeginsNothing : Journal → Request → Reply → Type 0
BeginsNothing J q reply = (r : ℕ) (before : Option CheckTold) → told_after J q reply r before ≡ before

-- only a request for a check begins one
pub begins_nothing : (J : Journal) (q : Request) (reply : Reply) → ((name : List ℕ) (c : ChanDef) → q ≡ Check name c → ⊥) → BeginsNothing J q reply
begins_nothing J (Check name c) reply other r before = absurd (other name c refl)
begins_nothing J q reply other r before = refl

-- a driver that hears nothing
same_goes_on : (J : Journal) (q : Request) (reply : Reply) (r : ℕ) (place : Option Seen) (s' : Seen) → BeginsNothing J q reply → place ≡ Some s'
    → IsSomeAnd place (λ s. GoesOn J q reply r s s')
same_goes_on J q reply r place s' begins there =
    subst (λ o. IsSomeAnd o (λ s. GoesOn J q reply r s s')) (sym there)
    (record { told = sym (begins r s'.told); later = le_refl s'.count; steady = refl; never = λ steady. refl })

-- a driver that is told something other than a check
told_goes_on : (J : Journal) (q : Request) (reply : Reply) (r : ℕ) (change : List OnAir → List OnAir) (place place' : Option Seen) (s' : Seen)
    → BeginsNothing J q reply → DriverTakes change place place' → place' ≡ Some s' → IsSomeAnd place (λ s. GoesOn J q reply r s s')
told_goes_on J q reply r change place place' s' begins takes there = by place (subst (λ o. DriverTakes change place o) there takes)
  where
    by : (place : Option Seen) → DriverTakes change place (Some s') → IsSomeAnd place (λ s. GoesOn J q reply r s s')
    by None takes = absurd takes
    by (Some s) takes = record {
      told = (takes.on).told ∙ sym (begins r s.told);
      later = (takes.on).later;
      steady = (takes.on).steady;
      never = (takes.on).never;
    }

all_go_on : (J : Journal) (q : Request) (reply : Reply) (radio : ℕ) (change : List OnAir → List OnAir) (row row' : List (Option Seen))
    → BeginsNothing J q reply → OneGoes radio (DriverTakes change) row row' → AllGoOn J q reply row row'
all_go_on J q reply radio change row row' begins goes r s' there = elim (cases_eq r radio) [
  | inl same ↦ told_goes_on J q reply r change (driver_at row r) (driver_at row' r) s' begins
      (subst (λ n. DriverTakes change (driver_at row n) (driver_at row' n)) (sym same) goes.went) there
  | inr other ↦ same_goes_on J q reply r (driver_at row r) s' begins (sym (other_driver radio r (DriverTakes change) row row' goes other) ∙ there)
]

-- ---- where no driver is told anything

-- a request that is refused
pub drivers_at_refusal : (J : Journal) (q : Request) (reply : Reply) (row : List (Option Seen)) → BeginsNothing J q reply → KeepUp J J q reply row row
drivers_at_refusal J q reply row begins = record {
  follows = λ follows. follows;
  driven = λ driven. driven;
  drivers = λ r s' there. same_goes_on J q reply r (driver_at row r) s' begins there;
}

-- a fact that leaves what is on air
pub drivers_at_rest : (db : List Domain) (J : Journal) (f : Fact) (q : Request) (reply : Reply) (row : List (Option Seen))
    → EachMayFollow db (f ∷ J) → leaves_air f ≡ true → BeginsNothing J q reply → KeepUp J (f ∷ J) q reply row row
drivers_at_rest db J f q reply row due leaves begins = record {
  follows = follows_left db f J row due leaves;
  driven = driven_left db f J row due leaves;
  drivers = λ r s' there. same_goes_on J q reply r (driver_at row r) s' begins there;
}

-- ---- where one is told

-- a start of the interface, by the numbers of its radio and itself
pub drivers_at_start : (db : List Domain) (J : Journal) (x : Iface) (chan : ChanDef) (power : ℕ) (q : Request) (reply : Reply) (row row' : List (Option Seen))
    (radio index : ℕ) → radio ≡ x.radio → index ≡ x.index → EachMayFollow db (started x.index chan power ∷ J) → Contains (ifaces_of J) x → BeginsNothing J q reply
    → OneGoes radio (DriverTakes (put_on_air (entry index chan power))) row row' → KeepUp J (started x.index chan power ∷ J) q reply row row'
drivers_at_start db J x chan power q reply row row' radio index its_radio its_index due there begins goes =
    let told : OneGoes x.radio (DriverTakes (put_on_air (entry x.index chan power))) row row' =
    subst (λ r. OneGoes r (DriverTakes (put_on_air (entry x.index chan power))) row row') its_radio
    (subst (λ i. OneGoes radio (DriverTakes (put_on_air (entry i chan power))) row row') its_index goes) in
    record {
      follows = follows_started db J x chan power row row' due.1 there told;
      driven = driven_started db J x chan power row row' due there told;
      drivers = all_go_on J q reply x.radio (put_on_air (entry x.index chan power)) row row' begins told;
    }

-- a stop
pub drivers_at_stop : (db : List Domain) (J : Journal) (x : Iface) (q : Request) (reply : Reply) (row row' : List (Option Seen)) (radio index : ℕ)
    → radio ≡ x.radio → index ≡ x.index → EachMayFollow db (stopped x.index ∷ J) → Contains (ifaces_of J) x → BeginsNothing J q reply
    → OneGoes radio (DriverTakes (taken_off index)) row row' → KeepUp J (stopped x.index ∷ J) q reply row row'
drivers_at_stop db J x q reply row row' radio index its_radio its_index due there begins goes =
    let told : OneGoes x.radio (DriverTakes (taken_off x.index)) row row' =
    subst (λ r. OneGoes r (DriverTakes (taken_off x.index)) row row') its_radio
    (subst (λ i. OneGoes radio (DriverTakes (taken_off i)) row row') its_index goes) in
    record {
      follows = follows_stopped db J x row row' due.1 there told;
      driven = driven_stopped db J x row row' due there told;
      drivers = all_go_on J q reply x.radio (taken_off x.index) row row' begins told;
    }

-- ---- where one fails

-- it keeps what it has on air
fails_takes : (place place' : Option Seen) → DriverFails place place' → DriverTakes (λ air. air) place place'
fails_takes (Some s) (Some s') fails = record { air = fails.air; on = fails.on }
fails_takes (Some s) None fails = absurd fails
fails_takes None (Some s') fails = absurd fails
fails_takes None None fails = absurd fails

fails_risen : (place place' : Option Seen) → DriverFails place place' → HasRisen place place'
fails_risen (Some s) (Some s') fails = (fails.unsteady, fails.rose)
fails_risen (Some s) None fails = absurd fails
fails_risen None (Some s') fails = absurd fails
fails_risen None None fails = absurd fails

-- a request that is refused where the driver of its radio fails
pub drivers_at_failure : (db : List Domain) (J : Journal) (q : Request) (reply : Reply) (row row' : List (Option Seen))
    (radio : ℕ) → driven_radio J q ≡ Some radio → BeginsNothing J q reply → EachMayFollow db J → OneGoes radio DriverFails row row'
    → KeepUp J J q reply row row' × HasFailed J q row row'
drivers_at_failure db J q reply row row' radio driven begins due goes =
    let stays : OneGoes radio (DriverTakes (λ air. air)) row row' =
    record { went = fails_takes (driver_at row radio) (driver_at row' radio) goes.went; rest = goes.rest } in (
      record {
        follows = follows_at J J radio (λ air. air) row row' (λ r. refl) (λ r. both (radio == r) (on_air_of J r)) stays;
        driven = driven_at db J J radio (λ air. air) row row' due due (λ r. refl)
            (record { moved = λ i o. o; on_list = λ air i. refl; of_fact = λ i. refl; keeps = λ air has. has.is_air }) (λ r i other. refl) stays;
        drivers = all_go_on J q reply radio (λ air. air) row row' begins stays;
      },
      rw driven (fails_risen (driver_at row radio) (driver_at row' radio) goes.went),
    )

-- ---- where one is told of a check

-- what is on air stays
hears_air : (check : CheckTold) (place place' : Option Seen) → DriverHears check place place' → option_map (λ (s : Seen). s.air) place' ≡ option_map (λ (s : Seen). s.air) place
hears_air check (Some s) (Some s') hears = ap (λ air. Some air) hears.air
hears_air check (Some s) None hears = absurd hears
hears_air check None place' hears = absurd hears

all_air : (radio : ℕ) (check : CheckTold) (row row' : List (Option Seen)) → OneGoes radio (DriverHears check) row row' → (r : ℕ)
    → option_map (λ (s : Seen). s.air) (driver_at row' r) ≡ option_map (λ (s : Seen). s.air) (driver_at row r)
all_air radio check row row' goes r = elim (cases_eq r radio) [
  | inl same ↦ subst (λ n. option_map (λ (s : Seen). s.air) (driver_at row' n) ≡ option_map (λ (s : Seen). s.air) (driver_at row n)) (sym same)
      (hears_air check (driver_at row radio) (driver_at row' radio) goes.went)
  | inr other ↦ ap (option_map (λ (s : Seen). s.air)) (other_driver radio r (DriverHears check) row row' goes other)
]

-- drivers that have on air what others have follow as they do
follows_air : (J : Journal) (row row' : List (Option Seen)) → length row' ≡ length row
    → ((r : ℕ) → option_map (λ (s : Seen). s.air) (driver_at row' r) ≡ option_map (λ (s : Seen). s.air) (driver_at row r)) → Follows J row → Follows J row'
follows_air J row row' long same follows = record { eight = long ∙ follows.eight; each = λ r below. same r ∙ follows.each r below }

driven_air : (J : Journal) (r : ℕ) (o o' : Option Seen) → option_map (λ (s : Seen). s.air) o' ≡ option_map (λ (s : Seen). s.air) o → IsDriven J r o → IsDriven J r o'
driven_air J r None None same driven = driven
driven_air J r None (Some s') same driven = absurd (none-some s'.air (sym same))
driven_air J r (Some s) None same driven = absurd (none-some s.air same)
driven_air J r (Some s) (Some s') same driven = (driven.0, subst (HasOnAir J r) (same_Some s.air s'.air (sym same)) driven.1)

-- each driver goes on, and that of the interface's radio is told of its check
check_goes_on : (J : Journal) (x : Iface) (name : List ℕ) (c : ChanDef) (ms : ℕ) (row row' : List (Option Seen)) → named J name ≡ Some x
    → OneGoes x.radio (DriverHears (record { iface = x.index; chan = c; length_ms = ms })) row row' → AllGoOn J (Check name c) (Plain (Checking ms) []) row row'
check_goes_on J x name c ms row row' is goes r s' there = elim (cases_eq r x.radio) [
  | inl same ↦
      hears r same (driver_at row r) (subst (λ o. DriverHears (record { iface = x.index; chan = c; length_ms = ms }) (driver_at row r) o) there
      (subst (λ n. DriverHears (record { iface = x.index; chan = c; length_ms = ms }) (driver_at row n) (driver_at row' n)) (sym same) goes.went))
  | inr other ↦
      subst (λ o. IsSomeAnd o (λ s. GoesOn J (Check name c) (Plain (Checking ms) []) r s s'))
      (sym (sym (other_driver x.radio r (DriverHears (record { iface = x.index; chan = c; length_ms = ms })) row row' goes other) ∙ there))
      (record { told = sym (untold r other s'.told); later = le_refl s'.count; steady = refl; never = λ steady. refl })
]
  where
    told : (r : ℕ) → r ≡ x.radio → (before : Option CheckTold) → told_after J (Check name c) (Plain (Checking ms) []) r before ≡ Some (record { iface = x.index; chan = c; length_ms = ms })
    told r same before = rw (is, eq-eqb x.radio r (sym same)) refl

    untold : (r : ℕ) → (r ≡ x.radio → ⊥) → (before : Option CheckTold) → told_after J (Check name c) (Plain (Checking ms) []) r before ≡ before
    untold r other before = rw (is, ne_eqb x.radio r (λ same. other (sym same))) refl

    hears : (r : ℕ) → r ≡ x.radio → (o : Option Seen) → DriverHears (record { iface = x.index; chan = c; length_ms = ms }) o (Some s')
        → IsSomeAnd o (λ s. GoesOn J (Check name c) (Plain (Checking ms) []) r s s')
    hears r same None takes = absurd takes
    hears r same (Some s) takes = record { told = takes.told ∙ sym (told r same s.told); later = takes.later; steady = takes.steady; never = takes.never }

pub drivers_at_check : (db : List Domain) (J : Journal) (x : Iface) (name : List ℕ) (c : ChanDef) (ms : ℕ) (row row' : List (Option Seen)) → EachMayFollow db (check_begun x.index c ms ∷ J)
    → named J name ≡ Some x → OneGoes x.radio (DriverHears (record { iface = x.index; chan = c; length_ms = ms })) row row'
    → KeepUp J (check_begun x.index c ms ∷ J) (Check name c) (Plain (Checking ms) []) row row'
drivers_at_check db J x name c ms row row' due is goes =
    let same = all_air x.radio (record { iface = x.index; chan = c; length_ms = ms }) row row' goes in
    let long = as_many x.radio (DriverHears (record { iface = x.index; chan = c; length_ms = ms })) row row' goes in
    record {
      follows = λ follows. follows_air (check_begun x.index c ms ∷ J) row row' long same (follows_left db (check_begun x.index c ms) J row due refl follows);
      driven = λ driven.
          let left = driven_left db (check_begun x.index c ms) J row due refl driven in
          record { eight = long ∙ left.eight; each = λ r below. driven_air (check_begun x.index c ms ∷ J) r (driver_at row r) (driver_at row' r) (same r) (left.each r below) };
      drivers = check_goes_on J x name c ms row row' is goes;
    }

-- ---- at first

-- eight drivers with nothing on air
pub drivers_at_first : (row : List (Option Seen)) → length row ≡ 8 → ((r : ℕ) → r < 8 → IsSomeAnd (driver_at row r) (λ s. s.air ≡ []))
    → Follows [] row × AreDriven [] row
drivers_at_first row eight silent = (
  record { eight = eight; each = λ r below. followed (driver_at row r) (silent r below) },
  record { eight = eight; each = λ r below. driven r (driver_at row r) (silent r below) },
)
  where
    followed : (place : Option Seen) → IsSomeAnd place (λ s. s.air ≡ []) → option_map (λ (s : Seen). s.air) place ≡ Some []
    followed None is = absurd is
    followed (Some s) is = ap (λ air. Some air) is

    driven : (r : ℕ) (place : Option Seen) → IsSomeAnd place (λ s. s.air ≡ []) → IsDriven [] r place
    driven r None is = absurd is
    driven r (Some s) is = (refl, subst (λ air. HasOnAir [] r air) (sym is) (record { is_air = nothing_once; each = λ i. refl }))
