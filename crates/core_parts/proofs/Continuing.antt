-- How the drivers go on over changes.
use Rattle.std.proofs.Common.{◌≡◌, ◌==◌, ℕ, Bool, true, false, List, [], ◌∷◌, Contains, Option, Some, None, IsSome, IsSomeAnd, if◌then◌else◌, le_refl, arith, refl, sym, ap, subst, ◌∙◌, inl, inr, eq-eqb, ne_eqb}
use Rattle.std.proofs.lemmas.Bool.{cases_eq}
use Rattle.std.proofs.lemmas.Option.{none-some}
use Rattle.std.specs.Option.{option_map}
use Rattle.rule_tables.specs.declared.domain.Domain.{Domain}
use Rattle.radio_drv.specs.Air.{powered as given_power, stopped as taken_off, with_power as entry_with_power}
use Rattle.radio_drv.specs.Seen.{Seen}
use Rattle.radio_drv.specs.declared.on_air.OnAir.{OnAir}
use Rattle.radio_drv.proofs.Once.{powered_once, stopped_once}
use Rattle.reg_journal.specs.Due.{EachMayFollow}
use Rattle.reg_journal.specs.Facts.{Fact, Journal, after, check_dropped, powered, stopped}
use Rattle.reg_journal.specs.OnAir.{is_on, on_air_of}
use Rattle.reg_journal.specs.Present.{Iface, Operation, check_of, ifaces_of, operation_of}
use Rattle.reg_journal.specs.declared.reply.Reply.{Reply}
use Rattle.reg_journal.specs.declared.request.Request.{Request}
use Rattle.reg_books.specs.Entries.{entry_on}
use Rattle.reg_books.specs.DriverRows.{AreDriven, Follows, GoesOn, driver_at}
use Rattle.reg_books.specs.Told.{DriverTakes, OneGoes, RunsOn}
use Rattle.core_parts.specs.Changes.{AreEachTold, CanAllCome, IsInterfaceOf, IsTold, fact_of, facts_of, interface_in}
use Rattle.core_parts.specs.declared.change.Change.{Change}
use Rattle.core_parts.specs.declared.change.Change.TheVariants.{Stopped, Powered, Dropped, Ended}
use Rattle.reg_journal.proofs.Operations.{no_check_beside, some_value}
use Rattle.reg_books.proofs.AirEntries.{both, entry_on-powered, leaves_air, on_air_entry}
use Rattle.reg_books.proofs.Airs.{air_at, air_at-powered, air_at-stopped}
use Rattle.reg_books.proofs.Driven.{driven_at, driven_left, driven_stopped, follows_stopped}
use Rattle.reg_books.proofs.Following.{follows_at, follows_left, other_driver}
use Rattle.reg_books.proofs.Interfaces.{on_its_radio}
use Rattle.reg_books.proofs.KeepUp.{BeginsNothing, KeepUp}

-- The drivers follow to the next journal and have on air what operates there, where they did. None is told of a check.
pub record Continues (J next : Journal) (row row' : List (Option Seen)) : Type 0 where
  pub follows : Follows J row → Follows next row'
  pub driven : AreDriven J row → AreDriven next row'
  pub on : (r : ℕ) (s' : Seen) → driver_at row' r ≡ Some s' → IsSomeAnd (driver_at row r) (λ s. RunsOn s s')

-- ---- one driver

same_runs_on : (s : Seen) → RunsOn s s
same_runs_on s = record { told = refl; later = le_refl s.count; steady = refl; never = λ steady. refl }

pub still : (o : Option Seen) (s' : Seen) → o ≡ Some s' → IsSomeAnd o (λ s. RunsOn s s')
still o s' is = subst (λ p. IsSomeAnd p (λ s. RunsOn s s')) (sym is) (same_runs_on s')

taken_on : (change : List OnAir → List OnAir) (o o' : Option Seen) (s' : Seen) → DriverTakes change o o' → o' ≡ Some s' → IsSomeAnd o (λ s. RunsOn s s')
taken_on change o o' s' takes there = by o (subst (λ p. DriverTakes change o p) there takes)
  where
    by : (o : Option Seen) → DriverTakes change o (Some s') → IsSomeAnd o (λ s. RunsOn s s')
    by None takes = absurd takes
    by (Some s) takes = takes.on

pub one_runs_on : (radio : ℕ) (change : List OnAir → List OnAir) (row row' : List (Option Seen)) → OneGoes radio (DriverTakes change) row row'
    → (r : ℕ) (s' : Seen) → driver_at row' r ≡ Some s' → IsSomeAnd (driver_at row r) (λ s. RunsOn s s')
one_runs_on radio change row row' goes r s' there = elim (cases_eq r radio) [
  | inl same ↦ taken_on change (driver_at row r) (driver_at row' r) s' (subst (λ n. DriverTakes change (driver_at row n) (driver_at row' n)) (sym same) goes.went) there
  | inr other ↦ still (driver_at row r) s' (sym (other_driver radio r (DriverTakes change) row row' goes other) ∙ there)
]

-- ---- one after the other

runs_on_twice : (a b c : Seen) → RunsOn a b → RunsOn b c → RunsOn a c
runs_on_twice a b c one other = record {
  told = other.told ∙ one.told;
  later = let first = one.later in let second = other.later in omega (arith, first, second);
  steady = other.steady ∙ one.steady;
  never = λ steady. other.never (one.steady ∙ steady) ∙ one.never steady;
}

pub continues_twice : (J K next : Journal) (a b c : List (Option Seen)) → Continues J K a b → Continues K next b c → Continues J next a c
continues_twice J K next a b c one other = record {
  follows = λ follows. other.follows (one.follows follows);
  driven = λ driven. other.driven (one.driven driven);
  on = λ r s' there. first r s' (driver_at b r) refl (other.on r s' there);
}
  where
    second : (s s' : Seen) (o : Option Seen) → RunsOn s s' → IsSomeAnd o (λ t. RunsOn t s) → IsSomeAnd o (λ t. RunsOn t s')
    second s s' None runs was = absurd was
    second s s' (Some t) runs was = runs_on_twice t s s' was runs

    first : (r : ℕ) (s' : Seen) (o : Option Seen) → driver_at b r ≡ o → IsSomeAnd o (λ s. RunsOn s s') → IsSomeAnd (driver_at a r) (λ s. RunsOn s s')
    first r s' None at runs = absurd runs
    first r s' (Some s) at runs = second s s' (driver_at a r) runs (one.on r s at)

pub continues_same : (J : Journal) (row : List (Option Seen)) → Continues J J row row
continues_same J row = record { follows = λ follows. follows; driven = λ driven. driven; on = λ r s' there. still (driver_at row r) s' there }

-- a fact that leaves what is on air
pub continues_left : (db : List Domain) (J : Journal) (f : Fact) (row : List (Option Seen)) → EachMayFollow db (f ∷ J) → leaves_air f ≡ true → Continues J (f ∷ J) row row
continues_left db J f row due leaves = record {
  follows = follows_left db f J row due leaves;
  driven = driven_left db f J row due leaves;
  on = λ r s' there. still (driver_at row r) s' there;
}

-- ---- changes

continues_stopped : (db : List Domain) (J : Journal) (x : Iface) (row row' : List (Option Seen)) → EachMayFollow db (stopped x.index ∷ J) → Contains (ifaces_of J) x
    → OneGoes x.radio (DriverTakes (taken_off x.index)) row row' → Continues J (stopped x.index ∷ J) row row'
continues_stopped db J x row row' due there goes = record {
  follows = follows_stopped db J x row row' due.1 there goes;
  driven = driven_stopped db J x row row' due there goes;
  on = one_runs_on x.radio (taken_off x.index) row row' goes;
}

continues_powered : (db : List Domain) (J : Journal) (x : Iface) (power : ℕ) (row row' : List (Option Seen)) → EachMayFollow db (powered x.index power ∷ J) → Contains (ifaces_of J) x
    → OneGoes x.radio (DriverTakes (given_power x.index power)) row row' → Continues J (powered x.index power ∷ J) row row'
continues_powered db J x power row row' due there goes = record {
  follows = follows_at J (powered x.index power ∷ J) x.radio (given_power x.index power) row row' (λ r. refl)
      (λ r. ap (λ b. if b then given_power x.index power (on_air_of J r) else on_air_of J r) (on_its_radio db J x r due.1 there)) goes;
  driven = driven_at db J (powered x.index power ∷ J) x.radio (given_power x.index power) row row' due.1 due (λ r. refl) (record {
    moved = λ i o. if i == x.index then option_map (entry_with_power x.index power) o else o;
    on_list = λ air i. air_at-powered x.index power air i;
    of_fact = λ i. given x.radio i true (on_its_radio db J x x.radio due.1 there ∙ eq-eqb x.radio x.radio refl);
    keeps = λ air has. powered_once x.index power air has.is_air;
  }) (λ r i other. given r i false (on_its_radio db J x r due.1 there ∙ ne_eqb x.radio r other)) goes;
  on = one_runs_on x.radio (given_power x.index power) row row' goes;
}
  where
    given : (r i : ℕ) (b : Bool) → is_on J x.index r ≡ b → entry_on (powered x.index power ∷ J) r i
        ≡ (if b then (if i == x.index then option_map (entry_with_power x.index power) (entry_on J r i) else entry_on J r i) else entry_on J r i)
    given r i b on = entry_on-powered J r i x.index power
        ∙ ap (λ b. if b then (if i == x.index then option_map (entry_with_power x.index power) (entry_on J r i) else entry_on J r i) else entry_on J r i) on

-- ---- a check that is dropped

idle_where_checked : (db : List Domain) (J : Journal) (i : ℕ) → EachMayFollow db J → IsSome (check_of J i) → operation_of J i ≡ None
idle_where_checked db J i due checks = by (operation_of J i) refl
  where
    by : (o : Option Operation) → operation_of J i ≡ o → operation_of J i ≡ None
    by None is = is
    by (Some o) is = let (k, some) = some_value (check_of J i) checks in absurd (none-some k (sym (no_check_beside db J i o due is) ∙ some))

-- an interface that checks has nothing on air
nothing_on_air : (J : Journal) (r i : ℕ) → operation_of J i ≡ None → entry_on J r i ≡ None
nothing_on_air J r i idle = rw idle (sym (both (is_on J i r) None))

-- so a list stays as its interface is taken off
stays_on_air : (i : ℕ) (air : List OnAir) → air_at air i ≡ None → air ≡ taken_off i air
stays_on_air i [] none = refl
stays_on_air i (e ∷ air) none = elim (cases_eq e.iface i) [
  | inl same ↦ let bad : Some e ≡ None = rw (eq-eqb e.iface i same) at none in cc
  | inr other ↦ rw (ne_eqb e.iface i other) (ap (λ es. e ∷ es) (stays_on_air i air (rw (ne_eqb e.iface i other) at none)))
]

continues_dropped : (db : List Domain) (J : Journal) (x : Iface) (row row' : List (Option Seen)) → EachMayFollow db (check_dropped x.index ∷ J) → Contains (ifaces_of J) x
    → OneGoes x.radio (DriverTakes (taken_off x.index)) row row' → Continues J (check_dropped x.index ∷ J) row row'
continues_dropped db J x row row' due there goes = record {
  follows = follows_at J (check_dropped x.index ∷ J) x.radio (taken_off x.index) row row' (λ r. refl) lists goes;
  driven = driven_at db J (check_dropped x.index ∷ J) x.radio (taken_off x.index) row row' due.1 due (λ r. refl) (record {
    moved = λ i o. if i == x.index then None else o;
    on_list = λ air i. air_at-stopped x.index air i;
    of_fact = λ i. entries i;
    keeps = λ air has. stopped_once x.index air has.is_air;
  }) (λ r i other. refl) goes;
  on = one_runs_on x.radio (taken_off x.index) row row' goes;
}
  where
    idle : operation_of J x.index ≡ None
    idle = idle_where_checked db J x.index due.1 due.0

    lists : (r : ℕ) → on_air_of (check_dropped x.index ∷ J) r ≡ (if x.radio == r then taken_off x.index (on_air_of J r) else on_air_of J r)
    lists r = both (x.radio == r) (on_air_of J r)
        ∙ ap (λ air. if x.radio == r then air else on_air_of J r) (stays_on_air x.index (on_air_of J r) (on_air_entry db J r x.index due.1 ∙ nothing_on_air J r x.index idle))

    entries : (i : ℕ) → entry_on (check_dropped x.index ∷ J) x.radio i ≡ (if i == x.index then None else entry_on J x.radio i)
    entries i = elim (cases_eq i x.index) [
      | inl same ↦ rw (eq-eqb i x.index same) (subst (λ n. entry_on J x.radio n ≡ None) (sym same) (nothing_on_air J x.radio x.index idle))
      | inr other ↦ rw (ne_eqb i x.index other) refl
    ]

pub continues_change : (db : List Domain) (J : Journal) (x : Iface) (c : Change) (row row' : List (Option Seen)) → EachMayFollow db (fact_of c ∷ J) → IsInterfaceOf J x (interface_in c)
    → IsTold c row row' → Continues J (fact_of c ∷ J) row row'
continues_change db J x (Stopped p) row row' due is told =
    subst (λ n. Continues J (stopped n ∷ J) row row') (sym is.index)
    (continues_stopped db J x row row' (subst (λ n. EachMayFollow db (stopped n ∷ J)) is.index due) is.there
    (subst (λ r. OneGoes r (DriverTakes (taken_off x.index)) row row') is.radio (subst (λ n. OneGoes p.radio (DriverTakes (taken_off n)) row row') is.index told)))
continues_change db J x (Powered p power) row row' due is told =
    subst (λ n. Continues J (powered n power ∷ J) row row') (sym is.index)
    (continues_powered db J x power row row' (subst (λ n. EachMayFollow db (powered n power ∷ J)) is.index due) is.there
    (subst (λ r. OneGoes r (DriverTakes (given_power x.index power)) row row') is.radio (subst (λ n. OneGoes p.radio (DriverTakes (given_power n power)) row row') is.index told)))
continues_change db J x (Dropped p) row row' due is told =
    subst (λ n. Continues J (check_dropped n ∷ J) row row') (sym is.index)
    (continues_dropped db J x row row' (subst (λ n. EachMayFollow db (check_dropped n ∷ J)) is.index due) is.there
    (subst (λ r. OneGoes r (DriverTakes (taken_off x.index)) row row') is.radio (subst (λ n. OneGoes p.radio (DriverTakes (taken_off n)) row row') is.index told)))
continues_change db J x (Ended p) row row' due is told = subst (λ h. Continues J (fact_of (Ended p) ∷ J) row h) (sym told) (continues_left db J (fact_of (Ended p)) row due refl)

pub continues_all : (db : List Domain) (J : Journal) (cs : List Change) (row row' : List (Option Seen)) → EachMayFollow db J → CanAllCome db J cs → AreEachTold cs row row'
    → Continues J (after (facts_of cs) J) row row'
continues_all db J [] row row' due can told = subst (λ h. Continues J J row h) (sym told) (continues_same J row)
continues_all db J (c ∷ cs) row row' due (may, (x, is), can) (between, told, rest) =
    continues_twice J (fact_of c ∷ J) (after (facts_of cs) (fact_of c ∷ J)) row between row' (continues_change db J x c row between (may, due) is told)
    (continues_all db (fact_of c ∷ J) cs between row' (may, due) can rest)

-- ---- a request that begins no check

pub keep_up_of : (J next : Journal) (q : Request) (reply : Reply) (row row' : List (Option Seen)) → BeginsNothing J q reply → Continues J next row row' → KeepUp J next q reply row row'
keep_up_of J next q reply row row' begins continues = record {
  follows = continues.follows;
  driven = continues.driven;
  drivers = λ r s' there. by r s' (driver_at row r) (continues.on r s' there);
}
  where
    by : (r : ℕ) (s' : Seen) (o : Option Seen) → IsSomeAnd o (λ s. RunsOn s s') → IsSomeAnd o (λ s. GoesOn J q reply r s s')
    by r s' None runs = absurd runs
    by r s' (Some s) runs = record { told = runs.told ∙ sym (begins r s.told); later = runs.later; steady = runs.steady; never = runs.never }
