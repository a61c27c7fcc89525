-- What stays as it was while more facts come.
use Rattle.std.proofs.Common.{◌≡◌, ℕ, ◌+◌, ◌≤◌, List, [], ◌∷◌, ◌++◌, Some, arith, ne_eqb}
use Rattle.rule_tables.specs.declared.domain.Domain.{Domain}
use Rattle.reg_journal.specs.Facts.{Fact, Journal, moment_is, made}
use Rattle.reg_journal.specs.Present.{now_of, made_of, radio_of}
use Rattle.reg_journal.specs.Due.{EachMayFollow}
use Rattle.reg_journal.proofs.Homes.{radio_given}

-- older facts came where they might
pub due_older : (db : List Domain) (newer base : Journal) → EachMayFollow db (newer ++ base) → EachMayFollow db base
due_older db [] base due = due
due_older db (f ∷ newer) base due = due_older db newer base due.1

-- time does not go back
now_step : (db : List Domain) (f : Fact) (J : Journal) → EachMayFollow db (f ∷ J) → now_of J ≤ now_of (f ∷ J)
now_step db (moment_is moment) J due = due.0.0
now_step db f J due = omega arith

pub now_later : (db : List Domain) (newer base : Journal) → EachMayFollow db (newer ++ base) → now_of base ≤ now_of (newer ++ base)
now_later db [] base due = omega arith
now_later db (f ∷ newer) base due =
    let step = now_step db f (newer ++ base) due in
    let later = now_later db newer base due.1 in
    omega arith

-- an index that was given isn't given again
pub not_again : (db : List Domain) (J : Journal) (i j r : ℕ) → EachMayFollow db J → j ≡ made_of J + 1 → radio_of J i ≡ Some r → i ≡ j → ⊥
not_again db J i j r due next radio same =
    let below = radio_given db J i r due radio in
    absurd (omega arith)

-- the radio of an interface stays
pub radio_later : (db : List Domain) (newer base : Journal) (i r : ℕ) → EachMayFollow db (newer ++ base) → radio_of base i ≡ Some r
    → radio_of (newer ++ base) i ≡ Some r
radio_later db [] base i r due radio = radio
radio_later db (made j name q kind ∷ newer) base i r due radio =
    let was = radio_later db newer base i r due.1 radio in
    rw (ne_eqb i j (not_again db (newer ++ base) i j r due.1 due.0.0 was)) was
radio_later db (f ∷ newer) base i r due radio = radio_later db newer base i r due.1 radio
