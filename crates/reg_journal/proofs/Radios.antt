-- The radio of an interface that is there.
use Rattle.std.proofs.Common.{◌≡◌, ℕ, ◌==◌, true, List, ◌∷◌, [], Contains, Some, IsSome, subst, inl, inr, eq-eqb, ne_eqb}
use Rattle.std.proofs.lemmas.Bool.{cases_eq, false≢true, or_left, or_right}
use Rattle.std.proofs.lemmas.Option.{none-some, same_Some}
use Rattle.rule_tables.specs.declared.domain.Domain.{Domain}
use Rattle.reg_journal.specs.Due.{EachMayFollow}
use Rattle.reg_journal.specs.Facts.{Journal, radio_added, radio_removed, made}
use Rattle.reg_journal.specs.Present.{Iface, ifaces_of, is_used, profile_of, radio_of}
use Rattle.reg_journal.proofs.Homes.{home_of, radio_of_home}
use Rattle.reg_journal.proofs.Listed.{home_of_indexed, indexed_listed}
use Rattle.reg_journal.proofs.Operating.{home_there}

-- it is there on its radio
pub home_listed : (db : List Domain) (J : Journal) (x : Iface) → EachMayFollow db J → Contains (ifaces_of J) x → home_of J x.index ≡ Some x.radio
home_listed db J x due has = home_of_indexed J x.index x (indexed_listed db J x due has)

-- which is the one on which it was made
pub radio_listed : (db : List Domain) (J : Journal) (x : Iface) → EachMayFollow db J → Contains (ifaces_of J) x → radio_of J x.index ≡ Some x.radio
radio_listed db J x due has = radio_of_home db J x.index x.radio due (home_listed db J x due has)

-- and which is there
pub radio_there : (db : List Domain) (J : Journal) (x : Iface) → EachMayFollow db J → Contains (ifaces_of J) x → IsSome (profile_of J x.radio)
radio_there db J x due has = home_there db J x.index x.radio due (home_listed db J x due has)

-- a radio that is there was added
pub profile_used : (J : Journal) (r : ℕ) → IsSome (profile_of J r) → is_used J r ≡ true
profile_used [] r there = absurd (false≢true there)
profile_used (radio_added q profile ∷ J) r there = elim (cases_eq r q) [
  | inl same ↦ or_left (r == q) (is_used J r) (eq-eqb r q same)
  | inr other ↦ or_right (r == q) (is_used J r) (profile_used J r (rw (ne_eqb r q other) at there))
]
profile_used (radio_removed q ∷ J) r there = elim (cases_eq r q) [
  | inl same ↦ absurd (false≢true (rw (eq-eqb r q same) at there))
  | inr other ↦ profile_used J r (rw (ne_eqb r q other) at there)
]
profile_used (f ∷ J) r there = profile_used J r there

-- so was one on which an interface was made
pub radio_used : (db : List Domain) (J : Journal) (i r : ℕ) → EachMayFollow db J → radio_of J i ≡ Some r → is_used J r ≡ true
radio_used db [] i r due radio = absurd (none-some r radio)
radio_used db (made j name q kind ∷ J) i r due radio = elim (cases_eq i j) [
  | inl same ↦ subst (λ n. is_used J n ≡ true) (same_Some q r (rw (eq-eqb i j same) at radio)) (profile_used J q due.0.3)
  | inr other ↦ radio_used db J i r due.1 (rw (ne_eqb i j other) at radio)
]
radio_used db (radio_added q profile ∷ J) i r due radio = or_right (r == q) (is_used J r) (radio_used db J i r due.1 radio)
radio_used db (f ∷ J) i r due radio = radio_used db J i r due.1 radio
