-- The radio of an interface that is there is there too.
use Rattle.std.proofs.Common.{◌≡◌, ◌==◌, ◌<◌, ℕ, Bool, true, false, ◌&&◌, not, List, [], ◌∷◌, filter, Some, IsSome, is_some, refl, sym, subst, inl, inr, eq-eqb, ne_eqb}
use Rattle.std.proofs.lemmas.Bool.{cases_eq, false≢true}
use Rattle.std.proofs.lemmas.Option.{none-some, same_Some}
use Rattle.rule_tables.specs.declared.domain.Domain.{Domain}
use Rattle.reg_journal.specs.Facts.{Journal, radio_added, radio_removed, made}
use Rattle.reg_journal.specs.Present.{Iface, new_iface, ifaces_of, ifaces_on, is_removed, is_used, profile_of}
use Rattle.reg_journal.specs.Due.{EachMayFollow}
use Rattle.reg_journal.proofs.Homes.{home_cases, home_in, home_in-last, home_of}

-- an interface that is there is one of its radio's
home_on : (xs : List Iface) (i r : ℕ) → home_in xs i ≡ Some r → filter (λ x. x.radio == r) xs ≡ [] → ⊥
home_on [] i r is none = none-some r is
home_on (x ∷ xs) i r is none = elim (cases_eq x.radio r) [
  | inl here ↦ let some = rw (eq-eqb x.radio r here) at none in absurd cc
  | inr elsewhere ↦ elim (cases_eq x.index i) [
    | inl same ↦ elsewhere (same_Some x.radio r (rw (eq-eqb x.index i same) at is))
    | inr other ↦ home_on xs i r (rw (ne_eqb x.index i other) at is) (rw (ne_eqb x.radio r elsewhere) at none)
  ]
]

-- and the radio is there
pub home_there : (db : List Domain) (J : Journal) (i r : ℕ) → EachMayFollow db J → home_of J i ≡ Some r → IsSome (profile_of J r)
home_there db [] i r due is = absurd (none-some r is)
home_there db (made j name q kind ∷ J) i r due is = elim (home_in-last (ifaces_of J) (new_iface j name q kind) i r is) [
  | inl was ↦ home_there db J i r due.1 was
  | inr new ↦ subst (λ n. IsSome (profile_of J n)) new.1 due.0.3
]
home_there db (radio_added q profile ∷ J) i r due is = elim (cases_eq r q) [
  | inl same ↦ rw (eq-eqb r q same) refl
  | inr other ↦ rw (ne_eqb r q other) (home_there db J i r due.1 is)
]
home_there db (radio_removed q ∷ J) i r due is = elim (cases_eq r q) [
  | inl same ↦ absurd (home_on (ifaces_of J) i r is (subst (λ n. ifaces_on J n ≡ []) (sym same) due.0.1))
  | inr other ↦ rw (ne_eqb r q other) (home_there db J i r due.1 is)
]
home_there db (f ∷ J) i r due is = elim (home_cases f J i r is) [
  | inl was ↦ home_there db J i r due.1 was
  | inr new ↦ let making = new.2 in absurd cc
]

-- a radio that is there has not gone
pub there_stays : (J : Journal) (r : ℕ) → IsSome (profile_of J r) → is_removed J r ≡ false
there_stays J r there = gone (is_used J r) (is_some (profile_of J r)) there
  where
    gone : (used there : Bool) → there ≡ true → (used && not there) ≡ false
    gone true true is = refl
    gone false true is = refl
    gone used false is = absurd (false≢true is)

-- and has a small number
pub there_small : (db : List Domain) (J : Journal) (r : ℕ) → EachMayFollow db J → IsSome (profile_of J r) → r < 8
there_small db [] r due there = absurd (false≢true there)
there_small db (radio_added q profile ∷ J) r due there = elim (cases_eq r q) [
  | inl same ↦ subst (λ n. n < 8) (sym same) due.0.0
  | inr other ↦ there_small db J r due.1 (rw (ne_eqb r q other) at there)
]
there_small db (radio_removed q ∷ J) r due there = elim (cases_eq r q) [
  | inl same ↦ absurd (false≢true (rw (eq-eqb r q same) at there))
  | inr other ↦ there_small db J r due.1 (rw (ne_eqb r q other) at there)
]
there_small db (f ∷ J) r due there = there_small db J r due.1 there
