-- How many interfaces are there: eight on each of eight radios.
use Rattle.std.proofs.Common.{◌≡◌, ◌==◌, ◌+◌, ◌*◌, ◌<◌, ◌≤◌, ℕ, zero, suc, Bool, not, List, [], ◌∷◌, ◌++◌, length, map, filter, Contains, arith, refl, ap, subst, inl, inr, eq-eqb, ne_eqb}
use Rattle.std.proofs.lemmas.Bool.{cases_eq, false≢true}
use Rattle.std.proofs.lemmas.List.{length-append}
use Rattle.std.proofs.lemmas.List.Elements.{filter-append}
use Rattle.freq_range.proofs.Members.{Contains-head}
use Rattle.rule_tables.specs.declared.domain.Domain.{Domain}
use Rattle.reg_journal.specs.Due.{EachMayFollow}
use Rattle.reg_journal.specs.Facts.{Journal, made, ended, typed, set_to}
use Rattle.reg_journal.specs.Present.{Iface, new_iface, ifaces_of, ifaces_on, is_apart, with_kind, with_setting}
use Rattle.reg_journal.proofs.Homes.{radio-with_kind, radio-with_setting}
use Rattle.reg_journal.proofs.Listed.{Contains-filter}
use Rattle.reg_journal.proofs.Operating.{there_small}
use Rattle.reg_journal.proofs.Radios.{radio_there}

-- ---- on one radio

abbrev pub is_of : ℕ → Iface → Bool
is_of r x = x.radio == r

fewer_left : (r j : ℕ) (xs : List Iface) → length (filter (is_of r) (filter (is_apart j) xs)) ≤ length (filter (is_of r) xs)
fewer_left r j [] = omega arith
fewer_left r j (x ∷ xs) =
    let rest = fewer_left r j xs in
    elim (cases_eq x.index j) [
      | inl same ↦ elim (cases_eq x.radio r) [
        | inl here ↦ rw (eq-eqb x.index j same, eq-eqb x.radio r here) (omega (arith, rest))
        | inr elsewhere ↦ rw (eq-eqb x.index j same, ne_eqb x.radio r elsewhere) rest
      ]
      | inr other ↦ elim (cases_eq x.radio r) [
        | inl here ↦ rw (ne_eqb x.index j other, eq-eqb x.radio r here) (omega (arith, rest))
        | inr elsewhere ↦ rw (ne_eqb x.index j other, ne_eqb x.radio r elsewhere) rest
      ]
    ]

as_many_changed : (r : ℕ) (g : Iface → Iface) → ((x : Iface) → (g x).radio ≡ x.radio) → (xs : List Iface)
    → length (filter (is_of r) (map g xs)) ≡ length (filter (is_of r) xs)
as_many_changed r g radio [] = refl
as_many_changed r g radio (x ∷ xs) = elim (cases_eq x.radio r) [
  | inl here ↦ rw (radio x, eq-eqb x.radio r here) (ap suc (as_many_changed r g radio xs))
  | inr elsewhere ↦ rw (radio x, ne_eqb x.radio r elsewhere) (as_many_changed r g radio xs)
]

-- a radio has eight at most
pub few_on : (db : List Domain) (J : Journal) (r : ℕ) → EachMayFollow db J → length (ifaces_on J r) ≤ 8
few_on db [] r due = omega arith
few_on db (made j name q kind ∷ J) r due =
    let was = few_on db J r due.1 in
    let split = ap (λ (xs : List Iface). length xs) (filter-append (is_of r) (ifaces_of J) (new_iface j name q kind ∷ [])) in
    elim (cases_eq q r) [
      | inl here ↦
          let few : length (ifaces_on J r) < 8 = subst (λ n. length (ifaces_on J n) < 8) here due.0.4 in
          let both = length-append (ifaces_on J r) (new_iface j name q kind ∷ []) in
          let all : length (ifaces_on (made j name q kind ∷ J) r) ≡ length (ifaces_on J r ++ new_iface j name q kind ∷ []) = rw (eq-eqb q r here) at split in
          omega (arith, few, both, all)
      | inr elsewhere ↦
          let both = length-append (ifaces_on J r) [] in
          let all : length (ifaces_on (made j name q kind ∷ J) r) ≡ length (ifaces_on J r ++ []) = rw (ne_eqb q r elsewhere) at split in
          omega (arith, was, both, all)
    ]
few_on db (ended j ∷ J) r due =
    let was = few_on db J r due.1 in
    let fewer = fewer_left r j (ifaces_of J) in
    omega (arith, was, fewer)
few_on db (typed j kind ∷ J) r due =
    let was = few_on db J r due.1 in
    let same = as_many_changed r (with_kind j kind) (radio-with_kind j kind) (ifaces_of J) in
    omega (arith, was, same)
few_on db (set_to j setting ∷ J) r due =
    let was = few_on db J r due.1 in
    let same = as_many_changed r (with_setting j setting) (radio-with_setting j setting) (ifaces_of J) in
    omega (arith, was, same)
few_on db (f ∷ J) r due = few_on db J r due.1

-- ---- on all

both_parts : (r : ℕ) (xs : List Iface) → length xs ≡ length (filter (is_of r) xs) + length (filter (λ x. not (x.radio == r)) xs)
both_parts r [] = refl
both_parts r (x ∷ xs) =
    let rest = both_parts r xs in
    elim (cases_eq x.radio r) [
      | inl here ↦ rw (eq-eqb x.radio r here) (omega (arith, rest))
      | inr elsewhere ↦ rw (ne_eqb x.radio r elsewhere) (omega (arith, rest))
    ]

part_fewer : (r q : ℕ) (xs : List Iface) → length (filter (is_of r) (filter (λ x. not (x.radio == q)) xs)) ≤ length (filter (is_of r) xs)
part_fewer r q [] = omega arith
part_fewer r q (x ∷ xs) =
    let rest = part_fewer r q xs in
    elim (cases_eq x.radio q) [
      | inl gone ↦ elim (cases_eq x.radio r) [
        | inl here ↦ rw (eq-eqb x.radio q gone, eq-eqb x.radio r here) (omega (arith, rest))
        | inr elsewhere ↦ rw (eq-eqb x.radio q gone, ne_eqb x.radio r elsewhere) rest
      ]
      | inr kept ↦ elim (cases_eq x.radio r) [
        | inl here ↦ rw (ne_eqb x.radio q kept, eq-eqb x.radio r here) (omega (arith, rest))
        | inr elsewhere ↦ rw (ne_eqb x.radio q kept, ne_eqb x.radio r elsewhere) rest
      ]
    ]

-- of radios below n, each with eight at most
few_of : (n : ℕ) (xs : List Iface) → ((x : Iface) → Contains xs x → x.radio < n) → ((r : ℕ) → length (filter (is_of r) xs) ≤ 8) → length xs ≤ 8 * n
few_of zero [] below few = omega arith
few_of zero (x ∷ xs) below few = let less = below x (Contains-head x xs) in omega (arith, less)
few_of (suc n) xs below few =
    let parts = both_parts n xs in
    let own = few n in
    let rest = few_of n (filter (λ x. not (x.radio == n)) xs) less (λ r. let all = few r in let part = part_fewer r n xs in omega (arith, all, part)) in
    omega (arith, parts, own, rest)
  where
    less : (x : Iface) → Contains (filter (λ x. not (x.radio == n)) xs) x → x.radio < n
    less x has =
        let kept = Contains-filter (λ x. not (x.radio == n)) xs x has in
        let small = below x kept.1 in
        elim (cases_eq x.radio n) [
          | inl same ↦ absurd (false≢true (rw (eq-eqb x.radio n same) at kept.0))
          | inr other ↦ omega (arith, small, other)
        ]

pub few_ifaces : (db : List Domain) (J : Journal) → EachMayFollow db J → length (ifaces_of J) ≤ 64
few_ifaces db J due = few_of 8 (ifaces_of J) (λ x has. there_small db J x.radio due (radio_there db J x due has)) (λ r. few_on db J r due)
