-- No two interfaces that are there have one index.
use Rattle.std.proofs.Common.{◌≡◌, ℕ, ◌^◌, ◌==◌, ◌<◌, Bool, List, [], ◌∷◌, ◌++◌, map, filter, Contains, sym, ap, ◌∙◌, inl, inr, arith, eq-eqb, ne_eqb}
use Rattle.std.proofs.lemmas.Bool.{cases_Bool, cases_eq}
use Rattle.std.proofs.lemmas.List.Elements.{Contains-push_cases}
use Rattle.freq_range.proofs.Members.{Contains-head, Contains-later, Contains-nothing}
use Rattle.rule_tables.specs.declared.domain.Domain.{Domain}
use Rattle.reg_journal.specs.Due.{EachMayFollow}
use Rattle.reg_journal.specs.Facts.{Journal, made, ended, typed, set_to, radio_added, radio_removed}
use Rattle.reg_journal.specs.Present.{Iface, abilities_of, ifaces_of, ifaces_on, is_apart, new_iface, with_kind, with_setting}
use Rattle.reg_journal.proofs.Homes.{index-with_kind, index-with_setting, none_next}
use Rattle.reg_journal.proofs.Listed.{Contains-filter, Contains-map}
use Rattle.reg_journal.proofs.Radios.{home_listed}

-- no interface of the list has the index
abbrev pub LacksIndex : List Iface → ℕ → Type 0
LacksIndex xs i = (x : Iface) → Contains xs x → x.index ≡ i → ⊥

-- no two have one index
abbrev pub AreApart : List Iface → Type 0
AreApart [] = Unit {0}
AreApart (x ∷ xs) = LacksIndex xs x.index × AreApart xs

apart-push : (xs : List Iface) (y : Iface) → AreApart xs → LacksIndex xs y.index → AreApart (xs ++ y ∷ [])
apart-push [] y apart lacks = (λ z has same. Contains-nothing z has, tt)
apart-push (x ∷ xs) y (first, apart) lacks = (
  λ z has same. elim (Contains-push_cases xs y z has) [
    | inl was ↦ first z was same
    | inr new ↦ lacks x (Contains-head x xs) (sym (ap (λ (w : Iface). w.index) new ∙ same))
  ],
  apart-push xs y apart (λ z has. lacks z (Contains-later x xs z has)),
)

pub apart-filter : (p : Iface → Bool) (xs : List Iface) → AreApart xs → AreApart (filter p xs)
apart-filter p [] apart = tt
apart-filter p (x ∷ xs) (first, apart) = elim (cases_Bool (p x)) [
  | inl passes ↦ rw passes (λ z has same. first z (Contains-filter p xs z has).1 same, apart-filter p xs apart)
  | inr fails ↦ rw fails (apart-filter p xs apart)
]

apart-map : (g : Iface → Iface) → ((x : Iface) → (g x).index ≡ x.index) → (xs : List Iface) → AreApart xs → AreApart (map g xs)
apart-map g index [] apart = tt
apart-map g index (x ∷ xs) (first, apart) = (
  λ z has same.
      let from = Contains-map g xs z has in
      first from.0 from.1 (sym (index from.0) ∙ ap (λ (w : Iface). w.index) from.2 ∙ same ∙ index x),
  apart-map g index xs apart,
)

pub ifaces_apart : (db : List Domain) (J : Journal) → EachMayFollow db J → AreApart (ifaces_of J)
ifaces_apart db [] due = tt
ifaces_apart db (made i name r kind ∷ J) due =
    apart-push (ifaces_of J) (new_iface i name r kind) (ifaces_apart db J due.1)
    (λ x has same. none_next db J x.index x.radio due.1 (same ∙ due.0.0) (home_listed db J x due.1 has))
ifaces_apart db (ended i ∷ J) due = apart-filter (is_apart i) (ifaces_of J) (ifaces_apart db J due.1)
ifaces_apart db (typed i kind ∷ J) due = apart-map (with_kind i kind) (index-with_kind i kind) (ifaces_of J) (ifaces_apart db J due.1)
ifaces_apart db (set_to i setting ∷ J) due = apart-map (with_setting i setting) (index-with_setting i setting) (ifaces_of J) (ifaces_apart db J due.1)
ifaces_apart db (f ∷ J) due = ifaces_apart db J due.1

pub ifaces_on_apart : (db : List Domain) (J : Journal) (r : ℕ) → EachMayFollow db J → AreApart (ifaces_on J r)
ifaces_on_apart db J r due = apart-filter (λ x. x.radio == r) (ifaces_of J) (ifaces_apart db J due)

-- ---- powers of radios

-- a radio's power fits 16 bits
pub power_fits : (db : List Domain) (J : Journal) (r : ℕ) → EachMayFollow db J → (abilities_of J r).power_mbm < 2 ^ 16
power_fits db [] r due = omega arith
power_fits db (radio_added q profile ∷ J) r due = elim (cases_eq r q) [
  | inl same ↦ rw (eq-eqb r q same) due.0.2.power_fits
  | inr other ↦ rw (ne_eqb r q other) (power_fits db J r due.1)
]
power_fits db (radio_removed q ∷ J) r due = elim (cases_eq r q) [
  | inl same ↦ rw (eq-eqb r q same) (omega arith)
  | inr other ↦ rw (ne_eqb r q other) (power_fits db J r due.1)
]
power_fits db (f ∷ J) r due = power_fits db J r due.1
