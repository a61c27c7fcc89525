-- On which radio an interface is there.
use Rattle.std.proofs.Common.{◌≡◌, ℕ, ◌+◌, ◌==◌, ◌≤◌, List, [], ◌∷◌, ◌++◌, map, filter, find, Option, Some, None, if◌then◌else◌, arith, refl, sym, ap, subst, ◌∙◌, ◌⊎◌, inl, inr, eq-eqb, ne_eqb, option_map, true, false}
use Rattle.std.proofs.lemmas.Bool.{cases_eq}
use Rattle.std.proofs.lemmas.Option.{none-some, same_Some}
use Rattle.rule_tables.specs.declared.domain.Domain.{Domain}
use Rattle.chan_def.specs.declared.kind.Kind.{Kind}
use Rattle.chan_flags.specs.declared.verdict.PowerSetting.{PowerSetting}
use Rattle.reg_journal.specs.Facts.{Fact, Journal, made, ended, typed, set_to}
use Rattle.reg_journal.specs.Present.{Iface, new_iface, with_kind, with_setting, is_apart, ifaces_of, made_of, radio_of}
use Rattle.reg_journal.specs.Due.{EachMayFollow}

-- the radio of the first interface of this index
abbrev pub home_in : List Iface → ℕ → Option ℕ
home_in [] i = None
home_in (x ∷ xs) i = if x.index == i then Some x.radio else home_in xs i

-- the radio on which the interface is there, if it is
abbrev pub home_of : Journal → ℕ → Option ℕ
home_of J i = home_in (ifaces_of J) i

-- ---- lists of interfaces

-- the interface that a look-up finds
pub home_found : (xs : List Iface) (i : ℕ) → home_in xs i ≡ option_map (λ x. x.radio) (find (λ x. x.index == i) xs)
home_found [] i = refl
home_found (x ∷ xs) i = elim (cases_eq x.index i) [
  | inl same ↦ rw (eq-eqb x.index i same)
  | inr other ↦ rw (ne_eqb x.index i other) (home_found xs i)
]

-- one that is there stays where more are made
pub home_in-append : (xs ys : List Iface) (i r : ℕ) → home_in xs i ≡ Some r → home_in (xs ++ ys) i ≡ Some r
home_in-append [] ys i r is = absurd (none-some r is)
home_in-append (x ∷ xs) ys i r is = elim (cases_eq x.index i) [
  | inl same ↦ rw (eq-eqb x.index i same) (rw (eq-eqb x.index i same) at is)
  | inr other ↦ rw (ne_eqb x.index i other) (home_in-append xs ys i r (rw (ne_eqb x.index i other) at is))
]

-- the last one, where none before it has the index
pub home_in-last : (xs : List Iface) (y : Iface) (i r : ℕ) → home_in (xs ++ y ∷ []) i ≡ Some r
    → (home_in xs i ≡ Some r) ⊎ ((y.index ≡ i) × (y.radio ≡ r))
home_in-last [] y i r is = elim (cases_eq y.index i) [
  | inl same ↦ inr (same, same_Some y.radio r (rw (eq-eqb y.index i same) at is))
  | inr other ↦ absurd (none-some r (rw (ne_eqb y.index i other) at is))
]
home_in-last (x ∷ xs) y i r is = elim (cases_eq x.index i) [
  | inl same ↦ inl (rw (eq-eqb x.index i same) (rw (eq-eqb x.index i same) at is))
  | inr other ↦ rw (ne_eqb x.index i other) (home_in-last xs y i r (rw (ne_eqb x.index i other) at is))
]

-- one that ended is gone
pub home_in-ended : (xs : List Iface) (i : ℕ) → home_in (filter (is_apart i) xs) i ≡ None
home_in-ended [] i = refl
home_in-ended (x ∷ xs) i = elim (cases_eq x.index i) [
  | inl same ↦ rw (eq-eqb x.index i same) (home_in-ended xs i)
  | inr other ↦ rw (ne_eqb x.index i other, ne_eqb x.index i other) (home_in-ended xs i)
]

-- the others stay
pub home_in-apart : (xs : List Iface) (i j : ℕ) → (i ≡ j → ⊥) → home_in (filter (is_apart j) xs) i ≡ home_in xs i
home_in-apart [] i j apart = refl
home_in-apart (x ∷ xs) i j apart = elim (cases_eq x.index j) [
  | inl same ↦ rw (eq-eqb x.index j same, ne_eqb x.index i (λ e. apart (sym e ∙ same))) (home_in-apart xs i j apart)
  | inr other ↦ rw (ne_eqb x.index j other, home_in-apart xs i j apart)
]

-- a change that leaves indexes and radios leaves where each is
pub home_in-map : (g : Iface → Iface) → ((x : Iface) → (g x).index ≡ x.index) → ((x : Iface) → (g x).radio ≡ x.radio) → (xs : List Iface) (i : ℕ)
    → home_in (map g xs) i ≡ home_in xs i
home_in-map g index radio [] i = refl
home_in-map g index radio (x ∷ xs) i = rw (index x, radio x, home_in-map g index radio xs i)

-- ---- the radio stays

-- another type leaves index and radio, and so does another setting
pub index-with_kind : (j : ℕ) (kind : Kind) (x : Iface) → (with_kind j kind x).index ≡ x.index
index-with_kind j kind x = elim (x.index == j) as (λ b. (if b then record x { kind = kind } else x).index ≡ x.index) [ true ↦ refl | false ↦ refl ]

pub radio-with_kind : (j : ℕ) (kind : Kind) (x : Iface) → (with_kind j kind x).radio ≡ x.radio
radio-with_kind j kind x = elim (x.index == j) as (λ b. (if b then record x { kind = kind } else x).radio ≡ x.radio) [ true ↦ refl | false ↦ refl ]

pub index-with_setting : (j : ℕ) (setting : PowerSetting) (x : Iface) → (with_setting j setting x).index ≡ x.index
index-with_setting j setting x = elim (x.index == j) as (λ b. (if b then record x { setting = setting } else x).index ≡ x.index) [ true ↦ refl | false ↦ refl ]

pub radio-with_setting : (j : ℕ) (setting : PowerSetting) (x : Iface) → (with_setting j setting x).radio ≡ x.radio
radio-with_setting j setting x = elim (x.index == j) as (λ b. (if b then record x { setting = setting } else x).radio ≡ x.radio) [ true ↦ refl | false ↦ refl ]

home-typed : (xs : List Iface) (i j : ℕ) (kind : Kind) → home_in (map (with_kind j kind) xs) i ≡ home_in xs i
home-typed xs i j kind = home_in-map (with_kind j kind) (index-with_kind j kind) (radio-with_kind j kind) xs i

home-set : (xs : List Iface) (i j : ℕ) (setting : PowerSetting) → home_in (map (with_setting j setting) xs) i ≡ home_in xs i
home-set xs i j setting = home_in-map (with_setting j setting) (index-with_setting j setting) (radio-with_setting j setting) xs i

-- ---- journals

-- an interface that is there was there, or has just been made
pub home_cases : (f : Fact) (J : Journal) (i r : ℕ) → home_of (f ∷ J) i ≡ Some r
    → (home_of J i ≡ Some r) ⊎ ((name : List ℕ) × (kind : Kind) × (f ≡ made i name r kind))
home_cases (made j name q kind) J i r is = elim (home_in-last (ifaces_of J) (new_iface j name q kind) i r is) [
  | inl was ↦ inl was
  | inr new ↦ inr (name, kind, same j i q r new.0 new.1)
]
  where
    same : (j i q r : ℕ) → j ≡ i → q ≡ r → made j name q kind ≡ made i name r kind
    same j i q r index radio = cc
home_cases (ended j) J i r is = elim (cases_eq i j) [
  | inl same ↦ absurd (none-some r (sym (home_in-ended (ifaces_of J) j) ∙ subst (λ n. home_in (filter (is_apart j) (ifaces_of J)) n ≡ Some r) same is))
  | inr other ↦ inl (sym (home_in-apart (ifaces_of J) i j other) ∙ is)
]
home_cases (typed j kind) J i r is = inl (sym (home-typed (ifaces_of J) i j kind) ∙ is)
home_cases (set_to j setting) J i r is = inl (sym (home-set (ifaces_of J) i j setting) ∙ is)
home_cases f J i r is = inl is

-- an interface stays until it ends
pub home_stays : (f : Fact) (J : Journal) (i r : ℕ) → (f ≡ ended i → ⊥) → home_of J i ≡ Some r → home_of (f ∷ J) i ≡ Some r
home_stays (made j name q kind) J i r last is = home_in-append (ifaces_of J) (new_iface j name q kind ∷ []) i r is
home_stays (ended j) J i r last is = home_in-apart (ifaces_of J) i j (λ same. last (ap (λ n. ended n) (sym same))) ∙ is
home_stays (typed j kind) J i r last is = home-typed (ifaces_of J) i j kind ∙ is
home_stays (set_to j setting) J i r last is = home-set (ifaces_of J) i j setting ∙ is
home_stays f J i r last is = is

-- an index that was given is at most the number of those made
pub radio_given : (db : List Domain) (J : Journal) (i r : ℕ) → EachMayFollow db J → radio_of J i ≡ Some r → i ≤ made_of J
radio_given db [] i r due is = absurd (none-some r is)
radio_given db (made j name q kind ∷ J) i r due is =
    let next : j ≡ made_of J + 1 = due.0.0 in
    elim (cases_eq i j) [
      | inl same ↦ omega arith
      | inr other ↦ let below = radio_given db J i r due.1 (rw (ne_eqb i j other) at is) in omega arith
    ]
radio_given db (f ∷ J) i r due is = radio_given db J i r due.1 is

-- an interface that is there was made on its radio
pub radio_of_home : (db : List Domain) (J : Journal) (i r : ℕ) → EachMayFollow db J → home_of J i ≡ Some r → radio_of J i ≡ Some r
radio_of_home db [] i r due is = absurd (none-some r is)
radio_of_home db (made j name q kind ∷ J) i r due is =
    let next : j ≡ made_of J + 1 = due.0.0 in
    elim (home_in-last (ifaces_of J) (new_iface j name q kind) i r is) [
      | inl was ↦
          let radio = radio_of_home db J i r due.1 was in
          let below = radio_given db J i r due.1 radio in
          rw (ne_eqb i j (λ same. absurd (omega arith))) radio
      | inr new ↦ rw (eq-eqb i j (sym new.0)) (ap (λ n. Some n) new.1)
    ]
radio_of_home db (f ∷ J) i r due is = elim (home_cases f J i r is) [
  | inl was ↦ radio_of_home db J i r due.1 was
  | inr new ↦ let making = new.2 in absurd cc
]

-- the next index is that of no interface
pub none_next : (db : List Domain) (J : Journal) (i r : ℕ) → EachMayFollow db J → i ≡ made_of J + 1 → home_of J i ≡ Some r → ⊥
none_next db J i r due next home =
    let below = radio_given db J i r due (radio_of_home db J i r due home) in
    absurd (omega arith)
