-- An interface that is there is the one that a look-up of its index finds.
use Rattle.std.proofs.Common.{◌≡◌, ℕ, ◌+◌, ◌==◌, Bool, true, List, [], ◌∷◌, map, filter, find, Contains, Option, Some, None, option_map, arith, refl, sym, ap, subst, ◌∙◌, inl, inr, eq-eqb, ne_eqb}
use Rattle.std.proofs.lemmas.Bool.{cases_eq, cases_Bool, false≢true}
use Rattle.std.proofs.lemmas.List.Elements.{Contains-push_cases}
use Rattle.std.proofs.lemmas.List.Folds.{find-append}
use Rattle.std.proofs.lemmas.Option.{none-some, same_Some}
use Rattle.freq_range.proofs.Members.{Contains-later, Contains-cases, Contains-nothing}
use Rattle.rule_tables.specs.declared.domain.Domain.{Domain}
use Rattle.reg_journal.specs.Facts.{Journal, made, ended, typed, set_to}
use Rattle.reg_journal.specs.Present.{Iface, new_iface, with_kind, with_setting, is_apart, ifaces_of, made_of, indexed, named}
use Rattle.reg_base.specs.Texts.{same_bytes}
use Rattle.reg_journal.specs.Due.{EachMayFollow}
use Rattle.reg_journal.proofs.Homes.{home_of, home_found, index-with_kind, index-with_setting, none_next}

-- ---- look-ups

-- the first one of this index
abbrev found_in : List Iface → ℕ → Option Iface
found_in xs i = find (λ x. x.index == i) xs

-- it has the index
pub found_index : (xs : List Iface) (i : ℕ) (x : Iface) → found_in xs i ≡ Some x → x.index ≡ i
found_index [] i x found = absurd (none-some x found)
found_index (y ∷ xs) i x found = elim (cases_eq y.index i) [
  | inl same ↦ ap (λ (z : Iface). z.index) (sym (same_Some y x (rw (eq-eqb y.index i same) at found))) ∙ same
  | inr other ↦ found_index xs i x (rw (ne_eqb y.index i other) at found)
]

-- it is found beside others that end
found-apart : (xs : List Iface) (i j : ℕ) → (i ≡ j → ⊥) → found_in (filter (is_apart j) xs) i ≡ found_in xs i
found-apart [] i j apart = refl
found-apart (x ∷ xs) i j apart = elim (cases_eq x.index j) [
  | inl same ↦ rw (eq-eqb x.index j same, ne_eqb x.index i (λ e. apart (sym e ∙ same))) (found-apart xs i j apart)
  | inr other ↦ rw (ne_eqb x.index j other, found-apart xs i j apart)
]

-- and after a change that leaves the indexes
found-map : (g : Iface → Iface) → ((x : Iface) → (g x).index ≡ x.index) → (xs : List Iface) (i : ℕ) → found_in (map g xs) i ≡ option_map g (found_in xs i)
found-map g index [] i = refl
found-map g index (x ∷ xs) i = elim (cases_eq x.index i) [
  | inl same ↦ rw (eq-eqb (g x).index i (index x ∙ same), eq-eqb x.index i same)
  | inr other ↦ rw (ne_eqb (g x).index i (λ e. other (sym (index x) ∙ e)), ne_eqb x.index i other) (found-map g index xs i)
]

-- ---- members

-- what a filter keeps was there and passes
pub Contains-filter : {X : Type 0} (p : X → Bool) (xs : List X) (x : X) → Contains (filter p xs) x → (p x ≡ true) × Contains xs x
Contains-filter p [] x has = absurd (Contains-nothing x has)
Contains-filter p (y ∷ xs) x has = elim (cases_Bool (p y)) [
  | inl passes ↦ elim (Contains-cases y (filter p xs) x (rw passes at has)) [
    | inl same ↦ (ap p (sym same) ∙ passes, subst (λ z. Contains (y ∷ xs) z) same (0, omega arith, refl))
    | inr later ↦ let rest = Contains-filter p xs x later in (rest.0, Contains-later y xs x rest.1)
  ]
  | inr fails ↦ let rest = Contains-filter p xs x (rw fails at has) in (rest.0, Contains-later y xs x rest.1)
]

-- what a map gives comes from what was there
pub Contains-map : {X Y : Type 0} (g : X → Y) (xs : List X) (y : Y) → Contains (map g xs) y → (x : X) × Contains xs x × (g x ≡ y)
Contains-map g [] y has = absurd (Contains-nothing y has)
Contains-map g (x ∷ xs) y has = elim (Contains-cases (g x) (map g xs) y has) [
  | inl same ↦ (x, (0, omega arith, refl), same)
  | inr later ↦ let rest = Contains-map g xs y later in (rest.0, Contains-later x xs rest.0 rest.1, rest.2)
]

-- what a look-up finds is listed
pub Contains-find : {X : Type 0} (p : X → Bool) (xs : List X) (x : X) → find p xs ≡ Some x → Contains xs x
Contains-find p [] x found = absurd (none-some x found)
Contains-find p (y ∷ xs) x found = elim (cases_Bool (p y)) [
  | inl passes ↦ (0, omega arith, same_Some y x (rw passes at found))
  | inr fails ↦ Contains-later y xs x (Contains-find p xs x (rw fails at found))
]

-- ---- journals

-- one that has the name is there
pub named_listed : (J : Journal) (name : List ℕ) (x : Iface) → named J name ≡ Some x → Contains (ifaces_of J) x
named_listed J name x is = Contains-find (λ y. same_bytes y.name name) (ifaces_of J) x is

-- the radio of the interface that a look-up finds
pub home_of_indexed : (J : Journal) (i : ℕ) (x : Iface) → indexed J i ≡ Some x → home_of J i ≡ Some x.radio
home_of_indexed J i x found = home_found (ifaces_of J) i ∙ ap (λ o. option_map (λ (y : Iface). y.radio) o) found

-- and its index
pub index_of_indexed : (J : Journal) (i : ℕ) (x : Iface) → indexed J i ≡ Some x → x.index ≡ i
index_of_indexed J i x found = found_index (ifaces_of J) i x found

-- no interface has the next index
none_indexed : (db : List Domain) (J : Journal) (j : ℕ) → EachMayFollow db J → j ≡ made_of J + 1 → indexed J j ≡ None
none_indexed db J j due next = by (indexed J j) refl
  where
    by : (o : Option Iface) → indexed J j ≡ o → indexed J j ≡ None
    by None none = none
    by (Some x) found = absurd (none_next db J j x.radio due next (home_of_indexed J j x found))

-- each that is there is found
pub indexed_listed : (db : List Domain) (J : Journal) (x : Iface) → EachMayFollow db J → Contains (ifaces_of J) x → indexed J x.index ≡ Some x
indexed_listed db [] x due has = absurd (Contains-nothing x has)
indexed_listed db (made j name r kind ∷ J) x due has = elim (Contains-push_cases (ifaces_of J) (new_iface j name r kind) x has) [
  | inl was ↦ rw (find-append (λ y. y.index == x.index) (ifaces_of J) (new_iface j name r kind ∷ []), indexed_listed db J x due.1 was)
  | inr new ↦ subst (λ y. indexed (made j name r kind ∷ J) y.index ≡ Some y) new
      (rw (find-append (λ y. y.index == j) (ifaces_of J) (new_iface j name r kind ∷ []), none_indexed db J j due.1 due.0.0, eq-eqb j j refl))
]
indexed_listed db (ended j ∷ J) x due has =
    let was = Contains-filter (is_apart j) (ifaces_of J) x has in
    found-apart (ifaces_of J) x.index j (λ same. let passes = was.0 in absurd (false≢true (rw (eq-eqb x.index j same) at passes)))
    ∙ indexed_listed db J x due.1 was.1
indexed_listed db (typed j kind ∷ J) x due has =
    let was = Contains-map (with_kind j kind) (ifaces_of J) x has in
    let index : x.index ≡ (was.0).index = ap (λ (y : Iface). y.index) (sym was.2) ∙ index-with_kind j kind was.0 in
    found-map (with_kind j kind) (index-with_kind j kind) (ifaces_of J) x.index
    ∙ ap (λ o. option_map (with_kind j kind) o) (ap (λ n. indexed J n) index ∙ indexed_listed db J was.0 due.1 was.1) ∙ ap (λ y. Some y) was.2
indexed_listed db (set_to j setting ∷ J) x due has =
    let was = Contains-map (with_setting j setting) (ifaces_of J) x has in
    let index : x.index ≡ (was.0).index = ap (λ (y : Iface). y.index) (sym was.2) ∙ index-with_setting j setting was.0 in
    found-map (with_setting j setting) (index-with_setting j setting) (ifaces_of J) x.index
    ∙ ap (λ o. option_map (with_setting j setting) o) (ap (λ n. indexed J n) index ∙ indexed_listed db J was.0 due.1 was.1) ∙ ap (λ y. Some y) was.2
indexed_listed db (f ∷ J) x due has = indexed_listed db J x due.1 has
