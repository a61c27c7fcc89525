-- What an interface has on air, by its last fact and by its radio's list.
use Rattle.std.proofs.Common.{◌≡◌, ◌==◌, ℕ, Bool, true, false, List, [], ◌∷◌, filter, find, Contains, Option, Some, None, if◌then◌else◌, refl, sym, ap, subst, ◌∙◌, inl, inr, eq-eqb, ne_eqb, eqb-true}
use Rattle.std.specs.Option.{option_map}
use Rattle.std.proofs.lemmas.Bool.{cases_eq, cases_Bool, false≢true}
use Rattle.std.proofs.lemmas.Option.{none-some, same_Some}
use Rattle.freq_range.proofs.Members.{Contains-cases, Contains-nothing}
use Rattle.rule_tables.specs.declared.domain.Domain.{Domain}
use Rattle.chan_def.specs.declared.definition.ChanDef.{ChanDef}
use Rattle.radio_drv.specs.Air.{started as put_on_air, stopped as taken_off, powered as given_power, with_power as entry_with_power}
use Rattle.radio_drv.specs.declared.on_air.OnAir.{OnAir}
use Rattle.reg_journal.specs.Due.{EachMayFollow}
use Rattle.reg_journal.specs.Facts.{Fact, Journal, radio_removed, made, started, stopped, powered}
use Rattle.reg_journal.specs.OnAir.{entry, is_on, on_air_of}
use Rattle.reg_journal.specs.Present.{Iface, Operation, ifaces_of, ifaces_on, indexed, operation_of, radio_of, operation_with_power}
use Rattle.reg_books.specs.Entries.{entry_on}
use Rattle.reg_books.specs.DriverRows.{entry_in}
use Rattle.reg_books.proofs.Airs.{air_at, air_at-started, air_at-stopped, air_at-powered}
use Rattle.reg_journal.proofs.Homes.{home_found, radio_of_home}
use Rattle.reg_journal.proofs.Radios.{radio_listed}
use Rattle.reg_journal.proofs.Listed.{Contains-filter, Contains-find, found_index, index_of_indexed}
use Rattle.reg_journal.proofs.Operations.{no_operation_next, operation_home}

-- ---- by its last fact

-- where a fact speaks of no operation and no radio goes, nothing on air changes
abbrev pub leaves_air : Fact → Bool
leaves_air (started i chan power) = false
leaves_air (stopped i) = false
leaves_air (powered i power) = false
leaves_air (radio_removed r) = false
leaves_air f = true

pub entry_on-left : (db : List Domain) (f : Fact) (J : Journal) (r i : ℕ) → EachMayFollow db (f ∷ J) → leaves_air f ≡ true → entry_on (f ∷ J) r i ≡ entry_on J r i
entry_on-left db (started j chan power) J r i due leaves = absurd (false≢true leaves)
entry_on-left db (stopped j) J r i due leaves = absurd (false≢true leaves)
entry_on-left db (powered j power) J r i due leaves = absurd (false≢true leaves)
entry_on-left db (radio_removed q) J r i due leaves = absurd (false≢true leaves)
entry_on-left db (made j name q kind) J r i due leaves = elim (cases_eq i j) [
  | inl same ↦ rw (subst (λ n. operation_of J n ≡ None) (sym same) (no_operation_next db J j due.1 due.0.0)) (neither (is_on (made j name q kind ∷ J) i r) (is_on J i r) None)
  | inr other ↦ rw (ne_eqb i j other) refl
]
  where
    neither : (b b' : Bool) (o : Option OnAir) → (if b then o else o) ≡ (if b' then o else o)
    neither true true o = refl
    neither true false o = refl
    neither false true o = refl
    neither false false o = refl
entry_on-left db f J r i due leaves = refl

-- ---- after a start, a stop, and a change of power

pub both : {X : Type 0} (b : Bool) (x : X) → x ≡ (if b then x else x)
both true x = refl
both false x = refl

pub entry_on-started : (J : Journal) (r i j : ℕ) (chan : ChanDef) (power : ℕ)
    → entry_on (started j chan power ∷ J) r i ≡ (if is_on J j r then (if j == i then Some (entry j chan power) else entry_on J r i) else entry_on J r i)
entry_on-started J r i j chan power = elim (cases_eq i j) [
  | inl same ↦ subst (λ n. entry_on (started n chan power ∷ J) r i ≡ (if is_on J n r then (if n == i then Some (entry n chan power) else entry_on J r i) else entry_on J r i))
      same (rw (eq-eqb i i refl) (own (is_on J i r) (option_map (λ (o : Operation). entry i o.chan o.power) (operation_of J i))))
  | inr other ↦ rw (ne_eqb i j other, ne_eqb j i (λ e. other (sym e))) (both (is_on J j r) (entry_on J r i))
]
  where
    own : (b : Bool) (o : Option OnAir) → (if b then Some (entry i chan power) else None) ≡ (if b then Some (entry i chan power) else (if b then o else None))
    own true o = refl
    own false o = refl

pub entry_on-stopped : (J : Journal) (r i j : ℕ)
    → entry_on (stopped j ∷ J) r i ≡ (if is_on J j r then (if i == j then None else entry_on J r i) else entry_on J r i)
entry_on-stopped J r i j = elim (cases_eq i j) [
  | inl same ↦ subst (λ n. entry_on (stopped n ∷ J) r i ≡ (if is_on J n r then (if i == n then None else entry_on J r i) else entry_on J r i))
      same (rw (eq-eqb i i refl) (own (is_on J i r) (option_map (λ (o : Operation). entry i o.chan o.power) (operation_of J i))))
  | inr other ↦ rw (ne_eqb i j other) (both (is_on J j r) (entry_on J r i))
]
  where
    own : (b : Bool) (o : Option OnAir) → (if b then None else None) ≡ (if b then None else (if b then o else None))
    own true o = refl
    own false o = refl

pub entry_on-powered : (J : Journal) (r i j power : ℕ)
    → entry_on (powered j power ∷ J) r i ≡ (if is_on J j r then (if i == j then option_map (entry_with_power j power) (entry_on J r i) else entry_on J r i) else entry_on J r i)
entry_on-powered J r i j power = elim (cases_eq i j) [
  | inl same ↦ subst (λ n. entry_on (powered n power ∷ J) r i
      ≡ (if is_on J n r then (if i == n then option_map (entry_with_power n power) (entry_on J r i) else entry_on J r i) else entry_on J r i))
      same (rw (eq-eqb i i refl) (own (is_on J i r) (operation_of J i)))
  | inr other ↦ rw (ne_eqb i j other) (both (is_on J j r) (entry_on J r i))
]
  where
    moved : (o : Option Operation) → option_map (λ (o : Operation). entry i o.chan o.power) (option_map (operation_with_power power) o)
        ≡ option_map (entry_with_power i power) (option_map (λ (o : Operation). entry i o.chan o.power) o)
    moved None = refl
    moved (Some o) = rw (eq-eqb i i refl) refl

    own : (b : Bool) (o : Option Operation) → (if b then option_map (λ (o : Operation). entry i o.chan o.power) (option_map (operation_with_power power) o) else None)
        ≡ (if b then option_map (entry_with_power i power) (if b then option_map (λ (o : Operation). entry i o.chan o.power) o else None)
        else (if b then option_map (λ (o : Operation). entry i o.chan o.power) o else None))
    own true o = moved o
    own false o = refl

-- ---- by its radio's list

air_at-if : (b : Bool) (air air' : List OnAir) (i : ℕ) → air_at (if b then air else air') i ≡ (if b then air_at air i else air_at air' i)
air_at-if true air air' i = refl
air_at-if false air air' i = refl

-- the list of a radio has exactly the operations of the interfaces that were made on it
pub on_air_entry : (db : List Domain) (J : Journal) (r i : ℕ) → EachMayFollow db J → air_at (on_air_of J r) i ≡ entry_on J r i
on_air_entry db [] r i due = refl
on_air_entry db (started j chan power ∷ J) r i due =
    let rest = on_air_entry db J r i due.1 in
    air_at-if (is_on J j r) (put_on_air (entry j chan power) (on_air_of J r)) (on_air_of J r) i
    ∙ (rw (air_at-started (entry j chan power) (on_air_of J r) i, rest) (sym (entry_on-started J r i j chan power)))
on_air_entry db (stopped j ∷ J) r i due =
    let rest = on_air_entry db J r i due.1 in
    air_at-if (is_on J j r) (taken_off j (on_air_of J r)) (on_air_of J r) i
    ∙ (rw (air_at-stopped j (on_air_of J r) i, rest) (sym (entry_on-stopped J r i j)))
on_air_entry db (powered j power ∷ J) r i due =
    let rest = on_air_entry db J r i due.1 in
    air_at-if (is_on J j r) (given_power j power (on_air_of J r)) (on_air_of J r) i
    ∙ (rw (air_at-powered j power (on_air_of J r) i, rest) (sym (entry_on-powered J r i j power)))
on_air_entry db (made j name q kind ∷ J) r i due = on_air_entry db J r i due.1 ∙ sym (entry_on-left db (made j name q kind) J r i due refl)
on_air_entry db (f ∷ J) r i due = on_air_entry db J r i due.1

-- ---- by the interfaces that are there

-- an element that passes both tests is found behind the first
pub found_behind : {X : Type 0} (p q : X → Bool) (xs : List X) (x : X) → find q (filter p xs) ≡ None → Contains xs x → p x ≡ true → q x ≡ true → ⊥
found_behind p q [] x none has passes is = Contains-nothing x has
found_behind p q (y ∷ xs) x none has passes is = elim (cases_Bool (p y)) [
  | inl keeps ↦ elim (cases_Bool (q y)) [
    | inl finds ↦ let some = rw (keeps, finds) at none in absurd cc
    | inr other ↦ elim (Contains-cases y xs x has) [
      | inl same ↦ false≢true (sym other ∙ ap q same ∙ is)
      | inr later ↦ found_behind p q xs x (rw (keeps, other) at none) later passes is
    ]
  ]
  | inr drops ↦ elim (Contains-cases y xs x has) [
    | inl same ↦ false≢true (sym drops ∙ ap p same ∙ passes)
    | inr later ↦ found_behind p q xs x (rw drops at none) later passes is
  ]
]

-- where an interface that was made on the radio operates, it is one of the radio's
pub operating_on : (db : List Domain) (J : Journal) (r i : ℕ) (o : Operation) → EachMayFollow db J → is_on J i r ≡ true → operation_of J i ≡ Some o
    → (x : Iface) × Contains (ifaces_of J) x × (x.index ≡ i) × (x.radio ≡ r)
operating_on db J r i o due on is =
    let home = operation_home db J i o due is in
    let radio : home.0 ≡ r = eqb-true home.0 r (rw (radio_of_home db J i home.0 due home.1) at on) in
    there (indexed J i) refl (sym (home_found (ifaces_of J) i) ∙ home.1 ∙ ap (λ n. Some n) radio)
  where
    there : (found : Option Iface) → indexed J i ≡ found → option_map (λ (x : Iface). x.radio) found ≡ Some r
        → (x : Iface) × Contains (ifaces_of J) x × (x.index ≡ i) × (x.radio ≡ r)
    there None found none = absurd (none-some r none)
    there (Some x) found some = (x, Contains-find (λ y. y.index == i) (ifaces_of J) x found, index_of_indexed J i x found, same_Some x.radio r some)

-- what the radio's interface of this index has on air, where it is there, is what it has that was made there
pub entries_alike : (db : List Domain) (J : Journal) (r i : ℕ) → EachMayFollow db J → entry_in J r i ≡ entry_on J r i
entries_alike db J r i due = by (find (λ x. x.index == i) (ifaces_on J r)) refl
  where
    none_made : find (λ x. x.index == i) (ifaces_on J r) ≡ None → (b : Bool) → is_on J i r ≡ b → (o : Option Operation) → operation_of J i ≡ o
        → None ≡ (if b then option_map (λ (o : Operation). entry i o.chan o.power) o else None)
    none_made none false on o is = refl
    none_made none true on None is = refl
    none_made none true on (Some o) is =
        let x = operating_on db J r i o due on is in
        absurd (found_behind (λ y. y.radio == r) (λ y. y.index == i) (ifaces_of J) x.0 none x.1 (eq-eqb (x.0).radio r x.3) (eq-eqb (x.0).index i x.2))

    by : (found : Option Iface) → find (λ x. x.index == i) (ifaces_on J r) ≡ found → entry_in J r i ≡ entry_on J r i
    by None none = rw none (none_made none (is_on J i r) refl (operation_of J i) refl)
    by (Some x) some =
        let index = found_index (ifaces_on J r) i x some in
        let on = Contains-filter (λ y. y.radio == r) (ifaces_of J) x (Contains-find (λ y. y.index == i) (ifaces_on J r) x some) in
        let radio : radio_of J i ≡ Some x.radio = ap (λ n. radio_of J n) (sym index) ∙ radio_listed db J x due on.1 in
        rw (some, radio, on.0) (ap (λ n. option_map (λ (o : Operation). entry n o.chan o.power) (operation_of J n)) index)
