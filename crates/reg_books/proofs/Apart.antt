-- Interfaces that are there on one radio have different slots.
use Rattle.std.proofs.Common.{◌≡◌, ℕ, ◌==◌, ◌<◌, List, [], ◌∷◌, length, map, filter, Some, arith, refl, sym, ap, subst, ◌∙◌, inl, inr, eq-eqb, ne_eqb, true}
use Rattle.std.proofs.lemmas.Bool.{cases_eq, false≢true, or_right}
use Rattle.std.proofs.lemmas.List.{length-map}
use Rattle.std.proofs.lemmas.Option.{none-some, same_Some}
use Rattle.rule_tables.specs.declared.domain.Domain.{Domain}
use Rattle.chan_def.specs.declared.kind.Kind.{Kind}
use Rattle.reg_journal.specs.Facts.{Journal, made}
use Rattle.reg_journal.specs.Present.{Iface, ifaces_of, ifaces_on}
use Rattle.reg_journal.specs.Due.{EachMayFollow}
use Rattle.reg_books.specs.Slots.{free_slot, slot_of}
use Rattle.reg_books.proofs.Free.{is_taken, free_slot-apart, free_slot-small}
use Rattle.reg_journal.proofs.Homes.{home_in, home_of, home_cases, radio_of_home}

-- a slot is one of eight
pub slot-small : (J : Journal) (i : ℕ) → slot_of J i < 8
slot-small [] i = omega arith
slot-small (made j name r kind ∷ J) i = elim (cases_eq i j) [
  | inl same ↦ rw (eq-eqb i j same) (free_slot-small (map (λ x. slot_of J x.index) (ifaces_on J r)))
  | inr other ↦ rw (ne_eqb i j other) (slot-small J i)
]
slot-small (f ∷ J) i = slot-small J i

-- the slot of an interface that is there is one of those of its radio's interfaces
home_taken : (slot : ℕ → ℕ) (xs : List Iface) (i r : ℕ) → home_in xs i ≡ Some r
    → is_taken (map (λ x. slot x.index) (filter (λ x. x.radio == r) xs)) (slot i) ≡ true
home_taken slot [] i r is = absurd (none-some r is)
home_taken slot (x ∷ xs) i r is = elim (cases_eq x.index i) [
  | inl same ↦
      let radio : x.radio ≡ r = same_Some x.radio r (rw (eq-eqb x.index i same) at is) in
      rw (eq-eqb x.radio r radio, eq-eqb (slot x.index) (slot i) (ap slot same))
  | inr other ↦
      let rest = home_taken slot xs i r (rw (ne_eqb x.index i other) at is) in
      elim (cases_eq x.radio r) [
        | inl here ↦ rw (eq-eqb x.radio r here) (or_right (slot x.index == slot i) (is_taken (map (λ x. slot x.index) (filter (λ x. x.radio == r) xs)) (slot i)) rest)
        | inr elsewhere ↦ rw (ne_eqb x.radio r elsewhere) rest
      ]
]

-- an interface gets a slot that none has which is there on its radio
new_slot : (db : List Domain) (J : Journal) (j i r : ℕ) (name : List ℕ) (kind : Kind) → EachMayFollow db (made j name r kind ∷ J) → home_of J i ≡ Some r
    → slot_of (made j name r kind ∷ J) j ≡ slot_of J i → ⊥
new_slot db J j i r name kind due is same =
    let slots : List ℕ = map (λ x. slot_of J x.index) (ifaces_on J r) in
    let few : length (ifaces_on J r) < 8 = due.0.4 in
    let free = free_slot-apart slots (rw length-map few) in
    let taken = home_taken (slot_of J) (ifaces_of J) i r is in
    let given : free_slot slots ≡ slot_of J i = rw (eq-eqb j j refl) at same in
    false≢true (sym free ∙ rw given taken)

-- the radio of the interface that has just been made
made_home : (db : List Domain) (J : Journal) (j q r : ℕ) (name : List ℕ) (kind : Kind) → EachMayFollow db (made j name q kind ∷ J)
    → home_of (made j name q kind ∷ J) j ≡ Some r → q ≡ r
made_home db J j q r name kind due is =
    let radio = radio_of_home db (made j name q kind ∷ J) j r due is in
    same_Some q r (rw (eq-eqb j j refl) at radio)

-- an interface that is there beside the one that has just been made was there
beside_made : (J : Journal) (i j q r : ℕ) (name : List ℕ) (kind : Kind) → (i ≡ j → ⊥) → home_of (made j name q kind ∷ J) i ≡ Some r
    → home_of J i ≡ Some r
beside_made J i j q r name kind other is = elim (home_cases (made j name q kind) J i r is) [
  | inl was ↦ was
  | inr new ↦ let making = new.2 in absurd (other cc)
]

-- of two interfaces that are there on a radio, in one slot, each is the other
pub slots_apart : (db : List Domain) (J : Journal) (i j r : ℕ) → EachMayFollow db J → home_of J i ≡ Some r → home_of J j ≡ Some r
    → slot_of J i ≡ slot_of J j → i ≡ j
slots_apart db [] i j r due here there slots = absurd (none-some r here)
slots_apart db (made k name q kind ∷ J) i j r due here there slots = elim (cases_eq i k) [
  | inl new ↦ elim (cases_eq j k) [
    | inl new' ↦ new ∙ sym new'
    | inr old ↦ absurd (meets j old (subst (λ n. home_of after n ≡ Some r) new here) there (subst (λ n. slot_of after n ≡ slot_of after j) new slots))
  ]
  | inr old ↦ elim (cases_eq j k) [
    | inl new ↦ absurd (meets i old (subst (λ n. home_of after n ≡ Some r) new there) here (subst (λ n. slot_of after n ≡ slot_of after i) new (sym slots)))
    | inr old' ↦
        slots_apart db J i j r due.1 (beside_made J i k q r name kind old here) (beside_made J j k q r name kind old' there)
        (rw (ne_eqb i k old, ne_eqb j k old') at slots)
  ]
]
  where
    after : Journal
    after = made k name q kind ∷ J

    meets : (old : ℕ) → (old ≡ k → ⊥) → home_of after k ≡ Some r → home_of after old ≡ Some r → slot_of after k ≡ slot_of after old → ⊥
    meets old apart here there slots =
        let radio : q ≡ r = made_home db J k q r name kind due here in
        let was : home_of J old ≡ Some q = beside_made J old k q r name kind apart there ∙ ap (λ n. Some n) (sym radio) in
        new_slot db J k old q name kind due was (rw (ne_eqb old k apart) at slots)
slots_apart db (f ∷ J) i j r due here there slots = slots_apart db J i j r due.1 (before i here) (before j there) slots
  where
    before : (i : ℕ) → home_of (f ∷ J) i ≡ Some r → home_of J i ≡ Some r
    before i is = elim (home_cases f J i r is) [
      | inl was ↦ was
      | inr new ↦ let making = new.2 in absurd cc
    ]
