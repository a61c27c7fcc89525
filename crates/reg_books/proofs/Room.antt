-- The driver of an interface that is there has a place for it.
use Rattle.std.proofs.Common.{◌≡◌, ◌==◌, ◌<◌, ℕ, true, false, List, [], ◌∷◌, length, map, find, get_or, Contains, Option, Some, None, AllPairs, nat_eq, arith, refl, sym, ap, subst, ◌∙◌, inl, inr, eq-eqb, ne_eqb}
use Rattle.std.specs.List.{AllByRecursion, IsDistinct, list_any}
use Rattle.std.proofs.lemmas.Bool.{cases_eq, false≢true}
use Rattle.std.proofs.lemmas.Cmp.{nat_eq_equiv}
use Rattle.std.proofs.lemmas.List.{get_or-map, length-map}
use Rattle.std.proofs.lemmas.Map.Keys.{IsDistinct-cons, IsDistinct-from_apart}
use Rattle.std.proofs.lemmas.Map.Made.{length-le_from_is_member}
use Rattle.std.proofs.lemmas.Option.{none-some, same_Some}
use Rattle.rule_tables.specs.declared.domain.Domain.{Domain}
use Rattle.radio_drv.specs.Air.{HasIface, HasPlace}
use Rattle.radio_drv.specs.Seen.{Seen}
use Rattle.radio_drv.specs.declared.on_air.OnAir.{OnAir}
use Rattle.reg_journal.specs.Due.{EachMayFollow}
use Rattle.reg_journal.specs.Facts.{Journal}
use Rattle.reg_journal.specs.Present.{Iface, ifaces_of, ifaces_on, is_removed, named}
use Rattle.reg_books.specs.DriverRows.{AreDriven, HasOnAir, IsDriven, driver_at}
use Rattle.reg_books.specs.Told.{HasRoom}
use Rattle.reg_books.proofs.AirEntries.{found_behind}
use Rattle.reg_books.proofs.Airs.{air_at}
use Rattle.reg_journal.proofs.Listed.{Contains-find}
use Rattle.reg_journal.proofs.Operating.{there_small, there_stays}
use Rattle.reg_journal.proofs.Few.{few_on, is_of}
use Rattle.reg_journal.proofs.Radios.{radio_there}

-- ---- indexes

-- the indexes of what is on air differ
on_air_distinct : (air : List OnAir) → AllPairs (λ x y. x.iface ≡ y.iface → ⊥) air → IsDistinct nat_eq (map (λ e. e.iface) air)
on_air_distinct [] once = IsDistinct-from_apart nat_eq [] (λ i j d less within. absurd (omega arith))
on_air_distinct (e ∷ air) once = IsDistinct-from_apart nat_eq (map (λ (x : OnAir). x.iface) (e ∷ air)) (λ i j d less within.
    let len = length-map (e ∷ air) (λ (x : OnAir). x.iface) in
    let below : j < length (e ∷ air) = omega (arith, within, len) in
    rw (get_or-map (λ (x : OnAir). x.iface) (e ∷ air) i e d (omega (arith, less, below)), get_or-map (λ (x : OnAir). x.iface) (e ∷ air) j e d below)
    (ne_eqb (get_or (e ∷ air) i e).iface (get_or (e ∷ air) j e).iface (once i j e less below)))

-- where the interface isn't on air, none of them is its index
apart_from_air : (air : List OnAir) (i : ℕ) → air_at air i ≡ None → AllByRecursion (λ n. nat_eq i n ≡ false) (map (λ e. e.iface) air)
apart_from_air [] i none = tt
apart_from_air (e ∷ air) i none = elim (cases_eq e.iface i) [
  | inl same ↦ let some = rw (eq-eqb e.iface i same) at none in absurd cc
  | inr other ↦ (ne_eqb i e.iface (λ e. other (sym e)), apart_from_air air i (rw (ne_eqb e.iface i other) at none))
]

unlisted : (air : List OnAir) (i : ℕ) → air_at air i ≡ None → list_any (nat_eq i) (map (λ e. e.iface) air) ≡ false
unlisted [] i none = refl
unlisted (e ∷ air) i none = elim (cases_eq e.iface i) [
  | inl same ↦ let some = rw (eq-eqb e.iface i same) at none in absurd cc
  | inr other ↦ rw (ne_eqb i e.iface (λ e. other (sym e))) (unlisted air i (rw (ne_eqb e.iface i other) at none))
]

-- an interface that is found has one of the indexes
listed : (xs : List Iface) (i : ℕ) (x : Iface) → find (λ y. y.index == i) xs ≡ Some x → list_any (nat_eq i) (map (λ y. y.index) xs) ≡ true
listed [] i x found = absurd (none-some x found)
listed (y ∷ xs) i x found = elim (cases_eq y.index i) [
  | inl same ↦ rw (eq-eqb i y.index (sym same)) refl
  | inr other ↦ rw (ne_eqb i y.index (λ e. other (sym e))) (listed xs i x (rw (ne_eqb y.index i other) at found))
]

-- the interface of an entry is one of the radio's
entry_listed : (J : Journal) (r : ℕ) (air : List OnAir) (i : ℕ) → HasOnAir J r air → list_any (nat_eq i) (map (λ e. e.iface) air) ≡ true
    → list_any (nat_eq i) (map (λ y. y.index) (ifaces_on J r)) ≡ true
entry_listed J r air i has on = by (find (λ y. y.index == i) (ifaces_on J r)) refl
  where
    by : (found : Option Iface) → find (λ y. y.index == i) (ifaces_on J r) ≡ found → list_any (nat_eq i) (map (λ y. y.index) (ifaces_on J r)) ≡ true
    by (Some x) some = listed (ifaces_on J r) i x some
    by None none =
        let off : air_at air i ≡ None = has.each i ∙ rw none refl in
        absurd (false≢true (sym (unlisted air i off) ∙ on))

-- so is one that is there
there_listed : (J : Journal) (x : Iface) → Contains (ifaces_of J) x → list_any (nat_eq x.index) (map (λ y. y.index) (ifaces_on J x.radio)) ≡ true
there_listed J x has = by (find (λ y. y.index == x.index) (ifaces_on J x.radio)) refl
  where
    by : (found : Option Iface) → find (λ y. y.index == x.index) (ifaces_on J x.radio) ≡ found
        → list_any (nat_eq x.index) (map (λ y. y.index) (ifaces_on J x.radio)) ≡ true
    by (Some y) some = listed (ifaces_on J x.radio) x.index y some
    by None none = absurd (found_behind (is_of x.radio) (λ y. y.index == x.index) (ifaces_of J) x none has (eq-eqb x.radio x.radio refl) (eq-eqb x.index x.index refl))

-- ---- places

-- beside an interface that isn't on air there are fewer than eight
room_beside : (db : List Domain) (J : Journal) (x : Iface) (air : List OnAir) → EachMayFollow db J → Contains (ifaces_of J) x → HasOnAir J x.radio air
    → air_at air x.index ≡ None → length air < 8
room_beside db J x air due there has off =
    let on : List ℕ = map (λ (e : OnAir). e.iface) air in
    let all : List ℕ = map (λ (y : Iface). y.index) (ifaces_on J x.radio) in
    let distinct = IsDistinct-cons nat_eq x.index on (apart_from_air air x.index off) (on_air_distinct air (has.is_air).once) in
    let fits = length-le_from_is_member nat_eq_equiv (x.index ∷ on) all distinct (λ i member. elim (cases_eq i x.index) [
      | inl same ↦ subst (λ n. list_any (nat_eq n) all ≡ true) (sym same) (there_listed J x there)
      | inr other ↦ entry_listed J x.radio air i has (rw (ne_eqb i x.index other) at member)
    ]) in
    let few = few_on db J x.radio due in
    let shown = length-map air (λ (e : OnAir). e.iface) in
    let named = length-map (ifaces_on J x.radio) (λ (y : Iface). y.index) in
    omega (arith, fits, few, shown, named)

-- what is found is on air
on_air_found : (air : List OnAir) (i : ℕ) (e : OnAir) → air_at air i ≡ Some e → HasIface air i
on_air_found air i e found = let at = Contains-find (λ e. e.iface == i) air e found in (at.0, e, at.1, at.2, passes air found)
  where
    passes : (air : List OnAir) → air_at air i ≡ Some e → e.iface ≡ i
    passes [] none = absurd (none-some e none)
    passes (x ∷ air) some = elim (cases_eq x.iface i) [
      | inl same ↦ ap (λ (o : OnAir). o.iface) (sym (same_Some x e (rw (eq-eqb x.iface i same) at some))) ∙ same
      | inr other ↦ passes air (rw (ne_eqb x.iface i other) at some)
    ]

-- the list of an interface's radio has a place for it
pub place_for : (db : List Domain) (J : Journal) (x : Iface) (air : List OnAir) → EachMayFollow db J → Contains (ifaces_of J) x → HasOnAir J x.radio air → HasPlace air x.index
place_for db J x air due there has = by (air_at air x.index) refl
  where
    by : (found : Option OnAir) → air_at air x.index ≡ found → HasPlace air x.index
    by (Some e) some = inl (on_air_found air x.index e some)
    by None none = inr (room_beside db J x air due there has none)

-- so its driver is there, and has room
pub room_for : (db : List Domain) (J : Journal) (x : Iface) (row : List (Option Seen)) (radio index : ℕ) → radio ≡ x.radio → index ≡ x.index
    → EachMayFollow db J → AreDriven J row → Contains (ifaces_of J) x → HasRoom (driver_at row radio) index
room_for db J x row radio index its_radio its_index due driven there =
    let profile = radio_there db J x due there in
    rw (its_radio, its_index) (by (driver_at row x.radio) (there_stays J x.radio profile) (driven.each x.radio (there_small db J x.radio due profile)))
  where
    by : (o : Option Seen) → is_removed J x.radio ≡ false → IsDriven J x.radio o → HasRoom o x.index
    by None stays gone = absurd (false≢true (sym stays ∙ gone))
    by (Some s) stays is = place_for db J x s.air due there is.1

-- eight drivers are seen in eight places
pub eight_places : {X : Type 0} (f : X → Option Seen) (xs : List X) (J : Journal) → AreDriven J (map f xs) → length xs ≡ 8
eight_places f xs J driven = sym (length-map xs f) ∙ driven.eight
