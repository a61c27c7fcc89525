-- Drops in a slot are those of the interface that has the slot.
use Rattle.std.proofs.Common.{◌≡◌, ℕ, List, [], ◌∷◌, ◌++◌, Option, Some, None, IsSome, refl, sym, ap, subst, ◌∙◌, inl, inr, ne_eqb}
use Rattle.std.proofs.lemmas.Bool.{cases_eq, false≢true}
use Rattle.rule_tables.specs.declared.domain.Domain.{Domain}
use Rattle.dfs_states.specs.Calls.{Call, DropCheck, HasCall}
use Rattle.reg_journal.specs.Facts.{Fact, Journal, check_dropped}
use Rattle.reg_journal.specs.Present.{Check, radio_of, check_of}
use Rattle.reg_journal.specs.Due.{EachMayFollow}
use Rattle.reg_journal.specs.Radar.{HasCheck}
use Rattle.reg_books.specs.Slots.{slot_of}
use Rattle.reg_books.proofs.Apart.{slots_apart}
use Rattle.reg_books.proofs.Begins.{due_at, home_back, running_home}
use Rattle.reg_books.proofs.CallOf.{comes_from, call-drop}
use Rattle.reg_journal.proofs.Homes.{home_of}
use Rattle.reg_journal.proofs.LastCheck.{check_before, check_home}
use Rattle.reg_journal.proofs.Later.{due_older, radio_later}
use Rattle.reg_books.proofs.Later.{slot_later}
use Rattle.reg_books.proofs.Over.{whole_at, calls_over, over_at, from_over}
use Rattle.reg_journal.proofs.Splits.{check_front, HasDrop}
use Rattle.reg_journal.proofs.Operations.{some_value}

-- a check was dropped on an interface of the radio, which has the slot
pub record DroppedIn (db : List Domain) (facts base : Journal) (r slot : ℕ) (between' : List Call) : Type 0 where
  pub newer : Journal
  pub iface : ℕ
  pub between : Journal
  pub at : facts ≡ newer ++ check_dropped iface ∷ between
  pub radio : radio_of (between ++ base) iface ≡ Some r
  pub in_slot : slot_of (between ++ base) iface ≡ slot
  pub before : between' ≡ calls_over db between base r

-- each drop in the slot is such a one
pub dropped_in : (db : List Domain) (facts base : Journal) (r slot : ℕ) (calls between' : List Call)
    → calls_over db facts base r ≡ calls ++ DropCheck slot ∷ between' → DroppedIn db facts base r slot between'
dropped_in db facts base r slot calls between' split =
    let over = from_over db facts base r calls (DropCheck slot) between' split in
    let from = comes_from db over.fact (over.between ++ base) r (DropCheck slot) over.is in
    record {
      newer = over.newer;
      iface = from.0;
      between = over.between;
      at = over.at ∙ ap (λ f. over.newer ++ f ∷ over.between) from.1;
      radio = from.2;
      in_slot = from.3;
      before = over.before;
    }

-- the interface whose check was dropped was there, with that check
pub home_dropped : (db : List Domain) (J : Journal) (i r : ℕ) → EachMayFollow db (check_dropped i ∷ J) → radio_of J i ≡ Some r
    → (k : Check) × (check_of J i ≡ Some k) × (home_of J i ≡ Some r)
home_dropped db J i r due radio =
    let check = some_value (check_of J i) due.0 in
    let home = check_home db J i check.0 due.1 check.1 in
    (check.0, check.1, home_back db [] J i home.0 r due.1 home.1 radio)

-- a drop on an interface is one in its slot
pub drop_of_drop : (db : List Domain) (facts base : Journal) (i r : ℕ) → EachMayFollow db (facts ++ base) → radio_of base i ≡ Some r
    → HasDrop facts i → HasCall (calls_over db facts base r) (DropCheck (slot_of base i))
drop_of_drop db facts base i r due radio has =
    let before : Journal = has.older ++ base in
    let due' : EachMayFollow db before = (due_at db facts has.newer has.older base (check_dropped i) due has.dropped).1 in
    let slots : slot_of before i ≡ slot_of base i = slot_later db has.older base i r due' radio in
    subst (λ n. HasCall (calls_over db facts base r) (DropCheck n)) slots (record {
      newer = calls_over db has.newer (check_dropped i ∷ before) r;
      older = calls_over db has.older base r;
      at = over_at db facts has.newer has.older base (check_dropped i) r (DropCheck (slot_of before i)) has.dropped
          (call-drop db before r i (radio_later db has.older base i r due' radio));
    })

-- a check that was dropped in the slot of a running one, since that one began and none after it, is on the same interface
pub dropped_again : (db : List Domain) (facts base : Journal) (i r : ℕ) (k : Check) → EachMayFollow db (facts ++ base) → radio_of base i ≡ Some r
    → check_of (facts ++ base) i ≡ Some k → (HasCheck facts i → ⊥) → HasCall (calls_over db facts base r) (DropCheck (slot_of base i)) → HasDrop facts i
dropped_again db facts base i r k due radio check last has =
    let drop = dropped_in db facts base r (slot_of base i) has.newer has.older has.at in
    let fact : Fact = check_dropped drop.iface in
    let before : Journal = drop.between ++ base in
    let whole = whole_at facts drop.newer drop.between base fact drop.at in
    let due' : EachMayFollow db (drop.newer ++ fact ∷ before) = subst (EachMayFollow db) whole due in
    let due_drop : EachMayFollow db (fact ∷ before) = due_older db drop.newer (fact ∷ before) due' in
    elim (cases_eq drop.iface i) [
      | inl same ↦ this drop.newer drop.iface drop.between drop.at same
      | inr other ↦ elim (check_before db drop.newer (fact ∷ before) i k due' (subst (λ xs. check_of xs i ≡ Some k) whole check)) [
        | inl again ↦ absurd (last (subst (λ xs. HasCheck xs i) (sym drop.at) (check_front drop.newer (fact ∷ drop.between) i again)))
        | inr was ↦
            let radio' = radio_later db drop.between base i r due_drop.1 radio in
            let runs : check_of before i ≡ Some k = rw (ne_eqb i drop.iface (λ same. other (sym same))) at was in
            let home = running_home db [] before i r k due_drop.1 radio' runs in
            let home' = (home_dropped db before drop.iface r due_drop drop.radio).2 in
            let slot : slot_of before i ≡ slot_of base i = slot_later db drop.between base i r due_drop.1 radio in
            this drop.newer drop.iface drop.between drop.at (slots_apart db before drop.iface i r due_drop.1 home' home (drop.in_slot ∙ sym slot))
      ]
    ]
  where
    this : (newer : Journal) (j : ℕ) (between : Journal) → facts ≡ newer ++ check_dropped j ∷ between → j ≡ i → HasDrop facts i
    this newer j between at same = record { newer = newer; older = between; dropped = at ∙ ap (λ n. newer ++ check_dropped n ∷ between) same }
