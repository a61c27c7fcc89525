-- After a sweep what each interface does may go on.
use Rattle.std.proofs.Common.{◌≡◌, ℕ, ◌^◌, ◌<◌, List, [], ◌∷◌, ◌++◌, Contains, Option, Some, None, IsSome, IsSomeAnd, MatchOption, is_some, ◌==◌, refl, sym, subst, ap, ◌∙◌, ◌⊎◌, inl, inr, arith, eq-eqb, ne_eqb}
use Rattle.std.specs.Option.{option_map, option_to_list}
use Rattle.std.proofs.lemmas.Bool.{cases_eq, eqb-true}
use Rattle.std.proofs.lemmas.Option.{none-some, same_Some}
use Rattle.freq_range.proofs.Members.{Contains-cases, Contains-head, Contains-later, Contains-nothing}
use Rattle.rule_tables.specs.declared.domain.Domain.{Domain}
use Rattle.reg_journal.specs.Due.{EachMayFollow, MayFollow}
use Rattle.reg_journal.specs.Facts.{Fact, Journal, after, stopped, powered, check_dropped}
use Rattle.reg_journal.specs.Granted.{IsPermitted}
use Rattle.reg_journal.specs.Present.{Check, Iface, Operation, check_of, ifaces_of, ifaces_on, indexed, operation_of, operation_with_power}
use Rattle.reg_journal.specs.Settled.{AreSettled, IsSettled}
use Rattle.reg_journal.specs.Sweep.{AreSwept, Becomes, CheckBecomes, OperationBecomes}
use Rattle.chan_def.specs.declared.definition.ChanDef.{ChanDef}
use Rattle.chan_flags.proofs.Granted.{power_within}
use Rattle.reg_journal.proofs.Indexes.{AreApart, LacksIndex, ifaces_apart, ifaces_on_apart, power_fits}
use Rattle.reg_journal.proofs.Permitting.{check_permitted_of_kept, permitted_of_free}
use Rattle.reg_journal.proofs.Judged.{check_settled, idle_settled, operation_settled, settled_stays}
use Rattle.reg_journal.proofs.Lasting.{Contains-kept, LeavesRadio, permitted_stays}
use Rattle.reg_journal.proofs.Listed.{Contains-filter, indexed_listed}
use Rattle.reg_journal.proofs.Operations.{BeginsCheck, no_check_beside, some_of_property, some_value}

-- What is to become of the interface may come now, and leaves what may go on.
abbrev pub Awaits : List Domain → Journal → Iface → Option Fact → Type 0
Awaits db J x None = IsSettled db J x
Awaits db J x (Some (stopped i)) = (i ≡ x.index) × IsSome (operation_of J x.index)
Awaits db J x (Some (powered i power)) = (i ≡ x.index) × (power < 2 ^ 16) × IsSomeAnd (operation_of J x.index) (λ o. IsPermitted db J x o.chan power)
Awaits db J x (Some (check_dropped i)) = (i ≡ x.index) × IsSome (check_of J x.index)
Awaits db J x (Some f) = ⊥

-- each interface awaits at most one fact, in order
abbrev pub EachAwaits : List Domain → Journal → List Iface → List Fact → Type 0
EachAwaits db J [] facts = facts ≡ []
EachAwaits db J (x ∷ xs) facts = (fact : Option Fact) × (rest : List Fact) × Awaits db J x fact × EachAwaits db J xs rest × (facts ≡ option_to_list fact ++ rest)

-- the fact is of a sweep, on the interface of this index
abbrev pub IsSweptOn : Fact → ℕ → Type 0
IsSweptOn (stopped i) j = i ≡ j
IsSweptOn (powered i power) j = i ≡ j
IsSweptOn (check_dropped i) j = i ≡ j
IsSweptOn f j = ⊥

-- ---- one fact of a sweep

pub swept_on : (db : List Domain) (J : Journal) (x : Iface) (f : Fact) → Awaits db J x (Some f) → IsSweptOn f x.index
swept_on db J x (stopped i) awaits = awaits.0
swept_on db J x (powered i power) awaits = awaits.0
swept_on db J x (check_dropped i) awaits = awaits.0
swept_on db J x f awaits = awaits

-- it leaves each radio
pub leaves-swept : (db : List Domain) (J : Journal) (f : Fact) (i r : ℕ) → IsSweptOn f i → LeavesRadio db f J r
leaves-swept db J (stopped j) i r on = record { domains = refl; profile = refl; region = refl; indoor = refl; unmet = λ chan met. cc }
leaves-swept db J (powered j power) i r on = record { domains = refl; profile = refl; region = refl; indoor = refl; unmet = λ chan met. cc }
leaves-swept db J (check_dropped j) i r on = record { domains = refl; profile = refl; region = refl; indoor = refl; unmet = λ chan met. cc }
leaves-swept db J f i r on = absurd on

-- and the list of interfaces
pub ifaces-swept : (J : Journal) (f : Fact) (i : ℕ) → IsSweptOn f i → ifaces_of (f ∷ J) ≡ ifaces_of J
ifaces-swept J (stopped j) i on = refl
ifaces-swept J (powered j power) i on = refl
ifaces-swept J (check_dropped j) i on = refl
ifaces-swept J f i on = absurd on

-- and the operations of the others
pub operation-swept : (J : Journal) (f : Fact) (i other : ℕ) → IsSweptOn f i → (other ≡ i → ⊥) → operation_of (f ∷ J) other ≡ operation_of J other
operation-swept J (stopped j) i other on apart = rw (ne_eqb other j (λ same. apart (same ∙ on)))
operation-swept J (powered j power) i other on apart = rw (ne_eqb other j (λ same. apart (same ∙ on)))
operation-swept J (check_dropped j) i other on apart = refl
operation-swept J f i other on apart = absurd on

begins_none : (f : Fact) (i other : ℕ) → IsSweptOn f i → BeginsCheck f other → ⊥
begins_none (stopped j) i other on (chan, length, begins) = cc
begins_none (powered j power) i other on (chan, length, begins) = cc
begins_none (check_dropped j) i other on (chan, length, begins) = cc
begins_none f i other on begins = absurd on

-- and their checks
pub last_check-swept : (J : Journal) (f : Fact) (i other : ℕ) → IsSweptOn f i → (other ≡ i → ⊥) → check_of (f ∷ J) other ≡ check_of J other
last_check-swept J (stopped j) i other on apart = refl
last_check-swept J (powered j power) i other on apart = refl
last_check-swept J (check_dropped j) i other on apart = rw (ne_eqb other j (λ same. apart (same ∙ on)))
last_check-swept J f i other on apart = absurd on

-- what is awaited may come
due_awaits : (db : List Domain) (J : Journal) (x : Iface) (f : Fact) → Awaits db J x (Some f) → MayFollow db J f
due_awaits db J x (stopped i) (same, running) = subst (λ n. IsSome (operation_of J n)) (sym same) running
due_awaits db J x (powered i power) (same, small, may) =
    (subst (λ n. IsSome (operation_of J n)) (sym same) (some_of_property (operation_of J x.index) (λ o. IsPermitted db J x o.chan power) may), small)
due_awaits db J x (check_dropped i) (same, running) = subst (λ n. IsSome (check_of J n)) (sym same) running
due_awaits db J x f awaits = absurd awaits

-- the interface that it speaks of is settled then
settled_by_own : (db : List Domain) (J : Journal) (x : Iface) (f : Fact) → EachMayFollow db (f ∷ J) → Contains (ifaces_of J) x → Awaits db J x (Some f)
    → IsSettled db (f ∷ J) x
settled_by_own db J x (stopped i) due there (same, running) =
    let was = some_value (operation_of J x.index) running in
    idle_settled db (stopped i ∷ J) x (rw (eq-eqb x.index i (sym same))) (no_check_beside db J x.index was.0 due.1 was.1)
settled_by_own db J x (powered i power) due there (same, small, may) = by (operation_of J x.index) refl may
  where
    by : (o : Option Operation) → operation_of J x.index ≡ o → IsSomeAnd o (λ o. IsPermitted db J x o.chan power) → IsSettled db (powered i power ∷ J) x
    by None is may = absurd may
    by (Some o) is may =
        let now : operation_of (powered i power ∷ J) x.index ≡ Some (operation_with_power power o) =
        rw (eq-eqb x.index i (sym same)) (ap (λ o. option_map (operation_with_power power) o) is) in
        operation_settled db (powered i power ∷ J) x (operation_with_power power o) now
        (permitted_stays db (powered i power) J x o.chan power due (leaves-swept db J (powered i power) i x.radio refl)
        (record { there = there; power = power; on_channel = now }) may)
settled_by_own db J x (check_dropped i) due there (same, running) = idle_settled db (check_dropped i ∷ J) x (no_operation (operation_of J x.index) refl) (rw (eq-eqb x.index i (sym same)))
  where
    no_operation : (o : Option Operation) → operation_of J x.index ≡ o → operation_of J x.index ≡ None
    no_operation None is = is
    no_operation (Some o) is =
        let check = some_value (check_of J x.index) running in
        absurd (none-some check.0 (sym (no_check_beside db J x.index o due.1 is) ∙ check.1))
settled_by_own db J x f due there awaits = absurd awaits

-- another interface awaits what it awaited
awaits_stays : (db : List Domain) (J : Journal) (x y : Iface) (f : Fact) (own : Option Fact) → EachMayFollow db (f ∷ J) → IsSweptOn f x.index → (y.index ≡ x.index → ⊥)
    → Contains (ifaces_of J) y → Awaits db J y own → Awaits db (f ∷ J) y own
awaits_stays db J x y f None due on apart there settled =
    settled_stays db f J y due (leaves-swept db J f x.index y.radio on) (subst (λ xs. Contains xs y) (sym (ifaces-swept J f x.index on)) there)
    (operation-swept J f x.index y.index on apart) (begins_none f x.index y.index on) settled
awaits_stays db J x y f (Some (stopped i)) due on apart there (same, running) =
    (same, subst (λ o. IsSome o) (sym (operation-swept J f x.index y.index on apart)) running)
awaits_stays db J x y f (Some (powered i power)) due on apart there (same, small, may) = (same, small, by (operation_of J y.index) refl may)
  where
    by : (o : Option Operation) → operation_of J y.index ≡ o → IsSomeAnd o (λ o. IsPermitted db J y o.chan power)
        → IsSomeAnd (operation_of (f ∷ J) y.index) (λ o. IsPermitted db (f ∷ J) y o.chan power)
    by None is may = absurd may
    by (Some o) is may =
        let now : operation_of (f ∷ J) y.index ≡ Some o = operation-swept J f x.index y.index on apart ∙ is in
        subst (λ o. IsSomeAnd o (λ o. IsPermitted db (f ∷ J) y o.chan power)) (sym now)
        (permitted_stays db f J y o.chan power due (leaves-swept db J f x.index y.radio on)
        (record { there = subst (λ xs. Contains xs y) (sym (ifaces-swept J f x.index on)) there; power = o.power; on_channel = now }) may)
awaits_stays db J x y f (Some (check_dropped i)) due on apart there (same, running) =
    (same, subst (λ o. IsSome o) (sym (last_check-swept J f x.index y.index on apart)) running)
awaits_stays db J x y f (Some g) due on apart there awaits = absurd awaits

each_awaits_still : (db : List Domain) (J : Journal) (x : Iface) (f : Fact) (ys : List Iface) (facts : List Fact) → EachMayFollow db (f ∷ J) → IsSweptOn f x.index
    → LacksIndex ys x.index → ((y : Iface) → Contains ys y → Contains (ifaces_of J) y) → EachAwaits db J ys facts → EachAwaits db (f ∷ J) ys facts
each_awaits_still db J x f [] facts due on apart there none = none
each_awaits_still db J x f (y ∷ ys) facts due on apart there (own, rest, awaits, each, are) = (
  own,
  rest,
  awaits_stays db J x y f own due on (apart y (Contains-head y ys)) (there y (Contains-head y ys)) awaits,
  each_awaits_still db J x f ys rest due on (λ z has. apart z (Contains-later y ys z has)) (λ z has. there z (Contains-later y ys z has)) each,
  are,
)

-- ---- what a sweep finds

-- the power of what is permitted fits its field
pub permitted_power_fits : (db : List Domain) (J : Journal) (x : Iface) (c : ChanDef) (power : ℕ) → EachMayFollow db J → IsPermitted db J x c power → power < 2 ^ 16
permitted_power_fits db J x c power due may =
    let given = may.given in
    let radio = given.is_limit.radio in
    let below = power_within x.setting given.limit given.within in
    let same = given.power_is in
    let small = power_fits db J x.radio due in
    omega (arith, radio, below, same, small)

-- what becomes of an interface is awaited
awaits_of : (db : List Domain) (J : Journal) (x : Iface) (fact : Option Fact) → EachMayFollow db J → Becomes db J x fact → Awaits db J x fact
awaits_of db J x fact due becomes = by (operation_of J x.index) (check_of J x.index) refl refl fact becomes
  where
    operates : (o : Operation) → operation_of J x.index ≡ Some o → (fact : Option Fact) → OperationBecomes db J x o fact → Awaits db J x fact
    operates o is None (free, power) = operation_settled db J x o is (permitted_of_free db J x o.chan o.power free power)
    operates o is (Some (stopped i)) (same, ends) = (same, ap is_some is)
    operates o is (Some (powered i power)) (same, free, is_power, other) =
        let may = permitted_of_free db J x o.chan power free is_power in
        (same, permitted_power_fits db J x o.chan power due may, subst (λ o. IsSomeAnd o (λ o. IsPermitted db J x o.chan power)) (sym is) may)
    operates o is (Some f) becomes = absurd becomes

    checks : (k : Check) → operation_of J x.index ≡ None → check_of J x.index ≡ Some k → (fact : Option Fact) → CheckBecomes db J x k fact → Awaits db J x fact
    checks k none is None stays = check_settled db J x k none is (check_permitted_of_kept db J x k stays)
    checks k none is (Some (check_dropped i)) (same, must) = (same, ap is_some is)
    checks k none is (Some f) becomes = absurd becomes

    by : (o : Option Operation) (k : Option Check) → operation_of J x.index ≡ o → check_of J x.index ≡ k → (fact : Option Fact)
        → MatchOption o (MatchOption k (fact ≡ None) (λ k. CheckBecomes db J x k fact)) (λ o. OperationBecomes db J x o fact) → Awaits db J x fact
    by None None no_operation no_check fact none = subst (λ o. Awaits db J x o) (sym none) (idle_settled db J x no_operation no_check)
    by None (Some k) no_operation is fact becomes = checks k no_operation is fact becomes
    by (Some o) k is check fact becomes = operates o is fact becomes

pub each_awaits_of : (db : List Domain) (J : Journal) (xs : List Iface) (facts : List Fact) → EachMayFollow db J → AreSwept db J xs facts → EachAwaits db J xs facts
each_awaits_of db J [] facts due none = none
each_awaits_of db J (x ∷ xs) facts due (fact, rest, becomes, swept, are) = (fact, rest, awaits_of db J x fact due becomes, each_awaits_of db J xs rest due swept, are)

-- ---- a whole sweep

-- What comes of a sweep: each fact may come, and the interfaces that were swept, and those that were settled, are settled.
pub record IsSweepDone (db : List Domain) (J : Journal) (xs : List Iface) (facts : List Fact) : Type 0 where
  pub due : EachMayFollow db (after facts J)
  pub ifaces : ifaces_of (after facts J) ≡ ifaces_of J
  pub settled : (y : Iface) → Contains (ifaces_of J) y → (IsSettled db J y × LacksIndex xs y.index) ⊎ Contains xs y → IsSettled db (after facts J) y

pub sweep_done : (db : List Domain) (J : Journal) (xs : List Iface) (facts : List Fact) → EachMayFollow db J → AreApart xs
    → ((x : Iface) → Contains xs x → Contains (ifaces_of J) x) → EachAwaits db J xs facts → IsSweepDone db J xs facts
sweep_done db J [] facts due apart there none = subst (λ fs. IsSweepDone db J [] fs) (sym none) (record {
  due = due;
  ifaces = refl;
  settled = λ y has which. elim which [ inl settled ↦ settled.0 | inr swept ↦ absurd (Contains-nothing y swept) ];
})
sweep_done db J (x ∷ xs) facts due (lacks, apart) there (None, rest, awaits, each, are) =
    let done = sweep_done db J xs rest due apart (λ y has. there y (Contains-later x xs y has)) each in
    subst (λ fs. IsSweepDone db J (x ∷ xs) fs) (sym are) (record {
      due = done.due;
      ifaces = done.ifaces;
      settled = λ y has which. done.settled y has (elim which [
        | inl settled ↦ inl (settled.0, λ z has_z. settled.1 z (Contains-later x xs z has_z))
        | inr swept ↦ elim (Contains-cases x xs y swept) [
          | inl same ↦ inl (subst (λ z. IsSettled db J z × LacksIndex xs z.index) same (awaits, lacks))
          | inr later ↦ inr later
        ]
      ]);
    })
sweep_done db J (x ∷ xs) facts due (lacks, apart) there (Some f, rest, awaits, each, are) =
    let on = swept_on db J x f awaits in
    let next : EachMayFollow db (f ∷ J) = (due_awaits db J x f awaits, due) in
    let here = there x (Contains-head x xs) in
    let same = ifaces-swept J f x.index on in
    let there' : (y : Iface) → Contains xs y → Contains (ifaces_of J) y = λ y has. there y (Contains-later x xs y has) in
    let done = sweep_done db (f ∷ J) xs rest next apart (λ y has. subst (λ ys. Contains ys y) (sym same) (there' y has))
    (each_awaits_still db J x f xs rest next on lacks there' each) in
    subst (λ fs. IsSweepDone db J (x ∷ xs) fs) (sym are) (record {
      due = done.due;
      ifaces = done.ifaces ∙ same;
      settled = λ y has which. done.settled y (subst (λ ys. Contains ys y) (sym same) has) (elim which [
        | inl settled ↦ inl (
          awaits_stays db J x y f None next on (λ at. settled.1 x (Contains-head x xs) (sym at)) has settled.0,
          λ z has_z. settled.1 z (Contains-later x xs z has_z),
        )
        | inr swept ↦ elim (Contains-cases x xs y swept) [
          | inl is ↦ inl (subst (λ z. IsSettled db (f ∷ J) z × LacksIndex xs z.index) is (settled_by_own db J x f next here awaits, lacks))
          | inr later ↦ inr later
        ]
      ]);
    })

-- the facts of a sweep may come
pub swept_due : (db : List Domain) (J : Journal) (xs : List Iface) (facts : List Fact) → EachMayFollow db J → AreApart xs → ((x : Iface) → Contains xs x → Contains (ifaces_of J) x)
    → AreSwept db J xs facts → IsSweepDone db J xs facts
swept_due db J xs facts due apart there swept = sweep_done db J xs facts due apart there (each_awaits_of db J xs facts due swept)

-- a sweep of all interfaces
pub all_swept : (db : List Domain) (J : Journal) (facts : List Fact) → EachMayFollow db J → AreSwept db J (ifaces_of J) facts
    → EachMayFollow db (after facts J) × AreSettled db (after facts J)
all_swept db J facts due swept =
    let done = swept_due db J (ifaces_of J) facts due (ifaces_apart db J due) (λ x has. has) swept in
    (done.due, λ y has. let there = subst (λ ys. Contains ys y) done.ifaces has in done.settled y there (inr there))

-- a sweep of one radio's interfaces, where the others are settled
pub one_swept : (db : List Domain) (J : Journal) (r : ℕ) (facts : List Fact) → EachMayFollow db J → AreSwept db J (ifaces_on J r) facts
    → ((y : Iface) → Contains (ifaces_of J) y → (y.radio ≡ r → ⊥) → IsSettled db J y) → EachMayFollow db (after facts J) × AreSettled db (after facts J)
one_swept db J r facts due swept others =
    let inside : (x : Iface) → Contains (ifaces_on J r) x → Contains (ifaces_of J) x = λ x has. (Contains-filter (λ x. x.radio == r) (ifaces_of J) x has).1 in
    let done = swept_due db J (ifaces_on J r) facts due (ifaces_on_apart db J r due) inside swept in (
      done.due,
      λ y has. let there = subst (λ ys. Contains ys y) done.ifaces has in elim (cases_eq y.radio r) [
        | inl here ↦ done.settled y there (inr (Contains-kept (λ x. x.radio == r) (ifaces_of J) y there (eq-eqb y.radio r here)))
        | inr elsewhere ↦ done.settled y there (inl (others y there elsewhere, λ z has_z same. elsewhere (on_radio z y has_z there same)))
      ],
    )
  where
    -- of one index they are one
    on_radio : (z y : Iface) → Contains (ifaces_on J r) z → Contains (ifaces_of J) y → z.index ≡ y.index → y.radio ≡ r
    on_radio z y has_z has_y same =
        let kept = Contains-filter (λ x. x.radio == r) (ifaces_of J) z has_z in
        let one : z ≡ y = same_Some z y (sym (indexed_listed db J z due kept.1) ∙ ap (indexed J) same ∙ indexed_listed db J y due has_y) in
        ap (λ (w : Iface). w.radio) (sym one) ∙ eqb-true z.radio r kept.0
