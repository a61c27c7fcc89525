-- An interface that gives up what it does and ends.
use Rattle.std.proofs.Common.{◌≡◌, ℕ, ◌==◌, true, List, [], ◌∷◌, ◌++◌, Contains, Option, Some, None, IsSome, is_some, refl, sym, ap, subst, ◌∙◌, ◌⊎◌, inl, inr, eq-eqb, ne_eqb, eqb-true}
use Rattle.std.specs.List.{flat_map}
use Rattle.std.proofs.lemmas.Bool.{cases_eq, false≢true}
use Rattle.std.proofs.lemmas.Option.{same_Some}
use Rattle.freq_range.proofs.Members.{Contains-head, Contains-later, Contains-nothing, Contains-cases}
use Rattle.rule_tables.specs.declared.domain.Domain.{Domain}
use Rattle.reg_journal.specs.Due.{EachMayFollow}
use Rattle.reg_journal.specs.Facts.{Fact, Journal, after, ended, radio_removed, stopped, check_dropped}
use Rattle.reg_journal.specs.Present.{Check, Iface, Operation, check_of, ifaces_of, ifaces_on, indexed, is_apart, operation_of, profile_of}
use Rattle.reg_journal.specs.Replies.{facts_of_end, facts_of_removal}
use Rattle.reg_journal.specs.Settled.{IsSettled}
use Rattle.reg_journal.proofs.Indexes.{AreApart, LacksIndex, ifaces_on_apart}
use Rattle.reg_journal.proofs.Judged.{settled_stays}
use Rattle.reg_journal.proofs.Keeping.{Goes, leaves-each, leaves-removed}
use Rattle.reg_journal.proofs.Lasting.{Contains-kept}
use Rattle.reg_journal.proofs.Listed.{Contains-filter, indexed_listed}
use Rattle.reg_journal.proofs.Operations.{no_check_beside}
use Rattle.reg_journal.proofs.Ranges.{IsPlain}
use Rattle.reg_journal.proofs.Swept.{Awaits, IsSweptOn, ifaces-swept, last_check-swept, operation-swept, sweep_done}

-- What comes of an interface that ends: it has gone, and the others do what they did.
pub record IsEnd (db : List Domain) (J : Journal) (x : Iface) (next : Journal) : Type 0 where
  pub goes : Goes db next
  pub there : (y : Iface) → Contains (ifaces_of next) y → Contains (ifaces_of J) y × (y.index ≡ x.index → ⊥)
  pub stays : (y : Iface) → Contains (ifaces_of J) y → (y.index ≡ x.index → ⊥) → Contains (ifaces_of next) y
  pub operations : (i : ℕ) → (i ≡ x.index → ⊥) → operation_of next i ≡ operation_of J i
  pub checks : (i : ℕ) → (i ≡ x.index → ⊥) → check_of next i ≡ check_of J i
  pub profiles : (r : ℕ) → profile_of next r ≡ profile_of J r

apart_true : (i j : ℕ) → (i ≡ j → ⊥) → (y : Iface) → y.index ≡ i → is_apart j y ≡ true
apart_true i j other y at = rw (ne_eqb y.index j (λ same. other (sym at ∙ same)))

-- from a journal at which it rests
ends_resting : (db : List Domain) (J J1 : Journal) (x : Iface) → Goes db J1 → Contains (ifaces_of J1) x → ifaces_of J1 ≡ ifaces_of J
    → operation_of J1 x.index ≡ None → check_of J1 x.index ≡ None
    → ((i : ℕ) → (i ≡ x.index → ⊥) → operation_of J1 i ≡ operation_of J i) → ((i : ℕ) → (i ≡ x.index → ⊥) → check_of J1 i ≡ check_of J i)
    → ((r : ℕ) → profile_of J1 r ≡ profile_of J r) → IsEnd db J x (ended x.index ∷ J1)
ends_resting db J J1 x goes has same no_operation no_check operations checks profiles = record {
  goes = record {
    due = due;
    settled = λ y there.
        let was = (Contains-filter (is_apart x.index) (ifaces_of J1) y there).1 in
        settled_stays db (ended x.index) J1 y due (leaves-each db (ended x.index) J1 y.radio tt) there refl (λ begins. let is = begins.2 in cc) (goes.settled y was);
    plain = (tt, goes.plain);
  };
  there = λ y there.
      let kept = Contains-filter (is_apart x.index) (ifaces_of J1) y there in
      (subst (λ xs. Contains xs y) same kept.1, λ at. let passes = kept.0 in absurd (false≢true (rw (eq-eqb y.index x.index at) at passes)));
  stays = λ y was other. Contains-kept (is_apart x.index) (ifaces_of J1) y (subst (λ xs. Contains xs y) (sym same) was) (apart_true y.index x.index other y refl);
  operations = operations;
  checks = checks;
  profiles = profiles;
}
  where
    due : EachMayFollow db (ended x.index ∷ J1)
    due = ((ap is_some (indexed_listed db J1 x goes.due has), no_operation, no_check), goes.due)

-- from one at which it gives up what it did
ends_released : (db : List Domain) (J : Journal) (x : Iface) (f : Fact) → Goes db J → Contains (ifaces_of J) x → Awaits db J x (Some f) → IsSweptOn f x.index
    → operation_of (f ∷ J) x.index ≡ None → check_of (f ∷ J) x.index ≡ None → ((r : ℕ) → profile_of (f ∷ J) r ≡ profile_of J r)
    → Goes db (f ∷ J) → IsEnd db J x (ended x.index ∷ f ∷ J)
ends_released db J x f goes has awaits on no_operation no_check profiles next =
    ends_resting db J (f ∷ J) x next (subst (λ xs. Contains xs x) (sym (ifaces-swept J f x.index on)) has) (ifaces-swept J f x.index on) no_operation no_check
    (λ i other. operation-swept J f x.index i on other) (λ i other. last_check-swept J f x.index i on other) profiles

-- after one fact on it all is settled
pub goes_released : (db : List Domain) (J : Journal) (x : Iface) (f : Fact) → Goes db J → Contains (ifaces_of J) x → Awaits db J x (Some f) → IsPlain f → Goes db (f ∷ J)
goes_released db J x f goes has awaits plain =
    let done = sweep_done db J (x ∷ []) (f ∷ []) goes.due (λ y in_none same. Contains-nothing y in_none, tt)
    (λ y in_one. elim (Contains-cases x [] y in_one) [ inl same ↦ subst (Contains (ifaces_of J)) same has | inr none ↦ absurd (Contains-nothing y none) ])
    (Some f, [], awaits, refl, refl) in
    record {
      due = done.due;
      settled = λ y there. let was = subst (λ xs. Contains xs y) done.ifaces there in done.settled y was (which y was);
      plain = (plain, goes.plain);
    }
  where
    which : (y : Iface) → Contains (ifaces_of J) y → (IsSettled db J y × LacksIndex (x ∷ []) y.index) ⊎ Contains (x ∷ []) y
    which y was = elim (cases_eq y.index x.index) [
      | inl same ↦ inr (subst (Contains (x ∷ [])) (same_Some x y (sym (indexed_listed db J x goes.due has) ∙ ap (indexed J) (sym same) ∙ indexed_listed db J y goes.due was)) (Contains-head x []))
      | inr other ↦ inl (
        goes.settled y was,
        λ z in_one at. elim (Contains-cases x [] z in_one) [
          | inl same ↦ other (sym (ap (λ (w : Iface). w.index) same ∙ at))
          | inr none ↦ Contains-nothing z none
        ],
      )
    ]

-- ---- one interface

pub ends_one : (db : List Domain) (J : Journal) (x : Iface) → Goes db J → Contains (ifaces_of J) x → IsEnd db J x (after (facts_of_end J x) J)
ends_one db J x goes has = by (operation_of J x.index) (check_of J x.index) refl refl
  where
    by : (o : Option Operation) (k : Option Check) → operation_of J x.index ≡ o → check_of J x.index ≡ k → IsEnd db J x (after (facts_of_end J x) J)
    by None None is_o is_k = rw (is_o, is_k) (ends_resting db J J x goes has refl is_o is_k (λ i other. refl) (λ i other. refl) (λ r. refl))
    by None (Some k) is_o is_k = rw (is_o, is_k)
        (ends_released db J x (check_dropped x.index) goes has (refl, ap is_some is_k) refl is_o (rw (eq-eqb x.index x.index refl)) (λ r. refl)
        (goes_released db J x (check_dropped x.index) goes has (refl, ap is_some is_k) tt))
    by (Some o) k is_o is_k = rw (is_o)
        (ends_released db J x (stopped x.index) goes has (refl, ap is_some is_o) refl (rw (eq-eqb x.index x.index refl)) (no_check_beside db J x.index o goes.due is_o) (λ r. refl)
        (goes_released db J x (stopped x.index) goes has (refl, ap is_some is_o) tt))

-- ---- the interfaces of a list

after-append : (facts more : List Fact) (J : Journal) → after (facts ++ more) J ≡ after more (after facts J)
after-append [] more J = refl
after-append (f ∷ facts) more J = after-append facts more (f ∷ J)

released-alike : (J next : Journal) (y : Iface) → operation_of next y.index ≡ operation_of J y.index → check_of next y.index ≡ check_of J y.index
    → facts_of_end J y ≡ facts_of_end next y
released-alike J next y operation check = rw (operation, check)

ends-alike : (J next : Journal) (ys : List Iface)
    → ((y : Iface) → Contains ys y → (operation_of next y.index ≡ operation_of J y.index) × (check_of next y.index ≡ check_of J y.index))
    → flat_map (facts_of_end J) ys ≡ flat_map (facts_of_end next) ys
ends-alike J next [] alike = refl
ends-alike J next (y ∷ ys) alike =
    let first = alike y (Contains-head y ys) in
    ap (λ facts. facts ++ flat_map (facts_of_end J) ys) (released-alike J next y first.0 first.1)
    ∙ ap (λ facts. facts_of_end next y ++ facts) (ends-alike J next ys (λ z has. alike z (Contains-later y ys z has)))

-- what comes of all of them
pub record EndAll (db : List Domain) (J : Journal) (xs : List Iface) (next : Journal) : Type 0 where
  pub goes : Goes db next
  pub there : (y : Iface) → Contains (ifaces_of next) y → Contains (ifaces_of J) y × LacksIndex xs y.index
  pub profiles : (r : ℕ) → profile_of next r ≡ profile_of J r

pub ends_all : (db : List Domain) (J : Journal) (xs : List Iface) → Goes db J → AreApart xs → ((x : Iface) → Contains xs x → Contains (ifaces_of J) x)
    → EndAll db J xs (after (flat_map (facts_of_end J) xs) J)
ends_all db J [] goes apart inside = record { goes = goes; there = λ y has. (has, λ z none same. Contains-nothing z none); profiles = λ r. refl }
ends_all db J (x ∷ xs) goes (lacks, apart) inside =
    let one = ends_one db J x goes (inside x (Contains-head x xs)) in
    let next : Journal = after (facts_of_end J x) J in
    let all = ends_all db next xs one.goes apart (λ y has. one.stays y (inside y (Contains-later x xs y has)) (lacks y has)) in
    let same : after (flat_map (facts_of_end next) xs) next ≡ after (flat_map (facts_of_end J) (x ∷ xs)) J =
    ap (λ facts. after facts next) (sym (ends-alike J next xs (λ y has. (one.operations y.index (lacks y has), one.checks y.index (lacks y has)))))
    ∙ sym (after-append (facts_of_end J x) (flat_map (facts_of_end J) xs) J) in
    subst (EndAll db J (x ∷ xs)) same (record {
      goes = all.goes;
      there = λ y has.
          let rest = all.there y has in
          let first = one.there y rest.0 in (
            first.0,
            λ z in_all at. elim (Contains-cases x xs z in_all) [
              | inl is ↦ first.1 (sym at ∙ ap (λ (w : Iface). w.index) (sym is))
              | inr later ↦ rest.1 z later at
            ],
          );
      profiles = λ r. all.profiles r ∙ one.profiles r;
    })

-- ---- a radio that goes

nothing_listed : {X : Type 0} (xs : List X) → ((x : X) → Contains xs x → ⊥) → xs ≡ []
nothing_listed [] none = refl
nothing_listed (x ∷ xs) none = absurd (none x (Contains-head x xs))

pub goes_removal : (db : List Domain) (J : Journal) (r : ℕ) → Goes db J → IsSome (profile_of J r) → Goes db (after (facts_of_removal J r) J)
goes_removal db J r goes there =
    subst (Goes db) (sym (after-append (flat_map (facts_of_end J) (ifaces_on J r)) (radio_removed r ∷ []) J)) (record {
      due = due;
      settled = λ y has.
          settled_stays db (radio_removed r) next y due (leaves-removed db next r y.radio (elsewhere y has)) has refl (λ begins. let is = begins.2 in cc) (all.goes.settled y has);
      plain = (tt, all.goes.plain);
    })
  where
    next : Journal
    next = after (flat_map (facts_of_end J) (ifaces_on J r)) J

    all : EndAll db J (ifaces_on J r) next
    all = ends_all db J (ifaces_on J r) goes (ifaces_on_apart db J r goes.due) (λ x has. (Contains-filter (λ y. y.radio == r) (ifaces_of J) x has).1)

    elsewhere : (y : Iface) → Contains (ifaces_of next) y → y.radio ≡ r → ⊥
    elsewhere y has same =
        let was = all.there y has in
        was.1 y (Contains-kept (λ z. z.radio == r) (ifaces_of J) y was.0 (eq-eqb y.radio r same)) refl

    due : EachMayFollow db (radio_removed r ∷ next)
    due = (
      (
        subst (λ o. IsSome o) (sym (all.profiles r)) there,
        nothing_listed (ifaces_on next r) (λ y has.
            let kept = Contains-filter (λ z. z.radio == r) (ifaces_of next) y has in
            elsewhere y kept.1 (eqb-true y.radio r kept.0)),
      ),
      all.goes.due,
    )
