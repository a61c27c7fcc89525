-- What is on air, and in which order.
use Rattle.std.proofs.Common.{◌≡◌, ◌↔◌, ◌==◌, ℕ, ◌<◌, true, false, not, List, [], ◌∷◌, ◌++◌, length, map, AllPairs, Contains, Option, Some, None, if◌then◌else◌, option_map, arith, refl, sym, ap, subst, ◌∙◌, ◌⊎◌, inl, inr, eq-eqb, ne_eqb}
use Rattle.std.proofs.lemmas.Bool.{cases_Bool, cases_eq, false≢true}
use Rattle.std.proofs.lemmas.List.Elements.{All-nil}
use Rattle.std.proofs.lemmas.List.Kept.{AllPairs-cons, AllPairs-filter}
use Rattle.std.proofs.lemmas.Option.{none-some, same_Some}
use Rattle.freq_range.proofs.Deciding.{told_any}
use Rattle.freq_range.proofs.Members.{Contains-cases, Contains-head, Contains-later, Contains-nothing}
use Rattle.rule_tables.specs.declared.domain.Domain.{Domain}
use Rattle.rule_tables.proofs.Ascending.{before_rest, pairs_rest}
use Rattle.rule_intersect.proofs.Ordered.{All-from_members}
use Rattle.chan_def.specs.declared.definition.ChanDef.{ChanDef}
use Rattle.radio_drv.specs.Air.{started as put_on_air, stopped as taken_off, powered as given_power, with_power as entry_with_power}
use Rattle.radio_drv.specs.declared.on_air.OnAir.{OnAir}
use Rattle.reg_journal.specs.Due.{EachMayFollow}
use Rattle.reg_journal.specs.Facts.{Fact, Journal, made, started, stopped, powered}
use Rattle.reg_journal.specs.OnAir.{OperatesSince, StartedBefore, entry, is_on, on_air_of}
use Rattle.reg_journal.specs.Present.{Operation, operation_of, operation_with_power}
use Rattle.reg_journal.proofs.Lasting.{Contains-kept}
use Rattle.reg_journal.proofs.Listed.{Contains-filter, Contains-map}
use Rattle.reg_journal.proofs.Operations.{no_operation_next}

-- ---- an entry put on air

-- it is there, the others of other interfaces are, and nothing else is
put_has : (e : OnAir) (air : List OnAir) → Contains (put_on_air e air) e
put_has e [] = Contains-head e []
put_has e (x ∷ air) = elim (cases_eq x.iface e.iface) [
  | inl same ↦ rw (eq-eqb x.iface e.iface same) (Contains-head e air)
  | inr other ↦ rw (ne_eqb x.iface e.iface other) (Contains-later x (put_on_air e air) e (put_has e air))
]

put_keeps : (e : OnAir) (air : List OnAir) (x : OnAir) → Contains air x → (x.iface ≡ e.iface → ⊥) → Contains (put_on_air e air) x
put_keeps e [] x has other = absurd (Contains-nothing x has)
put_keeps e (y ∷ air) x has other = elim (cases_eq y.iface e.iface) [
  | inl same ↦ rw (eq-eqb y.iface e.iface same) (elim (Contains-cases y air x has) [
    | inl is ↦ absurd (other (ap (λ (z : OnAir). z.iface) (sym is) ∙ same))
    | inr later ↦ Contains-later e air x later
  ])
  | inr differs ↦ rw (ne_eqb y.iface e.iface differs) (elim (Contains-cases y air x has) [
    | inl is ↦ subst (λ z. Contains (y ∷ put_on_air e air) z) is (Contains-head y (put_on_air e air))
    | inr later ↦ Contains-later y (put_on_air e air) x (put_keeps e air x later other)
  ])
]

-- two entries of one list have different interfaces
abbrev Differ : ℕ → ℕ → Type 0
Differ i j = i ≡ j → ⊥

-- R holds of the interfaces of each entry and each later one
abbrev EachBefore : (ℕ → ℕ → Type 0) → List OnAir → Type 0
EachBefore R air = AllPairs (λ (a b : OnAir). R a.iface b.iface) air

put_cases : (e : OnAir) (air : List OnAir) (x : OnAir) → EachBefore Differ air → Contains (put_on_air e air) x → (e ≡ x) ⊎ (Contains air x × (x.iface ≡ e.iface → ⊥))
put_cases e [] x once has = elim (Contains-cases e [] x has) [ inl is ↦ inl is | inr none ↦ absurd (Contains-nothing x none) ]
put_cases e (y ∷ air) x once has = elim (cases_eq y.iface e.iface) [
  | inl same ↦ elim (Contains-cases e air x (rw (eq-eqb y.iface e.iface same) at has)) [
    | inl is ↦ inl is
    | inr later ↦ inr (Contains-later y air x later, λ at. before_rest (λ (a b : OnAir). Differ a.iface b.iface) y air x once later (same ∙ sym at))
  ]
  | inr other ↦ elim (Contains-cases y (put_on_air e air) x (rw (ne_eqb y.iface e.iface other) at has)) [
    | inl is ↦ inr (subst (λ z. Contains (y ∷ air) z) is (Contains-head y air), λ at. other (ap (λ (z : OnAir). z.iface) is ∙ at))
    | inr later ↦ elim (put_cases e air x (pairs_rest (λ (a b : OnAir). Differ a.iface b.iface) y air once) later) [
      | inl is ↦ inl is
      | inr old ↦ inr (Contains-later y air x old.0, old.1)
    ]
  ]
]

-- the order of the interfaces stays, and a new one comes last
put_pairs : (R : ℕ → ℕ → Type 0) (e : OnAir) (air : List OnAir) → EachBefore Differ air → EachBefore R air
    → (((x : OnAir) → Contains air x → x.iface ≡ e.iface → ⊥) → (x : OnAir) → Contains air x → R x.iface e.iface) → EachBefore R (put_on_air e air)
put_pairs R e [] once each last = AllPairs-cons (λ (a b : OnAir). R a.iface b.iface) e [] (All-nil (λ (b : OnAir). R e.iface b.iface)) each
put_pairs R e (y ∷ air) once each last = elim (cases_eq y.iface e.iface) [
  | inl same ↦ rw (eq-eqb y.iface e.iface same)
      (AllPairs-cons (λ (a b : OnAir). R a.iface b.iface) e air
      (All-from_members (λ (b : OnAir). R e.iface b.iface) air (λ b has. subst (λ i. R i b.iface) same (before_rest (λ (a b : OnAir). R a.iface b.iface) y air b each has)))
      (pairs_rest (λ (a b : OnAir). R a.iface b.iface) y air each))
  | inr other ↦ rw (ne_eqb y.iface e.iface other)
      (AllPairs-cons (λ (a b : OnAir). R a.iface b.iface) y (put_on_air e air)
      (All-from_members (λ (b : OnAir). R y.iface b.iface) (put_on_air e air) (λ b has. elim (put_cases e air b once_rest has) [
        | inl is ↦ subst (λ (z : OnAir). R y.iface z.iface) is (to_new other)
        | inr old ↦ before_rest (λ (a b : OnAir). R a.iface b.iface) y air b each old.0
      ]))
      (put_pairs R e air once_rest (pairs_rest (λ (a b : OnAir). R a.iface b.iface) y air each)
      (λ none x has. last (λ z in_all at. elim (Contains-cases y air z in_all) [
        | inl is ↦ other (ap (λ (w : OnAir). w.iface) is ∙ at)
        | inr later ↦ none z later at
      ]) x (Contains-later y air x has))))
]
  where
    once_rest : EachBefore Differ air
    once_rest = pairs_rest (λ (a b : OnAir). Differ a.iface b.iface) y air once

    -- to the new entry: it takes the place of an older one, or is the last
    to_new : (y.iface ≡ e.iface → ⊥) → R y.iface e.iface
    to_new other = elim (told_any (λ (z : OnAir). z.iface ≡ e.iface) (λ (z : OnAir). cases_eq z.iface e.iface) air) [
      | inl (z, has, at) ↦ subst (λ i. R y.iface i) at (before_rest (λ (a b : OnAir). R a.iface b.iface) y air z each has)
      | inr none ↦ last (λ z in_all at. elim (Contains-cases y air z in_all) [
        | inl is ↦ other (ap (λ (w : OnAir). w.iface) is ∙ at)
        | inr later ↦ none z later at
      ]) y (Contains-head y air)
    ]

-- powers leave the interfaces
power_iface : (i power : ℕ) (x : OnAir) → (entry_with_power i power x).iface ≡ x.iface
power_iface i power x = elim (x.iface == i) as (λ b. (if b then record x { power_mbm = power } else x).iface ≡ x.iface) [ true ↦ refl | false ↦ refl ]

power_pairs : (R : ℕ → ℕ → Type 0) (i power : ℕ) (air : List OnAir) → EachBefore R air → EachBefore R (given_power i power air)
power_pairs R i power [] each = each
power_pairs R i power (x ∷ air) each =
    AllPairs-cons (λ (a b : OnAir). R a.iface b.iface) (entry_with_power i power x) (given_power i power air)
    (All-from_members (λ (b : OnAir). R (entry_with_power i power x).iface b.iface) (given_power i power air) (λ b has.
    let from = Contains-map (entry_with_power i power) air b has in
    let is : (from.0).iface ≡ b.iface = sym (power_iface i power from.0) ∙ ap (λ (z : OnAir). z.iface) from.2 in
    subst (λ j. R (entry_with_power i power x).iface j) is (subst (λ j. R j (from.0).iface) (sym (power_iface i power x))
    (before_rest (λ (a b : OnAir). R a.iface b.iface) x air from.0 each from.1))))
    (power_pairs R i power air (pairs_rest (λ (a b : OnAir). R a.iface b.iface) x air each))

-- a relation that follows on the interfaces of the list
pairs_weaker : (R S : ℕ → ℕ → Type 0) (air : List OnAir) → ((a b : OnAir) → Contains air a → Contains air b → R a.iface b.iface → S a.iface b.iface) → EachBefore R air → EachBefore S air
pairs_weaker R S [] to each = λ i j d less within. absurd (omega (arith, within))
pairs_weaker R S (x ∷ air) to each =
    AllPairs-cons (λ (a b : OnAir). S a.iface b.iface) x air
    (All-from_members (λ (b : OnAir). S x.iface b.iface) air (λ b has. to x b (Contains-head x air) (Contains-later x air b has) (before_rest (λ (a b : OnAir). R a.iface b.iface) x air b each has)))
    (pairs_weaker R S air (λ a b has_a has_b. to a b (Contains-later x air a has_a) (Contains-later x air b has_b)) (pairs_rest (λ (a b : OnAir). R a.iface b.iface) x air each))

-- ---- since when an interface operates

since_later : (f : Fact) (J : Journal) (i : ℕ) (older : Journal) → (f ≡ stopped i → ⊥) → OperatesSince J i older → OperatesSince (f ∷ J) i older
since_later f J i older other since = record {
  newer = f ∷ since.newer;
  chan = since.chan;
  power = since.power;
  start = ap (λ xs. f ∷ xs) since.start;
  resting = since.resting;
  kept = λ front back at. by front back at;
}
  where
    by : (front back : Journal) → f ∷ since.newer ≡ front ++ stopped i ∷ back → ⊥
    by [] back at = other (first at)
      where
        first : f ∷ since.newer ≡ stopped i ∷ back → f ≡ stopped i
        first e = cc
    by (g ∷ front) back at = since.kept front back (rest at)
      where
        rest : f ∷ since.newer ≡ g ∷ (front ++ stopped i ∷ back) → since.newer ≡ front ++ stopped i ∷ back
        rest e = cc

before_later : (f : Fact) (J : Journal) (i j : ℕ) → (f ≡ stopped i → ⊥) → (f ≡ stopped j → ⊥) → StartedBefore J i j → StartedBefore (f ∷ J) i j
before_later f J i j one other is = record {
  first = is.first;
  second = is.second;
  first_since = since_later f J i is.first one is.first_since;
  second_since = since_later f J j is.second other is.second_since;
  earlier = is.earlier;
}

since_start : (J : Journal) (i : ℕ) (c : ChanDef) (power : ℕ) → operation_of J i ≡ None → OperatesSince (started i c power ∷ J) i J
since_start J i c power none = record { newer = []; chan = c; power = power; start = refl; resting = none; kept = λ front back at. by front back at }
  where
    by : (front back : Journal) → [] ≡ front ++ stopped i ∷ back → ⊥
    by [] back at = cc
    by (g ∷ front) back at = cc

-- ---- journals

-- What is on air: exactly the operations of the interfaces that were made on the radio, each once, in the order of the starts since
-- which each has operated.
pub record IsInOrder (J : Journal) (r : ℕ) : Type 0 where
  pub operates : (e : OnAir) → Contains (on_air_of J r) e → (is_on J e.iface r ≡ true) × (operation_of J e.iface ≡ Some (record { chan = e.chan; power = e.power_mbm }))
  pub all : (i : ℕ) (o : Operation) → is_on J i r ≡ true → operation_of J i ≡ Some o → Contains (on_air_of J r) (entry i o.chan o.power)
  pub once : EachBefore Differ (on_air_of J r)
  pub order : EachBefore (StartedBefore J) (on_air_of J r)
  pub since : (e : OnAir) → Contains (on_air_of J r) e → (older : Journal) × OperatesSince J e.iface older × (length older < length J)

contains_mapped : (g : OnAir → OnAir) (xs : List OnAir) (x : OnAir) → Contains xs x → Contains (map g xs) (g x)
contains_mapped g [] x has = absurd (Contains-nothing x has)
contains_mapped g (y ∷ xs) x has = elim (Contains-cases y xs x has) [
  | inl same ↦ subst (λ z. Contains (g y ∷ map g xs) (g z)) same (Contains-head (g y) (map g xs))
  | inr later ↦ Contains-later (g y) (map g xs) (g x) (contains_mapped g xs x later)
]

-- a fact that leaves the list, and the operations of the radio's interfaces
left_step : (f : Fact) (J : Journal) (r : ℕ) → IsInOrder J r → on_air_of (f ∷ J) r ≡ on_air_of J r
    → ((i : ℕ) → is_on J i r ≡ true → f ≡ stopped i → ⊥)
    → ((e : OnAir) → Contains (on_air_of J r) e → (is_on (f ∷ J) e.iface r ≡ true) × (operation_of (f ∷ J) e.iface ≡ operation_of J e.iface))
    → ((i : ℕ) (o : Operation) → is_on (f ∷ J) i r ≡ true → operation_of (f ∷ J) i ≡ Some o → (is_on J i r ≡ true) × (operation_of J i ≡ Some o))
    → IsInOrder (f ∷ J) r
left_step f J r was same other forth back = record {
  operates = λ e has.
      let old = subst (λ xs. Contains xs e) same has in
      let on = forth e old in
      (on.0, on.1 ∙ (was.operates e old).1);
  all = λ i o on is. let old = back i o on is in subst (λ xs. Contains xs (entry i o.chan o.power)) (sym same) (was.all i o old.0 old.1);
  once = subst (EachBefore Differ) (sym same) was.once;
  order = subst (EachBefore (StartedBefore (f ∷ J))) (sym same)
      (pairs_weaker (StartedBefore J) (StartedBefore (f ∷ J)) (on_air_of J r)
      (λ a b has_a has_b before. before_later f J a.iface b.iface (other a.iface (was.operates a has_a).0) (other b.iface (was.operates b has_b).0) before) was.order);
  since = λ e has.
      let old = subst (λ xs. Contains xs e) same has in
      let found = was.since e old in
      let less = found.2 in
      (found.0, since_later f J e.iface found.0 (other e.iface (was.operates e old).0) found.1, omega (arith, less));
}

-- an interface of the radio starts
start_step : (J : Journal) (r j : ℕ) (c : ChanDef) (power : ℕ) → IsInOrder J r → is_on J j r ≡ true → on_air_of (started j c power ∷ J) r ≡ put_on_air (entry j c power) (on_air_of J r)
    → IsInOrder (started j c power ∷ J) r
start_step J r j c power was on same = record {
  operates = λ e has. elim (put_cases new air e was.once (subst (λ xs. Contains xs e) same has)) [
    | inl is ↦ subst (λ (z : OnAir). (is_on J z.iface r ≡ true) × (operation_of (started j c power ∷ J) z.iface ≡ Some (record { chan = z.chan; power = z.power_mbm }))) is (on, rw (eq-eqb j j refl))
    | inr old ↦ let found = was.operates e old.0 in (found.0, rw (ne_eqb e.iface j old.1) found.1)
  ];
  all = λ i o on_i is. subst (λ xs. Contains xs (entry i o.chan o.power)) (sym same) (elim (cases_eq i j) [
    | inl own ↦
        let value : (record { chan = c; power = power }) ≡ o = same_Some _ o (rw (eq-eqb i j own) at is) in
        subst (λ (z : Operation). Contains (put_on_air new air) (entry i z.chan z.power)) value (subst (λ n. Contains (put_on_air new air) (entry n c power)) (sym own) (put_has new air))
    | inr other ↦ put_keeps new air (entry i o.chan o.power) (was.all i o on_i (rw (ne_eqb i j other) at is)) other
  ]);
  once = subst (EachBefore Differ) (sym same) (put_pairs Differ new air was.once was.once (λ none x has. none x has));
  order = subst (EachBefore (StartedBefore next)) (sym same) (put_pairs (StartedBefore next) new air was.once
      (pairs_weaker (StartedBefore J) (StartedBefore next) air (λ a b has_a has_b before. before_later (started j c power) J a.iface b.iface (λ at. cc) (λ at. cc) before) was.order)
      (λ none x has.
      let found = was.since x has in
      record {
        first = found.0;
        second = J;
        first_since = since_later (started j c power) J x.iface found.0 (λ at. cc) found.1;
        second_since = since_start J j c power (resting none);
        earlier = found.2;
      }));
  since = λ e has. elim (put_cases new air e was.once (subst (λ xs. Contains xs e) same has)) [
    | inl is ↦ subst (λ (z : OnAir). (older : Journal) × OperatesSince next z.iface older × (length older < length next)) is own_since
    | inr old ↦ later_since e old.0
  ];
}
  where
    air : List OnAir
    air = on_air_of J r

    new : OnAir
    new = entry j c power

    next : Journal
    next = started j c power ∷ J

    resting : ((x : OnAir) → Contains (on_air_of J r) x → x.iface ≡ j → ⊥) → operation_of J j ≡ None
    resting none = by (operation_of J j) refl
      where
        by : (o : Option Operation) → operation_of J j ≡ o → operation_of J j ≡ None
        by None at = at
        by (Some o) at = absurd (none (entry j o.chan o.power) (was.all j o on at) refl)

    later_since : (e : OnAir) → Contains (on_air_of J r) e → (older : Journal) × OperatesSince (started j c power ∷ J) e.iface older × (length older < length (started j c power ∷ J))
    later_since e has =
        let found = was.since e has in
        let less = found.2 in
        (found.0, since_later (started j c power) J e.iface found.0 (λ at. cc) found.1, omega (arith, less))

    own_since : (older : Journal) × OperatesSince (started j c power ∷ J) j older × (length older < length (started j c power ∷ J))
    own_since = elim (told_any (λ (z : OnAir). z.iface ≡ j) (λ (z : OnAir). cases_eq z.iface j) (on_air_of J r)) [
      | inl (z, has, at) ↦ subst (λ i. (older : Journal) × OperatesSince (started j c power ∷ J) i older × (length older < length (started j c power ∷ J))) at (later_since z has)
      | inr none ↦ (J, since_start J j c power (resting none), omega arith)
    ]

-- one stops
stop_step : (J : Journal) (r j : ℕ) → IsInOrder J r → on_air_of (stopped j ∷ J) r ≡ taken_off j (on_air_of J r) → IsInOrder (stopped j ∷ J) r
stop_step J r j was same = record {
  operates = λ e has.
      let kept = Contains-filter (λ x. not (x.iface == j)) (on_air_of J r) e (subst (λ xs. Contains xs e) same has) in
      let found = was.operates e kept.1 in
      (found.0, rw (ne_eqb e.iface j (differs e kept.0)) found.1);
  all = λ i o on is. subst (λ xs. Contains xs (entry i o.chan o.power)) (sym same) (elim (cases_eq i j) [
    | inl own ↦ absurd (none-some o (rw (eq-eqb i j own) at is))
    | inr other ↦ Contains-kept (λ x. not (x.iface == j)) (on_air_of J r) (entry i o.chan o.power) (was.all i o on (rw (ne_eqb i j other) at is)) (rw (ne_eqb i j other))
  ]);
  once = subst (EachBefore Differ) (sym same) (AllPairs-filter (λ (a b : OnAir). Differ a.iface b.iface) (λ x. not (x.iface == j)) (on_air_of J r) was.once);
  order = subst (EachBefore (StartedBefore (stopped j ∷ J))) (sym same)
      (pairs_weaker (StartedBefore J) (StartedBefore (stopped j ∷ J)) (taken_off j (on_air_of J r))
      (λ a b has_a has_b before. before_later (stopped j) J a.iface b.iface (unlike a has_a) (unlike b has_b) before)
      (AllPairs-filter (λ (a b : OnAir). StartedBefore J a.iface b.iface) (λ x. not (x.iface == j)) (on_air_of J r) was.order));
  since = λ e has.
      let there = subst (λ xs. Contains xs e) same has in
      let found = was.since e (Contains-filter (λ x. not (x.iface == j)) (on_air_of J r) e there).1 in
      let less = found.2 in
      (found.0, since_later (stopped j) J e.iface found.0 (unlike e there) found.1, omega (arith, less));
}
  where
    differs : (e : OnAir) → not (e.iface == j) ≡ true → e.iface ≡ j → ⊥
    differs e passes at = absurd (false≢true (rw (eq-eqb e.iface j at) at passes))

    unlike : (e : OnAir) → Contains (taken_off j (on_air_of J r)) e → stopped j ≡ stopped e.iface → ⊥
    unlike e has at = differs e (Contains-filter (λ x. not (x.iface == j)) (on_air_of J r) e has).0 (index e.iface at)
      where
        index : (i : ℕ) → stopped j ≡ stopped i → i ≡ j
        index i at = cc

-- one goes on with another power
power_step : (J : Journal) (r j power : ℕ) → IsInOrder J r → on_air_of (powered j power ∷ J) r ≡ given_power j power (on_air_of J r) → IsInOrder (powered j power ∷ J) r
power_step J r j power was same = record {
  operates = λ e has.
      let from = Contains-map (entry_with_power j power) (on_air_of J r) e (subst (λ xs. Contains xs e) same has) in
      subst (λ (z : OnAir). (is_on J z.iface r ≡ true) × (operation_of (powered j power ∷ J) z.iface ≡ Some (record { chan = z.chan; power = z.power_mbm }))) from.2
      (moved from.0 (was.operates from.0 from.1));
  all = λ i o on is. subst (λ xs. Contains xs (entry i o.chan o.power)) (sym same) (elim (cases_eq i j) [
    | inl own ↦ by i own o on (operation_of J i) refl (rw (eq-eqb i j own) at is)
    | inr other ↦ subst (Contains (given_power j power (on_air_of J r))) (left i o other)
        (contains_mapped (entry_with_power j power) (on_air_of J r) (entry i o.chan o.power) (was.all i o on (rw (ne_eqb i j other) at is)))
  ]);
  once = subst (EachBefore Differ) (sym same) (power_pairs Differ j power (on_air_of J r) was.once);
  order = subst (EachBefore (StartedBefore (powered j power ∷ J))) (sym same) (power_pairs (StartedBefore (powered j power ∷ J)) j power (on_air_of J r)
      (pairs_weaker (StartedBefore J) (StartedBefore (powered j power ∷ J)) (on_air_of J r) (λ a b has_a has_b before. before_later (powered j power) J a.iface b.iface (λ at. cc) (λ at. cc) before) was.order));
  since = λ e has.
      let from = Contains-map (entry_with_power j power) (on_air_of J r) e (subst (λ xs. Contains xs e) same has) in
      let found = was.since from.0 from.1 in
      let less = found.2 in
      subst (λ i. (older : Journal) × OperatesSince (powered j power ∷ J) i older × (length older < length (powered j power ∷ J)))
      (sym (power_iface j power from.0) ∙ ap (λ (z : OnAir). z.iface) from.2)
      (found.0, since_later (powered j power) J (from.0).iface found.0 (λ at. cc) found.1, omega (arith, less));
}
  where
    moved : (z : OnAir) → (is_on J z.iface r ≡ true) × (operation_of J z.iface ≡ Some (record { chan = z.chan; power = z.power_mbm }))
        → (is_on J (entry_with_power j power z).iface r ≡ true)
        × (operation_of (powered j power ∷ J) (entry_with_power j power z).iface ≡ Some (record { chan = (entry_with_power j power z).chan; power = (entry_with_power j power z).power_mbm }))
    moved z (on, is) = elim (cases_eq z.iface j) [
      | inl own ↦ rw (eq-eqb z.iface j own) (on, rw (eq-eqb z.iface j own) (ap (λ o. option_map (operation_with_power power) o) is))
      | inr other ↦ rw (ne_eqb z.iface j other) (on, rw (ne_eqb z.iface j other) is)
    ]

    left : (i : ℕ) (o : Operation) → (i ≡ j → ⊥) → entry_with_power j power (entry i o.chan o.power) ≡ entry i o.chan o.power
    left i o other = rw (ne_eqb i j other)

    here : (i : ℕ) (o : Operation) → i ≡ j → entry_with_power j power (entry i o.chan o.power) ≡ entry i o.chan power
    here i o own = rw (eq-eqb i j own)

    by : (i : ℕ) → i ≡ j → (o : Operation) → is_on J i r ≡ true → (old : Option Operation) → operation_of J i ≡ old → option_map (operation_with_power power) old ≡ Some o
        → Contains (given_power j power (on_air_of J r)) (entry i o.chan o.power)
    by i own o on None at is = absurd (none-some o is)
    by i own o on (Some old) at is =
        subst (λ (z : Operation). Contains (given_power j power (on_air_of J r)) (entry i z.chan z.power)) (same_Some (operation_with_power power old) o is)
        (subst (Contains (given_power j power (on_air_of J r))) (here i old own) (contains_mapped (entry_with_power j power) (on_air_of J r) (entry i old.chan old.power) (was.all i old on at)))

stopped_index : (j i : ℕ) → stopped j ≡ stopped i → i ≡ j
stopped_index j i at = cc

on_true : (J : Journal) (r i j : ℕ) → is_on J j r ≡ false → is_on J i r ≡ true → i ≡ j → ⊥
on_true J r i j off on same = false≢true (sym off ∙ ap (λ n. is_on J n r) (sym same) ∙ on)

pub in_order : (db : List Domain) (J : Journal) (r : ℕ) → EachMayFollow db J → IsInOrder J r
in_order db [] r due = record {
  operates = λ e has. absurd (Contains-nothing e has);
  all = λ i o on is. absurd (none-some o is);
  once = λ i j d less within. absurd (omega (arith, within));
  order = λ i j d less within. absurd (omega (arith, within));
  since = λ e has. absurd (Contains-nothing e has);
}
in_order db (started j c power ∷ J) r due =
    let was = in_order db J r due.1 in
    elim (cases_Bool (is_on J j r)) [
      | inl on ↦ start_step J r j c power was on (rw on)
      | inr off ↦ left_step (started j c power) J r was (rw off) (λ i on at. cc)
          (λ e has. let old = was.operates e has in (old.0, rw (ne_eqb e.iface j (on_true J r e.iface j off old.0))))
          (λ i o on is. (on, rw (ne_eqb i j (on_true J r i j off on)) at is))
    ]
in_order db (stopped j ∷ J) r due =
    let was = in_order db J r due.1 in
    elim (cases_Bool (is_on J j r)) [
      | inl on ↦ stop_step J r j was (rw on)
      | inr off ↦ left_step (stopped j) J r was (rw off) (λ i on at. on_true J r i j off on (stopped_index j i at))
          (λ e has. let old = was.operates e has in (old.0, rw (ne_eqb e.iface j (on_true J r e.iface j off old.0))))
          (λ i o on is. (on, rw (ne_eqb i j (on_true J r i j off on)) at is))
    ]
in_order db (powered j power ∷ J) r due =
    let was = in_order db J r due.1 in
    elim (cases_Bool (is_on J j r)) [
      | inl on ↦ power_step J r j power was (rw on)
      | inr off ↦ left_step (powered j power) J r was (rw off) (λ i on at. cc)
          (λ e has. let old = was.operates e has in (old.0, rw (ne_eqb e.iface j (on_true J r e.iface j off old.0))))
          (λ i o on is. (on, rw (ne_eqb i j (on_true J r i j off on)) at is))
    ]
in_order db (made j name q kind ∷ J) r due =
    let was = in_order db J r due.1 in
    let new : (i : ℕ) (o : Operation) → operation_of J i ≡ Some o → i ≡ j → ⊥ =
    λ i o is same. none-some o (sym (no_operation_next db J j due.1 due.0.0) ∙ ap (operation_of J) (sym same) ∙ is) in
    left_step (made j name q kind) J r was refl (λ i on at. cc)
    (λ e has. let old = was.operates e has in (rw (ne_eqb e.iface j (new e.iface _ old.1)) old.0, refl))
    (λ i o on is. (rw (ne_eqb i j (new i o is)) at on, is))
in_order db (f ∷ J) r due =
    let was = in_order db J r due.1 in
    left_step f J r was refl (λ i on at. cc) (λ e has. ((was.operates e has).0, refl)) (λ i o on is. (on, is))

-- exactly the operations
pub entries_exactly : (db : List Domain) (J : Journal) (r : ℕ) → EachMayFollow db J → (e : OnAir) → Contains (on_air_of J r) e
    ↔ ((is_on J e.iface r ≡ true) × (operation_of J e.iface ≡ Some (record { chan = e.chan; power = e.power_mbm })))
entries_exactly db J r due e =
    let is = in_order db J r due in
    (is.operates e, λ (on, at). is.all e.iface (record { chan = e.chan; power = e.power_mbm }) on at)
