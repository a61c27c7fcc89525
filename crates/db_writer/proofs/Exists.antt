-- A database has a file.
use Rattle.std.proofs.Common.{◌≡◌, ◌↔◌, ℕ, ◌+◌, ◌*◌, ◌⊎◌, false, cond, List, [], ◌∷◌, length, map, flat_map, Contains, IsTrue, Ordering, Less, Equal, Greater, is_lt, inl, inr, refl, sym, ap, ◌∙◌, subst, arith}
use Rattle.std.specs.Cmp.Lexicographic.{slice_cmp, nat_list_cmp_total}
use Rattle.std.specs.Ordering.{nat_cmp, ordering_reverse}
use Rattle.std.proofs.lemmas.Bool.{true≢false, cases_Bool}
use Rattle.std.proofs.lemmas.List.Elements.{Contains-get_or}
use Rattle.std.proofs.lemmas.List.Kept.{AllPairs-cons}
use Rattle.freq_range.proofs.Members.{Contains-head, Contains-later, Contains-cases, Contains-nothing}
use Rattle.rule_tables.specs.declared.domain.Domain.{Domain}
use Rattle.db_writer.specs.Order.{IsFileSection, precedes}
use Rattle.db_writer.specs.inner.Keys.{rule_told_by_key, collection_told_by_key}
use Rattle.db_writer.specs.Records.{rule_key, collection_key}
use Rattle.db_writer.specs.LaidOut.{Sections, AreFileSections, wmm_place, place_of_rule, collection_record, first_wmm, LaidOut, EndsIn, file, last_collection}
use Rattle.db_writer.specs.inner.Gathered.{wmm_of_domain, records_of_domain}
use Rattle.db_writer.proofs.Sorted.{equal_lists}
use Rattle.db_writer.proofs.Found.{Ascends, is_less, ascends_rest}
use Rattle.db_writer.proofs.Unique.{first_precedes}
use Rattle.db_writer.proofs.Uses.{section_of_used, wmm_used, rules_used, collections_used}

tied : (o : Ordering) → is_lt o ≡ false → is_lt (ordering_reverse o) ≡ false → o ≡ Equal
tied Less one other = absurd (true≢false one)
tied Equal one other = refl
tied Greater one other = absurd (true≢false other)

-- lists of which neither precedes the other are the same
neither : (xs ys : List ℕ) → precedes xs ys ≡ false → precedes ys xs ≡ false → xs ≡ ys
neither xs ys one other =
    equal_lists xs ys (tied (slice_cmp nat_cmp xs ys) one (ap is_lt (sym (nat_list_cmp_total.antisymm ys xs)) ∙ other))

through : (xs ys zs : List ℕ) → IsTrue (precedes xs ys) → IsTrue (precedes ys zs) → IsTrue (precedes xs zs)
through xs ys zs one other = ap is_lt (nat_list_cmp_total.trans xs ys zs (is_less _ one) (is_less _ other))

-- a record put in its place, if it isn't there
put : {X : Type 0} → (key : X → List ℕ) → X → List X → List X
put key x [] = x ∷ []
put key x (y ∷ ys) = cond (precedes (key x) (key y)) (x ∷ y ∷ ys) (cond (precedes (key y) (key x)) (y ∷ put key x ys) (y ∷ ys))

-- the three ways in which a record is put before, behind or upon the first one
put_cases : {X : Type 0} (key : X → List ℕ) (told : (x y : X) → key x ≡ key y → x ≡ y) (x y : X) (ys : List X) (P : List X → Type 0) →
    (IsTrue (precedes (key x) (key y)) → P (x ∷ y ∷ ys)) → (IsTrue (precedes (key y) (key x)) → P (y ∷ put key x ys)) → (y ≡ x → P (y ∷ ys)) → P (put key x (y ∷ ys))
unfolding put
put_cases key told x y ys P before behind upon = elim (cases_Bool (precedes (key x) (key y))) [
  | inl first ↦ rw first (before first)
  | inr later ↦ elim (cases_Bool (precedes (key y) (key x))) [
    | inl first ↦ rw (later, first) (behind first)
    | inr same ↦ rw (later, same) (upon (told y x (neither (key y) (key x) same later)))
  ]
]

put_has_new : {X : Type 0} (key : X → List ℕ) (told : (x y : X) → key x ≡ key y → x ≡ y) (x : X) (ys : List X) → Contains (put key x ys) x
unfolding put
put_has_new key told x [] = Contains-head x []
put_has_new key told x (y ∷ ys) = put_cases key told x y ys (λ zs. Contains zs x)
    (λ before. Contains-head x (y ∷ ys))
    (λ behind. Contains-later y (put key x ys) x (put_has_new key told x ys))
    (λ same. subst (Contains (y ∷ ys)) same (Contains-head y ys))

put_has_old : {X : Type 0} (key : X → List ℕ) (told : (x y : X) → key x ≡ key y → x ≡ y) (x : X) (ys : List X) (z : X) → Contains ys z → Contains (put key x ys) z
put_has_old key told x [] z h = absurd (Contains-nothing z h)
put_has_old key told x (y ∷ ys) z h = put_cases key told x y ys (λ zs. Contains zs z)
    (λ before. Contains-later x (y ∷ ys) z h)
    (λ behind. elim (Contains-cases y ys z h) [
      | inl is ↦ subst (Contains (y ∷ put key x ys)) is (Contains-head y (put key x ys))
      | inr later ↦ Contains-later y (put key x ys) z (put_has_old key told x ys z later)
    ])
    (λ same. h)

put_only : {X : Type 0} (key : X → List ℕ) (told : (x y : X) → key x ≡ key y → x ≡ y) (x : X) (ys : List X) (z : X) → Contains (put key x ys) z → (x ≡ z) ⊎ Contains ys z
unfolding put
put_only key told x [] z = λ h. Contains-cases x [] z h
put_only key told x (y ∷ ys) z = put_cases key told x y ys (λ zs. Contains zs z → (x ≡ z) ⊎ Contains (y ∷ ys) z)
    (λ before h. Contains-cases x (y ∷ ys) z h)
    (λ behind h. elim (Contains-cases y (put key x ys) z h) [
      | inl is ↦ inr (subst (Contains (y ∷ ys)) is (Contains-head y ys))
      | inr later ↦ elim (put_only key told x ys z later) [ inl is ↦ inl is | inr old ↦ inr (Contains-later y ys z old) ]
    ])
    (λ same h. inr h)

-- what precedes each record of an ascending list can stand before it
ascends_cons : {X : Type 0} (key : X → List ℕ) (x : X) (xs : List X) → ((z : X) → Contains xs z → IsTrue (precedes (key x) (key z))) → Ascends key xs → Ascends key (x ∷ xs)
ascends_cons key x xs all up = AllPairs-cons (λ y z. IsTrue (precedes (key y) (key z))) x xs (λ k d within. all _ (Contains-get_or xs k d within)) up

put_ascends : {X : Type 0} (key : X → List ℕ) (told : (x y : X) → key x ≡ key y → x ≡ y) (x : X) (ys : List X) → Ascends key ys → Ascends key (put key x ys)
unfolding put
put_ascends key told x [] up = λ i j d lt within. absurd (omega arith)
put_ascends key told x (y ∷ ys) up = put_cases key told x y ys (Ascends key)
    (λ before. ascends_cons key x (y ∷ ys)
    (λ z h. elim (Contains-cases y ys z h) [
      | inl is ↦ subst (λ w. IsTrue (precedes (key x) (key w))) is before
      | inr later ↦ through (key x) (key y) (key z) before (first_precedes key y ys z up later)
    ]) up)
    (λ behind. ascends_cons key y (put key x ys)
    (λ z h. elim (put_only key told x ys z h) [
      | inl is ↦ subst (λ w. IsTrue (precedes (key y) (key w))) is behind
      | inr old ↦ first_precedes key y ys z up old
    ]) (put_ascends key told x ys (ascends_rest key y ys up)))
    (λ same. up)

-- records in order, each once
in_order : {X : Type 0} → (key : X → List ℕ) → List X → List X
in_order key [] = []
in_order key (x ∷ xs) = put key x (in_order key xs)

in_order_ascends : {X : Type 0} (key : X → List ℕ) (told : (x y : X) → key x ≡ key y → x ≡ y) (xs : List X) → Ascends key (in_order key xs)
unfolding in_order
in_order_ascends key told [] = λ i j d lt within. absurd (omega arith)
in_order_ascends key told (x ∷ xs) = put_ascends key told x (in_order key xs) (in_order_ascends key told xs)

in_order_only : {X : Type 0} (key : X → List ℕ) (told : (x y : X) → key x ≡ key y → x ≡ y) (xs : List X) (z : X) → Contains (in_order key xs) z → Contains xs z
unfolding in_order
in_order_only key told [] z h = h
in_order_only key told (x ∷ xs) z h = elim (put_only key told x (in_order key xs) z h) [
  | inl is ↦ subst (Contains (x ∷ xs)) is (Contains-head x xs)
  | inr old ↦ Contains-later x xs z (in_order_only key told xs z old)
]

in_order_all : {X : Type 0} (key : X → List ℕ) (told : (x y : X) → key x ≡ key y → x ≡ y) (xs : List X) (z : X) → Contains xs z → Contains (in_order key xs) z
unfolding in_order
in_order_all key told [] z h = h
in_order_all key told (x ∷ xs) z h = elim (Contains-cases x xs z h) [
  | inl is ↦ subst (Contains (put key x (in_order key xs))) is (put_has_new key told x (in_order key xs))
  | inr later ↦ put_has_old key told x (in_order key xs) z (in_order_all key told xs z later)
]

section_exists : {X : Type 0} (key : X → List ℕ) (told : (x y : X) → key x ≡ key y → x ≡ y) (gathered : List X) (InUse : X → Type 0) → ((x : X) → Contains gathered x ↔ InUse x) →
    IsFileSection key InUse (in_order key gathered)
section_exists key told gathered InUse same =
    section_of_used key gathered (in_order key gathered) InUse same
    (record { ascending = in_order_ascends key told gathered; exactly = λ x. (in_order_only key told gathered x, in_order_all key told gathered x) })

pub sections_exist : (ds : List Domain) → (s : Sections) × AreFileSections ds s
sections_exist ds =
    let ws = in_order (λ bytes. bytes) (flat_map wmm_of_domain ds) in
    let wmm_at = wmm_place (first_wmm ds) ws in
    let rs = in_order rule_key (flat_map (records_of_domain wmm_at) ds) in
    let rule_at = place_of_rule wmm_at (first_wmm ds + 8 * length ws) rs in
    let cs = in_order collection_key (map (collection_record rule_at) ds) in (
      record { wmm_rules = ws; rules = rs; collections = cs },
      record {
        wmm_rules = section_exists (λ bytes. bytes) (λ x y e. e) (flat_map wmm_of_domain ds) _ (wmm_used ds);
        rules = section_exists rule_key rule_told_by_key (flat_map (records_of_domain wmm_at) ds) _ (rules_used wmm_at ds);
        collections = section_exists collection_key collection_told_by_key (map (collection_record rule_at) ds) _ (collections_used rule_at ds);
      },
    )

pub LaidOut-exists : (ds : List Domain) → (bytes : List ℕ) × LaidOut ds bytes
LaidOut-exists ds = let (s, are) = sections_exist ds in (file ds s, (s, are, refl))

pub EndsIn-exists : (ds : List Domain) → (words : ℕ) × EndsIn ds words
EndsIn-exists ds = let (s, are) = sections_exist ds in (last_collection ds s, (s, are, refl))
