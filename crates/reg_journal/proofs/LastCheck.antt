-- The last check of an interface, and the running one, over a journal.
use Rattle.std.proofs.Common.{◌≡◌, ℕ, ◌+◌, ◌<◌, List, [], ◌∷◌, ◌++◌, Option, Some, None, IsSome, option_and_then, option_map, arith, refl, sym, ap, subst, ◌∙◌, ◌⊎◌, inl, inr, eq-eqb, ne_eqb, ltb-true, lt-ltb, nat_lt}
use Rattle.std.proofs.lemmas.Bool.{cases_eq, cases_Bool, false≢true}
use Rattle.std.proofs.lemmas.Option.{none-some, same_Some}
use Rattle.rule_tables.specs.declared.domain.Domain.{Domain}
use Rattle.chan_def.specs.declared.definition.ChanDef.{ChanDef}
use Rattle.reg_journal.specs.Facts.{Fact, Journal, moment_is, ended, check_begun, check_dropped}
use Rattle.reg_journal.specs.Present.{Check, Iface, now_of, last_check_of, unless_over, check_of, ifaces_of, indexed}
use Rattle.reg_journal.specs.Due.{EachMayFollow}
use Rattle.reg_journal.specs.Radar.{HasCheck}
use Rattle.reg_journal.proofs.Homes.{home_of, home_found, home_stays}
use Rattle.reg_journal.proofs.Later.{now_later}
use Rattle.reg_journal.proofs.Splits.{check_newest, check_older, check_cases, none_began, HasDrop, drop_newest, drop_older, drop_cases, none_dropped}

-- ---- running and over

-- a check that is not over is the last one
unless_parts : (last : Option Check) (moment : ℕ) (k : Check) → option_and_then (unless_over moment) last ≡ Some k
    → (last ≡ Some k) × (moment < k.begin + k.length)
unless_parts None moment k is = absurd (none-some k is)
unless_parts (Some check) moment k is = elim (cases_Bool (nat_lt moment (check.begin + check.length))) [
  | inl before ↦
      let same : check ≡ k = same_Some check k (rw before at is) in
      (ap (λ c. Some c) same, subst (λ (c : Check). moment < c.begin + c.length) same (ltb-true moment (check.begin + check.length) before))
  | inr over ↦ absurd (none-some k (rw over at is))
]

-- the running check is the last one, and isn't over
pub check_parts : (J : Journal) (i : ℕ) (k : Check) → check_of J i ≡ Some k → (last_check_of J i ≡ Some k) × (now_of J < k.begin + k.length)
check_parts J i k is = unless_parts (last_check_of J i) (now_of J) k is

-- the last one runs until it is over
pub check_runs : (J : Journal) (i : ℕ) (k : Check) → last_check_of J i ≡ Some k → now_of J < k.begin + k.length → check_of J i ≡ Some k
check_runs J i k last before = rw (last, lt-ltb (now_of J) (k.begin + k.length) before)

-- ---- the last check

-- where its last check began
pub record LastCheck (J : Journal) (i : ℕ) (k : Check) : Type 0 where
  pub newer : Journal
  pub older : Journal
  pub begun : J ≡ newer ++ check_begun i k.chan k.length ∷ older
  pub begins : k.begin ≡ now_of older
  pub last : HasCheck newer i → ⊥
  pub kept : HasDrop newer i → ⊥

-- it stays the last one after a fact that neither begins nor drops one on the interface
last_more : (f : Fact) (J : Journal) (i : ℕ) (k : Check) → ((chan : ChanDef) (length : ℕ) → f ≡ check_begun i chan length → ⊥)
    → (f ≡ check_dropped i → ⊥) → LastCheck J i k → LastCheck (f ∷ J) i k
last_more f J i k other undropped was = record {
  newer = f ∷ was.newer;
  older = was.older;
  begun = ap (λ xs. f ∷ xs) was.begun;
  begins = was.begins;
  last = λ has. elim (check_cases f was.newer i has) [
    | inl newest ↦ other newest.0 newest.1 newest.2
    | inr older ↦ was.last older
  ];
  kept = λ has. elim (drop_cases f was.newer i has) [
    | inl newest ↦ undropped newest
    | inr older ↦ was.kept older
  ];
}

-- each last check began somewhere
pub last_check : (J : Journal) (i : ℕ) (k : Check) → last_check_of J i ≡ Some k → LastCheck J i k
last_check [] i k is = absurd (none-some k is)
last_check (check_begun j chan length ∷ J) i k is = elim (cases_eq i j) [
  | inl same ↦
      let check : Check = record { chan = chan; begin = now_of J; length = length } in
      let this : check ≡ k = same_Some check k (rw (eq-eqb i j same) at is) in
      subst (λ c. LastCheck (check_begun j chan length ∷ J) i c) this (record {
        newer = [];
        older = J;
        begun = ap (λ n. check_begun n chan length ∷ J) (sym same);
        begins = refl;
        last = none_began i;
        kept = none_dropped i;
      })
  | inr other ↦
      last_more (check_begun j chan length) J i k (λ c l at. let index : j ≡ i = cc in other (sym index)) (λ at. cc)
      (last_check J i k (rw (ne_eqb i j other) at is))
]
last_check (check_dropped j ∷ J) i k is = elim (cases_eq i j) [
  | inl same ↦ absurd (none-some k (rw (eq-eqb i j same) at is))
  | inr other ↦
      last_more (check_dropped j) J i k (λ c l at. cc) (λ at. let index : j ≡ i = cc in other (sym index))
      (last_check J i k (rw (ne_eqb i j other) at is))
]
last_check (f ∷ J) i k is = last_more f J i k (λ c l at. cc) (λ at. cc) (last_check J i k is)

-- it stays the last one while none begins on the interface and none is dropped there
pub last_same : (newer base : Journal) (i : ℕ) → (HasCheck newer i → ⊥) → (HasDrop newer i → ⊥) → last_check_of (newer ++ base) i ≡ last_check_of base i
last_same [] base i last kept = refl
last_same (check_begun j chan length ∷ newer) base i last kept =
    rw (ne_eqb i j (λ same. last (subst (λ n. HasCheck (check_begun n chan length ∷ newer) i) same (check_newest newer i chan length))))
    (last_same newer base i (λ has. last (check_older (check_begun j chan length) newer i has)) (λ has. kept (drop_older (check_begun j chan length) newer i has)))
last_same (check_dropped j ∷ newer) base i last kept =
    rw (ne_eqb i j (λ same. kept (subst (λ n. HasDrop (check_dropped n ∷ newer) i) same (drop_newest newer i))))
    (last_same newer base i (λ has. last (check_older (check_dropped j) newer i has)) (λ has. kept (drop_older (check_dropped j) newer i has)))
last_same (f ∷ newer) base i last kept = last_same newer base i (λ has. last (check_older f newer i has)) (λ has. kept (drop_older f newer i has))

-- the last check began among the newer facts, or it was the last one before
last_before : (newer base : Journal) (i : ℕ) (k : Check) → last_check_of (newer ++ base) i ≡ Some k → HasCheck newer i ⊎ (last_check_of base i ≡ Some k)
last_before [] base i k is = inr is
last_before (check_begun j chan length ∷ newer) base i k is = elim (cases_eq i j) [
  | inl same ↦ inl (subst (λ n. HasCheck (check_begun n chan length ∷ newer) i) same (check_newest newer i chan length))
  | inr other ↦ elim (last_before newer base i k (rw (ne_eqb i j other) at is)) [
    | inl has ↦ inl (check_older (check_begun j chan length) newer i has)
    | inr was ↦ inr was
  ]
]
last_before (check_dropped j ∷ newer) base i k is = elim (cases_eq i j) [
  | inl same ↦ absurd (none-some k (rw (eq-eqb i j same) at is))
  | inr other ↦ elim (last_before newer base i k (rw (ne_eqb i j other) at is)) [
    | inl has ↦ inl (check_older (check_dropped j) newer i has)
    | inr was ↦ inr was
  ]
]
last_before (f ∷ newer) base i k is = elim (last_before newer base i k is) [
  | inl has ↦ inl (check_older f newer i has)
  | inr was ↦ inr was
]

-- ---- the running check

-- the running check began among the newer facts, or it ran before
pub check_before : (db : List Domain) (newer base : Journal) (i : ℕ) (k : Check) → EachMayFollow db (newer ++ base) → check_of (newer ++ base) i ≡ Some k
    → HasCheck newer i ⊎ (check_of base i ≡ Some k)
check_before db newer base i k due is =
    let parts = check_parts (newer ++ base) i k is in
    let undone = parts.1 in
    let later = now_later db newer base due in
    elim (last_before newer base i k parts.0) [
      | inl has ↦ inl has
      | inr was ↦ inr (check_runs base i k was (omega arith))
    ]

-- what was looked up and found is there
pub home_indexed : (J : Journal) (i : ℕ) → IsSome (indexed J i) → (r : ℕ) × (home_of J i ≡ Some r)
home_indexed J i is = found (indexed J i) refl
  where
    found : (o : Option Iface) → indexed J i ≡ o → (r : ℕ) × (home_of J i ≡ Some r)
    found None none = absurd (false≢true (rw none at is))
    found (Some x) some = (x.radio, home_found (ifaces_of J) i ∙ ap (λ o. option_map (λ (x : Iface). x.radio) o) some)

-- an interface with a running check is there
pub check_home : (db : List Domain) (J : Journal) (i : ℕ) (k : Check) → EachMayFollow db J → check_of J i ≡ Some k → (r : ℕ) × (home_of J i ≡ Some r)
check_home db [] i k due is = absurd (none-some k is)
check_home db (check_begun j chan length ∷ J) i k due is = elim (cases_eq i j) [
  | inl same ↦ home_indexed J i (subst (λ n. IsSome (indexed J n)) (sym same) due.0.0.0)
  | inr other ↦ check_home db J i k due.1 (rw (ne_eqb i j other) at is)
]
check_home db (check_dropped j ∷ J) i k due is = elim (cases_eq i j) [
  | inl same ↦ absurd (none-some k (rw (eq-eqb i j same) at is))
  | inr other ↦ check_home db J i k due.1 (rw (ne_eqb i j other) at is)
]
check_home db (ended j ∷ J) i k due is =
    let was = check_home db J i k due.1 is in
    let resting : check_of J j ≡ None = due.0.2 in
    (was.0, home_stays (ended j) J i was.0 (λ same. let index : j ≡ i = cc in none-some k (sym (subst (λ n. check_of J n ≡ None) index resting) ∙ is)) was.1)
check_home db (moment_is moment ∷ J) i k due is = elim (check_before db (moment_is moment ∷ []) J i k due is) [
  | inl has ↦ elim (check_cases (moment_is moment) [] i has) [
    | inl newest ↦ let begins = newest.2 in absurd cc
    | inr older ↦ absurd (none_began i older)
  ]
  | inr was ↦ check_home db J i k due.1 was
]
check_home db (f ∷ J) i k due is =
    let was = check_home db J i k due.1 is in
    (was.0, home_stays f J i was.0 (λ same. cc) was.1)
