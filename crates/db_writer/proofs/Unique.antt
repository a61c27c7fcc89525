-- A database has at most one file.
use Rattle.std.proofs.Common.{◌≡◌, ℕ, zero, suc, ◌+◌, ◌*◌, List, [], ◌∷◌, length, Contains, IsTrue, inl, inr, refl, sym, ap, ◌∙◌, subst, arith}
use Rattle.std.proofs.lemmas.Bool.{true≢false}
use Rattle.freq_range.proofs.Members.{Contains-head, Contains-later, Contains-cases, Contains-nothing}
use Rattle.rule_tables.specs.declared.domain.Domain.{Domain}
use Rattle.db_writer.specs.Order.{IsFileSection, precedes}
use Rattle.db_writer.specs.Records.{rule_key, collection_key}
use Rattle.db_writer.specs.LaidOut.{Sections, AreFileSections, UsesWmm, UsesRule, UsesCollection, wmm_place, place_of_rule, first_wmm, LaidOut, EndsIn, file, last_collection}
use Rattle.db_writer.proofs.Found.{Ascends, ascends_rest, not_back, not_itself}

-- the first of an ascending list precedes each of the others
pub first_precedes : {X : Type 0} (key : X → List ℕ) (x : X) (xs : List X) (z : X) → Ascends key (x ∷ xs) → Contains xs z → IsTrue (precedes (key x) (key z))
first_precedes key x xs z up (k, within, is) = subst (λ y. IsTrue (precedes (key x) (key y))) is (up zero (suc k) z (omega arith) (omega arith))

-- two can't precede each other
not_both : (xs ys : List ℕ) → IsTrue (precedes xs ys) → IsTrue (precedes ys xs) → ⊥
not_both xs ys one other = true≢false (sym other ∙ not_back xs ys one)

-- the first of one list is the first of another that has the same records
same_first : {X : Type 0} (key : X → List ℕ) (x : X) (xs : List X) (y : X) (ys : List X) → Ascends key (x ∷ xs) → Ascends key (y ∷ ys) →
    Contains (y ∷ ys) x → Contains (x ∷ xs) y → x ≡ y
same_first key x xs y ys up up' there back = elim (Contains-cases y ys x there) [
  | inl is ↦ sym is
  | inr later ↦ elim (Contains-cases x xs y back) [
    | inl is ↦ is
    | inr later' ↦ absurd (not_both (key y) (key x) (first_precedes key y ys x up' later) (first_precedes key x xs y up later'))
  ]
]

-- what is behind the first of one list is behind that of the other
behind_first : {X : Type 0} (key : X → List ℕ) (x : X) (xs : List X) (y : X) (ys : List X) → Ascends key (x ∷ xs) → x ≡ y →
    ((z : X) → Contains (x ∷ xs) z → Contains (y ∷ ys) z) → (z : X) → Contains xs z → Contains ys z
behind_first key x xs y ys up same into z has = elim (Contains-cases y ys z (into z (Contains-later x xs z has))) [
  | inl is ↦ (let itself = subst (λ w. IsTrue (precedes (key w) (key z))) (same ∙ is) (first_precedes key x xs z up has) in absurd (true≢false (sym itself ∙ not_itself (key z))))
  | inr later ↦ later
]

-- ascending lists of the same records are the same
pub same_records : {X : Type 0} (key : X → List ℕ) (xs ys : List X) → Ascends key xs → Ascends key ys →
    ((z : X) → Contains xs z → Contains ys z) → ((z : X) → Contains ys z → Contains xs z) → xs ≡ ys
same_records key [] [] up up' into back = refl
same_records key [] (y ∷ ys) up up' into back = absurd (Contains-nothing y (back y (Contains-head y ys)))
same_records key (x ∷ xs) [] up up' into back = absurd (Contains-nothing x (into x (Contains-head x xs)))
same_records key (x ∷ xs) (y ∷ ys) up up' into back =
    let first = same_first key x xs y ys up up' (into x (Contains-head x xs)) (back y (Contains-head y ys)) in
    let rest = same_records key xs ys (ascends_rest key x xs up) (ascends_rest key y ys up') (behind_first key x xs y ys up first into) (behind_first key y ys x xs up' (sym first) back) in
    λ i. first i ∷ rest i

pub section_unique : {X : Type 0} (key : X → List ℕ) (InUse : X → Type 0) (xs ys : List X) → IsFileSection key InUse xs → IsFileSection key InUse ys → xs ≡ ys
section_unique key InUse xs ys one other =
    same_records key xs ys one.ascending other.ascending (λ z h. (other.exactly z).1 ((one.exactly z).0 h)) (λ z h. (one.exactly z).1 ((other.exactly z).0 h))

pub sections_unique : (ds : List Domain) (s t : Sections) → AreFileSections ds s → AreFileSections ds t → s ≡ t
sections_unique ds s t one other =
    let wmm : s.wmm_rules ≡ t.wmm_rules = section_unique (λ bytes. bytes) (UsesWmm ds) s.wmm_rules t.wmm_rules one.wmm_rules other.wmm_rules in
    let rule_section = subst (λ ws. IsFileSection rule_key (UsesRule (wmm_place (first_wmm ds) ws) ds) s.rules) wmm one.rules in
    let rules : s.rules ≡ t.rules = section_unique rule_key (UsesRule (wmm_place (first_wmm ds) t.wmm_rules) ds) s.rules t.rules rule_section other.rules in
    let by_wmm = subst (λ ws. IsFileSection collection_key (UsesCollection (place_of_rule (wmm_place (first_wmm ds) ws) (first_wmm ds + 8 * length ws) s.rules) ds) s.collections) wmm one.collections in
    let by_rules = subst (λ rs. IsFileSection collection_key (UsesCollection (place_of_rule (wmm_place (first_wmm ds) t.wmm_rules) (first_wmm ds + 8 * length t.wmm_rules) rs) ds) s.collections) rules by_wmm in
    let collections : s.collections ≡ t.collections = section_unique collection_key _ s.collections t.collections by_rules other.collections in
    λ i. record { wmm_rules = wmm i; rules = rules i; collections = collections i }

pub LaidOut-unique : (ds : List Domain) (b c : List ℕ) → LaidOut ds b → LaidOut ds c → b ≡ c
LaidOut-unique ds b c (s, one, is) (t, other, is') = is ∙ ap (file ds) (sections_unique ds s t one other) ∙ sym is'

pub EndsIn-unique : (ds : List Domain) (m n : ℕ) → EndsIn ds m → EndsIn ds n → m ≡ n
EndsIn-unique ds m n (s, one, is) (t, other, is') = is ∙ ap (last_collection ds) (sections_unique ds s t one other) ∙ sym is'
