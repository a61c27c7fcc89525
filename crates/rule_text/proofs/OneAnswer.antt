-- A text has at most one of a database and a fault.
use Rattle.std.proofs.Common.{◌≡◌, ℕ, ◌+◌, ◌<◌, ◌≤◌, ◌⊎◌, List, length, take, reverse, Contains, arith, refl, sym, ◌∙◌, ap, subst, inl, inr}
use Rattle.std.proofs.lemmas.Bool.{cases_order}
use Rattle.std.proofs.lemmas.List.{take_all}
use Rattle.std.proofs.lemmas.List.Elements.{All-contains}
use Rattle.std.proofs.lemmas.Option.{same_Some}
use Rattle.rule_tables.specs.declared.code.Alpha2.{Alpha2}
use Rattle.rule_tables.specs.declared.code.Region.{Region}
use Rattle.rule_tables.specs.declared.domain.Domain.{Domain}
use Rattle.rule_tables.specs.Code.{key}
use Rattle.rule_tables.specs.FileFormat.{DropsRepeats}
use Rattle.rule_tables.proofs.Ascending.{same_from_elements}
use Rattle.rule_tables.proofs.Dropped.{DropsRepeats-unique}
use Rattle.rule_text.specs.declared.fault.TextFault.{TextFault}
use Rattle.text_lines.specs.declared.fault.TextKind.{TextKind}
use Rattle.text_lines.specs.declared.fault.TextKind.TheVariants.{WmmShort, NoRules}
use Rattle.rule_text.specs.Faults.{AreAccepted, IsLineFault}
use Rattle.rule_text.specs.Forms.{Form, NamesCode, rules_of}
use Rattle.rule_text.specs.Forms.Form.{Country, WmmHeader}
use Rattle.text_lines.specs.Lines.{text_lines}
use Rattle.rule_text.specs.TextOf.{IsDomainOf, IsFirstFault, IsFirstShort, IsShortAt, IsTextFault, FormsStandFor, TextOf}
use Rattle.rule_text.proofs.Unique.{AreAccepted-unique, IsLineFault-unique, good_at, one_region}

-- ---- databases

-- domains of the same parts are one
same_domain : (d e : Domain) → d.alpha2 ≡ e.alpha2 → d.region ≡ e.region → d.rules ≡ e.rules → d ≡ e
same_domain d e p q r = λ i. record { alpha2 = p i; region = q i; rules = r i }

-- a domain of one database is a domain of the other
in_other : (lines : List (List ℕ)) (forms : List Form) → AreAccepted lines forms → (ds es : List Domain) → FormsStandFor forms ds → FormsStandFor forms es
    → (d : Domain) → Contains ds d → Contains es d
in_other lines forms accepted ds es p q d has =
    let is_d = All-contains (IsDomainOf forms) ds d p.each has in
    let other = q.all d.alpha2 d.region is_d.named in
    let e = other.0 in
    let is_e = All-contains (IsDomainOf forms) es e q.each other.1 in
    let code : e.alpha2 ≡ d.alpha2 = other.2 in
    let named = subst (λ c. NamesCode forms c e.region) code is_e.named in
    let region = one_region lines forms accepted d.alpha2 e.region d.region named is_d.named in
    let drops = subst (λ c. DropsRepeats (rules_of c forms) e.rules) code is_e.rules in
    let rules = DropsRepeats-unique (rules_of d.alpha2 forms) e.rules d.rules drops is_d.rules in
    subst (Contains es) (same_domain e d code region rules) other.1

StandsFor-unique : (lines : List (List ℕ)) (forms : List Form) → AreAccepted lines forms → (ds es : List Domain) → FormsStandFor forms ds
    → FormsStandFor forms es → ds ≡ es
StandsFor-unique lines forms accepted ds es p q =
    let up_d = p.db in
    let up_e = q.db in
    same_from_elements (λ (d : Domain). key d.alpha2) ds es up_d.ascending up_e.ascending (in_other lines forms accepted ds es p q) (in_other lines forms accepted es ds q p)

-- a text stands for one database
pub TextOf-unique : (text : List ℕ) (ds es : List Domain) → TextOf text ds → TextOf text es → ds ≡ es
TextOf-unique text ds es p q =
    let same : q.0 ≡ p.0 = AreAccepted-unique (reverse (text_lines text)) q.0 p.0 q.1 p.1 in
    StandsFor-unique (reverse (text_lines text)) p.0 p.1 ds es p.2 (subst (λ forms. FormsStandFor forms es) same q.2)

-- ---- faults

-- where a line is at fault, the lines up to one behind it aren't accepted
not_accepted : (text : List ℕ) (j k : ℕ) (kind : TextKind) (forms : List Form) → IsFirstFault text j kind → j < k → k ≤ length (text_lines text)
    → AreAccepted (reverse (take k (text_lines text))) forms → ⊥
not_accepted text j k kind forms fault less within accepted =
    let good = good_at (text_lines text) j k forms less within accepted in
    let same = AreAccepted-unique (reverse (take j (text_lines text))) fault.above good.above fault.accepted good.accepted in
    let here = subst (λ above. IsLineFault above _ kind) same fault.fault in
    good.good.good kind here.applies

not_all : (text : List ℕ) (k : ℕ) (kind : TextKind) (forms : List Form) → IsFirstFault text k kind → AreAccepted (reverse (text_lines text)) forms → ⊥
not_all text k kind forms fault accepted =
    let lines = text_lines text in
    not_accepted text k (length lines) kind forms fault fault.in_range (omega arith)
    (subst (λ ls. AreAccepted (reverse ls) forms) (sym (take_all (length lines) lines (omega arith))) accepted)

-- one line is the first at fault, by one kind
first_fault-unique : (text : List ℕ) (j k : ℕ) (a b : TextKind) → IsFirstFault text j a → IsFirstFault text k b → (j ≡ k) × (a ≡ b)
first_fault-unique text j k a b p q = elim (cases_order j k) [
  | inl same ↦
      let there = subst (λ n. IsFirstFault text n b) (sym same) q in
      let above = AreAccepted-unique (reverse (take j (text_lines text))) there.above p.above there.accepted p.accepted in
      (same, IsLineFault-unique p.above _ a b p.fault (subst (λ fs. IsLineFault fs _ b) above there.fault))
  | inr (inl lower) ↦ absurd (not_accepted text j k a q.above p lower (let r = q.in_range in omega (arith, r)) q.accepted)
  | inr (inr higher) ↦ absurd (not_accepted text k j b p.above q higher (let r = p.in_range in omega (arith, r)) p.accepted)
]

header_apart : (name : List ℕ) (cs : List Alpha2) (region : Region) → WmmHeader name ≡ Country cs region → ⊥
header_apart name cs region e = cc

-- a header is left short in one manner
short_kind : (forms : List Form) (k : ℕ) (a b : TextKind) → IsShortAt forms k a → IsShortAt forms k b → a ≡ b
short_kind forms k WmmShort WmmShort p q = refl
short_kind forms k NoRules NoRules p q = refl
short_kind forms k WmmShort NoRules p q = absurd (header_apart p.0 q.0 q.1 (same_Some (WmmHeader p.0) (Country q.0 q.1) (sym p.1 ∙ q.2)))
short_kind forms k NoRules WmmShort p q = absurd (header_apart q.0 p.0 p.1 (same_Some (WmmHeader q.0) (Country p.0 p.1) (sym q.1 ∙ p.2)))
short_kind forms k WmmShort b p q = absurd q
short_kind forms k NoRules b p q = absurd q
short_kind forms k a b p q = absurd p

first_short-unique : (text : List ℕ) (j k : ℕ) (a b : TextKind) → IsFirstShort text j a → IsFirstShort text k b → (j ≡ k) × (a ≡ b)
first_short-unique text j k a b p q =
    let forms = AreAccepted-unique (reverse (text_lines text)) q.forms p.forms q.accepted p.accepted in
    let there : IsShortAt p.forms k b = subst (λ fs. IsShortAt fs k b) forms q.short in
    let none : (i : ℕ) (other : TextKind) → i < k → IsShortAt p.forms i other → ⊥ =
    λ i other less short. q.first i other less (subst (λ fs. IsShortAt fs i other) (sym forms) short) in
    elim (cases_order j k) [
      | inl same ↦ (same, short_kind p.forms k a b (subst (λ n. IsShortAt p.forms n a) same p.short) there)
      | inr (inl lower) ↦ absurd (none j a lower p.short)
      | inr (inr higher) ↦ absurd (p.first k b higher there)
    ]

-- a text has one fault
pub IsTextFault-unique : (text : List ℕ) (f g : TextFault) → IsTextFault text f → IsTextFault text g → f ≡ g
IsTextFault-unique text f g (j, at_j, p) (k, at_k, q) = same_fault (by_sort p q)
  where
    by_sort : IsFirstFault text j f.kind ⊎ IsFirstShort text j f.kind → IsFirstFault text k g.kind ⊎ IsFirstShort text k g.kind → (j ≡ k) × (f.kind ≡ g.kind)
    by_sort (inl p) (inl q) = first_fault-unique text j k f.kind g.kind p q
    by_sort (inl p) (inr q) = absurd (not_all text j f.kind q.forms p q.accepted)
    by_sort (inr p) (inl q) = absurd (not_all text k g.kind p.forms q p.accepted)
    by_sort (inr p) (inr q) = first_short-unique text j k f.kind g.kind p q

    same_parts : f.line ≡ g.line → f.kind ≡ g.kind → f ≡ g
    same_parts p q = λ i. record { line = p i; kind = q i }

    same_fault : (j ≡ k) × (f.kind ≡ g.kind) → f ≡ g
    same_fault same = same_parts (at_j ∙ ap (λ n. n + 1) same.0 ∙ sym at_k) same.1

-- a text that stands for a database has no fault
pub TextOf-no_fault : (text : List ℕ) (ds : List Domain) (fault : TextFault) → TextOf text ds → IsTextFault text fault → ⊥
TextOf-no_fault text ds fault (forms, accepted, stands) (k, at, inl first) = not_all text k fault.kind forms first accepted
TextOf-no_fault text ds fault (forms, accepted, stands) (k, at, inr late) =
    let same = AreAccepted-unique (reverse (text_lines text)) late.forms forms late.accepted accepted in
    stands.none_short k fault.kind (subst (λ fs. IsShortAt fs k fault.kind) same late.short)
