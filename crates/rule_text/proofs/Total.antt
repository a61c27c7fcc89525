-- Each text stands for a database or has a fault.
use Rattle.std.proofs.Common.{◌≡◌, ℕ, zero, suc, ◌+◌, ◌<◌, ◌≤◌, ◌⊎◌, List, [], ◌∷◌, length, get_or, take, reverse, Contains, Option, Some, None, arith, refl, sym, subst, ◌∙◌, inl, inr}
use Rattle.std.proofs.lemmas.Bool.{cases_eq}
use Rattle.std.proofs.lemmas.List.{take_all}
use Rattle.std.proofs.lemmas.Option.{none-some, same_Some}
use Rattle.freq_range.proofs.Deciding.{Told, told_any}
use Rattle.freq_range.proofs.ToldRules.{told_wmm}
use Rattle.freq_range.specs.Valid.{IsValidWmm}
use Rattle.freq_range.specs.declared.rule.Rule.{Rule}
use Rattle.freq_range.specs.declared.wmm.Wmm.{Wmm}
use Rattle.rule_tables.specs.declared.code.Alpha2.{Alpha2}
use Rattle.rule_tables.specs.declared.code.Region.{Region}
use Rattle.rule_tables.specs.declared.domain.Domain.{Domain}
use Rattle.rule_text.specs.declared.fault.TextFault.{TextFault}
use Rattle.text_lines.specs.declared.fault.TextKind.{TextKind}
use Rattle.text_lines.specs.declared.fault.TextKind.TheVariants.{WmmShort, NoRules}
use Rattle.rule_text.specs.Faults.{AreAccepted}
use Rattle.rule_text.specs.Forms.{Form, form_at, rules_of, wmm_of_name}
use Rattle.rule_text.specs.Forms.Form.{Country, Empty, ItemLine, RuleLine, WmmHeader}
use Rattle.text_lines.specs.Lines.{text_lines}
use Rattle.rule_text.specs.TextOf.{IsFirstFault, IsShortAt, IsTextFault, TextOf}
use Rattle.rule_text.proofs.Built.{stands_for_some}
use Rattle.rule_text.proofs.FormLaws.{form_at_within, same_header}
use Rattle.rule_text.proofs.Judged.{judge}
use Rattle.rule_text.proofs.Unique.{reverse_more}

-- ---- headers that are left short

-- whether line k is a header that is left short
abbrev IsToldShort : List Form → ℕ → Type 0
IsToldShort forms k = ((kind : TextKind) × IsShortAt forms k kind) ⊎ ((kind : TextKind) → IsShortAt forms k kind → ⊥)

-- only headers are left short
headless : (forms : List Form) (k : ℕ) → ((name : List ℕ) → form_at forms k ≡ Some (WmmHeader name) → ⊥)
    → ((cs : List Alpha2) (region : Region) → form_at forms k ≡ Some (Country cs region) → ⊥) → (kind : TextKind) → IsShortAt forms k kind → ⊥
headless forms k a b WmmShort short = a short.0 short.1
headless forms k a b NoRules short = b short.0 short.1 short.2
headless forms k a b kind short = short

same_header_name : (name other : List ℕ) → WmmHeader name ≡ WmmHeader other → name ≡ other
same_header_name name other e = cc

-- the header of a WMM rule is short by that WMM rule alone
full_wmm : (forms : List Form) (k : ℕ) (name : List ℕ) → form_at forms k ≡ Some (WmmHeader name) → ((w : Wmm) → wmm_of_name name forms ≡ Some w → IsValidWmm w)
    → (kind : TextKind) → IsShortAt forms k kind → ⊥
full_wmm forms k name at valid WmmShort short =
    let same = same_header_name name short.0 (same_Some (WmmHeader name) (WmmHeader short.0) (sym at ∙ short.1)) in
    short.4 (valid short.2 (subst (λ n. wmm_of_name n forms ≡ Some short.2) (sym same) short.3))
full_wmm forms k name at valid NoRules short = let e = sym at ∙ short.2 in cc
full_wmm forms k name at valid kind short = short

told_wmm_header : (forms : List Form) (k : ℕ) (name : List ℕ) (o : Option Wmm) → form_at forms k ≡ Some (WmmHeader name) → wmm_of_name name forms ≡ o → IsToldShort forms k
told_wmm_header forms k name None at none = inr (full_wmm forms k name at (λ w is. absurd (none-some w (sym none ∙ is))))
told_wmm_header forms k name (Some w) at some = elim (told_wmm w) [
  | inl valid ↦ inr (full_wmm forms k name at (λ v is. subst IsValidWmm (same_Some w v (sym some ∙ is)) valid))
  | inr short ↦ inl (WmmShort, (name, at, w, some, short))
]

told_empty : (rules : List Rule) → Told (rules ≡ [])
told_empty [] = inl refl
told_empty (rule ∷ rules) = inr (λ e. cc)

-- the header of countries is short by their rules alone
full_header : (forms : List Form) (k : ℕ) (cs : List Alpha2) (region : Region) → form_at forms k ≡ Some (Country cs region)
    → ((code : Alpha2) → Contains cs code → rules_of code forms ≡ [] → ⊥) → (kind : TextKind) → IsShortAt forms k kind → ⊥
full_header forms k cs region at some NoRules short =
    let same = same_header cs short.0 region short.1 (same_Some (Country cs region) (Country short.0 short.1) (sym at ∙ short.2)) in
    some short.3 (subst (λ xs. Contains xs short.3) (sym same.0) short.4) short.5
full_header forms k cs region at some WmmShort short = let e = sym at ∙ short.1 in cc
full_header forms k cs region at some kind short = short

told_header : (forms : List Form) (k : ℕ) (cs : List Alpha2) (region : Region) → form_at forms k ≡ Some (Country cs region) → IsToldShort forms k
told_header forms k cs region at = elim (told_any (λ code. rules_of code forms ≡ []) (λ code. told_empty (rules_of code forms)) cs) [
  | inl found ↦ inl (NoRules, (cs, region, at, found.0, found.1, found.2))
  | inr none ↦ inr (full_header forms k cs region at none)
]

told_short : (forms : List Form) (k : ℕ) → IsToldShort forms k
told_short forms k = by_form (form_at forms k) refl
  where
    by_form : (o : Option Form) → form_at forms k ≡ o → IsToldShort forms k
    by_form None at = inr (headless forms k (λ name is. none-some (WmmHeader name) (sym at ∙ is)) (λ cs region is. none-some (Country cs region) (sym at ∙ is)))
    by_form (Some (WmmHeader name)) at = told_wmm_header forms k name (wmm_of_name name forms) at refl
    by_form (Some (Country cs region)) at = told_header forms k cs region at
    by_form (Some Empty) at = inr (headless forms k (λ name is. let e = sym at ∙ is in cc) (λ cs region is. let e = sym at ∙ is in cc))
    by_form (Some (ItemLine item entry)) at = inr (headless forms k (λ name is. let e = sym at ∙ is in cc) (λ cs region is. let e = sym at ∙ is in cc))
    by_form (Some (RuleLine rule other)) at = inr (headless forms k (λ name is. let e = sym at ∙ is in cc) (λ cs region is. let e = sym at ∙ is in cc))

short_within : (forms : List Form) (k : ℕ) (kind : TextKind) → IsShortAt forms k kind → k < length forms
short_within forms k WmmShort short = form_at_within forms k (WmmHeader short.0) short.1
short_within forms k NoRules short = form_at_within forms k (Country short.0 short.1) short.2
short_within forms k kind short = absurd short

-- the first header that is left short
record IsFirstShortAt (forms : List Form) (k : ℕ) (kind : TextKind) : Type 0 where
  short : IsShortAt forms k kind
  first : (j : ℕ) (other : TextKind) → j < k → IsShortAt forms j other → ⊥

-- of the first n lines some header is left short, or none
first_short : (forms : List Form) (n : ℕ)
    → ((k : ℕ) × (kind : TextKind) × IsFirstShortAt forms k kind) ⊎ ((j : ℕ) (other : TextKind) → j < n → IsShortAt forms j other → ⊥)
first_short forms zero = inr (λ j other less short. omega (arith, less))
first_short forms (suc n) = elim (first_short forms n) [
  | inl found ↦ inl found
  | inr none ↦ elim (told_short forms n) [
    | inl here ↦ inl (n, here.0, record { short = here.1; first = none })
    | inr never ↦ inr (λ j other less short. elim (cases_eq j n) [
      | inl same ↦ never other (subst (λ i. IsShortAt forms i other) same short)
      | inr apart ↦ none j other (omega (arith, less, apart)) short
    ])
  ]
]

-- ---- the lines of a text

-- of the first k lines one is at fault, or all are accepted
read_lines : (text : List ℕ) (k : ℕ) → k ≤ length (text_lines text)
    → ((j : ℕ) × (kind : TextKind) × IsFirstFault text j kind) ⊎ ((forms : List Form) × AreAccepted (reverse (take k (text_lines text))) forms)
read_lines text zero within = inr ([], tt)
read_lines text (suc k) within = elim (read_lines text k (omega (arith, within))) [
  | inl fault ↦ inl fault
  | inr taken ↦ elim (judge taken.0 (get_or (text_lines text) k [])) [
    | inl good ↦ inr (
      good.0 ∷ taken.0,
      subst (λ ls. AreAccepted ls (good.0 ∷ taken.0)) (sym (reverse_more (text_lines text) k (omega (arith, within)))) (taken.1, good.1),
    )
    | inr fault ↦ inl (k, fault.0, record { in_range = omega (arith, within); above = taken.0; accepted = taken.1; fault = fault.1 })
  ]
]

-- where all lines are accepted
accepted_answer : (text : List ℕ) (forms : List Form) → AreAccepted (reverse (text_lines text)) forms
    → ((ds : List Domain) × TextOf text ds) ⊎ ((fault : TextFault) × IsTextFault text fault)
accepted_answer text forms accepted = elim (first_short forms (length forms)) [
  | inl late ↦ inr (
    record { line = late.0 + 1; kind = late.1 },
    (late.0, refl, inr (record { forms = forms; accepted = accepted; short = late.2.short; first = late.2.first })),
  )
  | inr none ↦
      let built = stands_for_some (reverse (text_lines text)) forms (record {
        accepted = accepted;
        none_short = λ k kind short. none k kind (short_within forms k kind short) short;
      }) in
      inl (built.0, (forms, accepted, built.1))
]

pub some_answer : (text : List ℕ) → ((ds : List Domain) × TextOf text ds) ⊎ ((fault : TextFault) × IsTextFault text fault)
some_answer text = elim (read_lines text (length (text_lines text)) (omega arith)) [
  | inl fault ↦ inr (record { line = fault.0 + 1; kind = fault.1 }, (fault.0, refl, inl fault.2))
  | inr taken ↦ accepted_answer text taken.0
      (subst (λ ls. AreAccepted (reverse ls) taken.0) (take_all (length (text_lines text)) (text_lines text) (omega arith)) taken.1)
]
