-- A text that ought to be the line of one rule has exactly one of a rule and a kind of fault.
use Rattle.std.proofs.Common.{◌≡◌, ℕ, ◌⊎◌, List, [], ◌∷◌, ◌++◌, Option, Some, None, true, length, All, refl, ap, ◌∙◌, sym, inl, inr}
use Rattle.std.specs.Prelude.{codes}
use Rattle.std.proofs.lemmas.Bool.{cases_Bool, cases_lt, cases_order}
use Rattle.freq_range.specs.declared.rule.Rule.{Rule}
use Rattle.text_lines.specs.declared.fault.TextKind.{TextKind}
use Rattle.text_lines.specs.declared.fault.TextKind.TheVariants.{LineTooLong, NotUtf8, BadLine, BadBand, BadPower, BadFlag, FlagNotInVersion}
use Rattle.text_lines.specs.declared.form.Opening.TheVariants.{Rule as OfRule}
use Rattle.text_lines.specs.LineFaults.{IsRuleKind, IsRuleTextFault, IsTextOfRule, place_of_kind}
use Rattle.text_lines.specs.Lines.{IsReadableLine, bare}
use Rattle.text_lines.specs.Spelling.{IsKeptWord, IsRuleLine, IsSpelledRule, Opens, RuleText, names_in, power_part, words_text}
use Rattle.text_lines.specs.inner.Reading.{IsBareKind, IsBareRule, begins_with}
use Rattle.text_lines.proofs.BareRules.{bare-fault, bare-rule, named-bare, not_opens, opens-rule, part-bare, readable-fault, spelled-band, spelled-power}
use Rattle.text_lines.proofs.KindPlaces.{same_place, told_utf8}
use Rattle.text_lines.proofs.RuleTexts.{IsRuleLine-unique, IsSpelledRule-unique, decide_rule}

-- what is told of a line whose comment and blanks are dropped
abbrev IsToldBare : List ℕ → Type 0
IsToldBare line = ((rule : Rule) × IsBareRule line rule) ⊎ ((kind : TextKind) × IsBareKind line kind)

-- a line of a rule that names a WMM rule, or none
by_name : (line : List ℕ) (rule : Rule) (name : Option (List ℕ)) → Opens line OfRule → IsRuleLine line rule name → IsToldBare line
by_name line rule None opens is = inl (rule, record { is = is })
by_name line rule (Some name) opens is = inr (
  BadFlag,
  named-bare line rule (Some name) true opens (record { text = is.text; is = is.is; named = is.named; all_kept = λ e. is.kept; some_unkept = λ e kept. absurd cc }) refl,
)

-- a line with a flag that has no bit: a name of a WMM rule comes first
by_names : (line : List ℕ) (t : RuleText) (rule : Rule) (names : List (List ℕ)) → names_in t.words ≡ names → Opens line OfRule → IsSpelledRule line t rule
    → (All IsKeptWord t.words → ⊥) → IsToldBare line
by_names line t rule [] none opens spelled unkept = inr (FlagNotInVersion, (opens, t, rule, spelled, none, unkept))
by_names line t rule (name ∷ names) some opens spelled unkept = inr (
  BadFlag,
  (
    opens,
    (power_part t.gain t.power ++ words_text t.words, words_text t.words, spelled-band line t rule spelled, spelled-power line t rule spelled),
    λ other r is none. let e = sym some ∙ ap names_in (IsSpelledRule-unique line t other rule r spelled is).0 ∙ none in cc,
  ),
)

by_kind : (line : List ℕ) (kind : TextKind) → Opens line OfRule → IsRuleKind line kind → IsToldBare line
by_kind line BadBand opens h = inr (BadBand, part-bare line BadBand opens h)
by_kind line BadPower opens h = inr (BadPower, part-bare line BadPower opens h)
by_kind line BadFlag opens h = inr (BadFlag, part-bare line BadFlag opens h)
by_kind line FlagNotInVersion opens (t, rule, spelled, unkept) = by_names line t rule (names_in t.words) refl opens spelled unkept
by_kind line kind opens h = absurd h

told_bare : (line : List ℕ) → IsToldBare line
told_bare line = elim (cases_Bool (begins_with (codes "(") line)) [
  | inr closed ↦ inr (BadLine, not_opens line closed)
  | inl bracket ↦ elim (decide_rule line) [
    | inl rule ↦ by_name line rule.0 rule.1 (opens-rule line bracket) rule.2
    | inr fault ↦ by_kind line fault.0 (opens-rule line bracket) fault.1
  ]
]

pub rule_or_kind : (text : List ℕ) → ((rule : Rule) × IsTextOfRule text rule) ⊎ ((kind : TextKind) × IsRuleTextFault text kind)
rule_or_kind text = elim (cases_lt 4096 (length text)) [
  | inl long ↦ inr (LineTooLong, readable-fault text LineTooLong long)
  | inr short ↦ elim (told_utf8 text) [
    | inr broken ↦ inr (NotUtf8, readable-fault text NotUtf8 (short, broken))
    | inl utf8 ↦ readable (record { short = short; utf8 = utf8 }) (told_bare (bare text))
  ]
]
  where
    readable : IsReadableLine text → IsToldBare (bare text) → ((rule : Rule) × IsTextOfRule text rule) ⊎ ((kind : TextKind) × IsRuleTextFault text kind)
    readable is (inl (rule, bare_is)) = inl (rule, bare-rule text rule is bare_is)
    readable is (inr (kind, wrong)) = inr (kind, bare-fault text kind is wrong)

pub one_rule_only : (text : List ℕ) (one other : Rule) → IsTextOfRule text one → IsTextOfRule text other → one ≡ other
one_rule_only text one other p q = (IsRuleLine-unique (bare text) one other None None p.is q.is).0

pub one_kind_only : (text : List ℕ) (one other : TextKind) → IsRuleTextFault text one → IsRuleTextFault text other → one ≡ other
one_kind_only text one other p q = elim (cases_order (place_of_kind one) (place_of_kind other)) [
  | inl same ↦ same_place one other same
  | inr (inl lower) ↦ absurd (q.first one lower p.applies)
  | inr (inr higher) ↦ absurd (p.first other higher q.applies)
]

pub rule_and_kind : (text : List ℕ) (rule : Rule) (kind : TextKind) → IsTextOfRule text rule → IsRuleTextFault text kind → ⊥
rule_and_kind text rule kind is fault = is.good kind fault.applies
