-- Each line either is good, with some form, or has a fault: the first kind that applies.
use Rattle.std.proofs.Common.{◌≡◌, ◌≢◌, ℕ, ◌<◌, ◌⊎◌, List, [], ◌∷◌, length, Contains, Option, Some, None, IsUtf8, arith, refl, sym, subst, ◌∙◌, ap, inl, inr}
use Rattle.std.proofs.lemmas.Option.{none-some}
use Rattle.freq_range.proofs.Members.{Contains-cases, Contains-head, Contains-nothing}
use Rattle.freq_range.specs.declared.rule.Rule.{Rule}
use Rattle.freq_range.specs.declared.wmm.Wmm.{Wmm}
use Rattle.freq_range.specs.declared.wmm.WmmEntry.{WmmEntry}
use Rattle.rule_tables.specs.declared.code.Alpha2.{Alpha2}
use Rattle.rule_tables.specs.declared.code.Region.{Region}
use Rattle.text_lines.specs.declared.fault.LineStop.TheVariants.{Kind}
use Rattle.text_lines.specs.declared.fault.TextKind.{TextKind}
use Rattle.text_lines.specs.declared.fault.TextKind.TheVariants.{LineTooLong, NotUtf8, BadLine, NoBlock, RegionDiffers, NoWmm, BadWmm, WmmTwice, TooManyRules}
use Rattle.text_lines.specs.declared.form.Item.{Item}
use Rattle.text_lines.specs.declared.form.Opening.{Opening}
use Rattle.text_lines.specs.declared.form.Opening.TheVariants.{Country as OfCountry, Wmm as OfWmm, Rule as OfRule, Item as OfItem}
use Rattle.text_lines.specs.LineFaults.{place_of_kind}
use Rattle.rule_text.specs.Faults.{Applies, HasTooManyRules, IsGoodLine, IsInWmm, IsLineFault, IsWrong, MakesTooMany, NamesNoWmm}
use Rattle.rule_text.specs.Forms.{Form, IsForm, block_of, wmm_of_name}
use Rattle.rule_text.specs.Forms.Block.{OfCountries}
use Rattle.rule_text.specs.Forms.Form.{Country, Empty, ItemLine, RuleLine, WmmHeader}
use Rattle.text_lines.specs.Lines.{bare}
use Rattle.text_lines.specs.Spelling.{IsHeader, IsItemLine, IsRuleLine, IsSpelledRule, IsWmmHeader, Opens, RuleText, list_of, names_in}
use Rattle.rule_text.specs.inner.State.{IsBareFault}
use Rattle.text_lines.proofs.KindPlaces.{told_utf8}
use Rattle.rule_text.proofs.Contexts.{told_contradicted, told_has_item, told_in_countries, told_in_wmm, told_too_many}
use Rattle.rule_text.proofs.EmptyLines.{empty_good}
use Rattle.freq_range.proofs.Deciding.{Told, told_any, told_lt}
use Rattle.rule_text.proofs.LineForms.{IsSpelledRule-unique, decide_entry, decide_header, decide_opening, decide_rule, decide_wmm_name}
use Rattle.rule_text.proofs.GoodLines.{few_rules, good_header, good_item, good_name, good_rule}
use Rattle.rule_text.proofs.HeaderTaken.{contradicted_stop, header_stop, wmm_bad}
use Rattle.rule_text.proofs.LineLaws.{item_first, item_outside, wmm_first, wmm_header_wrong}
use Rattle.rule_text.proofs.RuleTaken.{item_bad, item_nothing, rule_allows, rule_nothing, rule_stop}

-- a line whose comment and blanks are dropped is good with some form, or has a first fault
abbrev pub IsJudgedBare : List Form → List ℕ → Type 0
IsJudgedBare above line =
    ((form : Form) × IsForm line form × ((kind : TextKind) → IsWrong above line kind → ⊥)) ⊎ ((kind : TextKind) × IsBareFault above line kind)

-- the same of a line as it stands in the text
abbrev pub IsJudged : List Form → List ℕ → Type 0
IsJudged above line = ((form : Form) × IsGoodLine above line form) ⊎ ((kind : TextKind) × IsLineFault above line kind)

-- ---- headers

judge_header : (above : List Form) (line : List ℕ) (cs : List Alpha2) (region : Region) → Opens line OfCountry → IsHeader line cs region → IsJudgedBare above line
judge_header above line cs region opens is = elim (told_contradicted above cs region) [
  | inl against ↦ inr (RegionDiffers, contradicted_stop above line cs region (Kind RegionDiffers) is against)
  | inr agrees ↦ inl (Country cs region, is, good_header above line cs region is agrees)
]

judge_country : (above : List Form) (line : List ℕ) → Opens line OfCountry → IsJudgedBare above line
judge_country above line opens = elim (decide_header line) [
  | inl header ↦ judge_header above line header.0 header.1 opens header.2
  | inr fault ↦ inr (fault.0, header_stop above line (Kind fault.0) opens fault.1)
]

judge_name : (above : List Form) (line name : List ℕ) (o : Option Wmm) → wmm_of_name name above ≡ o → Opens line OfWmm → IsWmmHeader line name → IsJudgedBare above line
judge_name above line name None at opens is = inl (WmmHeader name, is, good_name above line name is at)
judge_name above line name (Some w) at opens is = inr (
  WmmTwice,
  record {
    applies = (name, is, λ none. none-some w (sym none ∙ at));
    first = wmm_first above line 14 opens (λ less wrong. wmm_header_wrong above line opens wrong name is) (λ less wrong. omega (arith, less));
  },
)

judge_wmm : (above : List Form) (line : List ℕ) → Opens line OfWmm → IsJudgedBare above line
judge_wmm above line opens = elim (decide_wmm_name line) [
  | inl named ↦ judge_name above line named.0 (wmm_of_name named.0 above) refl opens named.1
  | inr none ↦ inr (BadWmm, wmm_bad above line opens none)
]

-- ---- items

judge_entry : (above : List Form) (line : List ℕ) (item : Item) (e : WmmEntry) → Opens line (OfItem item) → IsInWmm above → IsItemLine line item e → IsJudgedBare above line
judge_entry above line item e opens inside is = elim (told_has_item above item) [
  | inl has ↦ inr (
    BadWmm,
    record {
      applies = inr (item, opens, inr has);
      first = item_first above line 13 item opens (λ less wrong. item_outside above line item opens wrong inside) (λ less wrong. omega (arith, less));
    },
  )
  | inr lacks ↦ inl (ItemLine item e, is, good_item above line item e inside is lacks)
]

judge_item : (above : List Form) (line : List ℕ) (item : Item) → Opens line (OfItem item) → IsJudgedBare above line
judge_item above line item opens = elim (told_in_wmm above) [
  | inr outside ↦ inr (NoBlock, item_nothing above line item opens outside)
  | inl inside ↦ elim (decide_entry line item) [
    | inl entry ↦ judge_entry above line item entry.0 opens inside entry.1
    | inr none ↦ inr (BadWmm, item_bad above line inside.0 item opens inside.1 none)
  ]
]

-- ---- rules

-- the name that a line has is the one of the rule
same_named : (line : List ℕ) (rule : Rule) (name : Option (List ℕ)) (t : RuleText) (r : Rule) (named : List ℕ) → IsRuleLine line rule name → IsSpelledRule line t r
    → Contains (names_in t.words) named → Contains (list_of name) named
same_named line rule name t r named is other has =
    subst (λ xs. Contains xs named) (ap names_in (IsSpelledRule-unique line t is.text r rule other is.is).0 ∙ is.named) has

-- whether the line names a WMM rule that isn't there
told_no_wmm : (above : List Form) (line : List ℕ) (rule : Rule) (name : Option (List ℕ)) → IsRuleLine line rule name → Told (NamesNoWmm above line)
told_no_wmm above line rule None is = inr (λ n. Contains-nothing n.3 (same_named line rule None n.0 n.1 n.3 is n.2 n.4))
told_no_wmm above line rule (Some name) is = by_wmm (wmm_of_name name above) refl
  where
    by_wmm : (o : Option Wmm) → wmm_of_name name above ≡ o → Told (NamesNoWmm above line)
    by_wmm None at = inl (is.text, rule, is.is, name, subst (λ xs. Contains xs name) (sym is.named) (Contains-head name []), at)
    by_wmm (Some w) at = inr (λ n. elim (Contains-cases name [] n.3 (same_named line rule (Some name) n.0 n.1 n.3 is n.2 n.4)) [
      | inl same ↦ none-some w (sym n.5 ∙ subst (λ x. wmm_of_name x above ≡ Some w) same at)
      | inr none ↦ Contains-nothing n.3 none
    ])

-- whether some country has too many rules with the line
told_makes_too_many : (above : List Form) (line : List ℕ) (rule : Rule) (name : Option (List ℕ)) (cs : List Alpha2) → IsRuleLine line rule name
    → block_of above ≡ OfCountries cs → Told (MakesTooMany above line)
told_makes_too_many above line rule name cs is block =
    elim (told_any (HasTooManyRules (RuleLine rule name ∷ above)) (told_too_many (RuleLine rule name ∷ above)) cs) [
      | inl found ↦ inl (rule, name, is, cs, block, found.0, found.1, found.2)
      | inr none ↦ inr (few_rules above line rule name cs block is none)
    ]

judge_spelled : (above : List Form) (line : List ℕ) (rule : Rule) (name : Option (List ℕ)) (cs : List Alpha2) → block_of above ≡ OfCountries cs → IsRuleLine line rule name
    → IsJudgedBare above line
judge_spelled above line rule name cs block is = elim (told_no_wmm above line rule name is) [
  | inl unnamed ↦ inr (
    NoWmm,
    record {
      applies = unnamed;
      first = rule_allows above line cs rule name 12 block is (λ less wrong. omega (arith, less)) (λ less wrong. omega (arith, less));
    },
  )
  | inr there ↦ elim (told_makes_too_many above line rule name cs is block) [
    | inl many ↦ inr (
      TooManyRules,
      record {
        applies = many;
        first = rule_allows above line cs rule name 15 block is (λ less wrong. there wrong) (λ less wrong. omega (arith, less));
      },
    )
    | inr few ↦ inl (RuleLine rule name, is, good_rule above line rule name cs block is there few)
  ]
]

judge_rule : (above : List Form) (line : List ℕ) → Opens line OfRule → IsJudgedBare above line
judge_rule above line opens = elim (told_in_countries above) [
  | inr outside ↦ inr (NoBlock, rule_nothing above line opens outside)
  | inl inside ↦ elim (decide_rule line) [
    | inl rule ↦ judge_spelled above line rule.0 rule.1 inside.0 inside.1 rule.2
    | inr fault ↦ inr (fault.0, rule_stop above line inside.0 fault.0 opens inside.1 fault.1)
  ]
]

-- ---- each line

unopened : (above : List Form) (line : List ℕ) → line ≢ [] → ((o : Opening) → Opens line o → ⊥) → IsBareFault above line BadLine
unopened above line some none = record { applies = (some, none); first = first }
  where
    first : (other : TextKind) → place_of_kind other < place_of_kind BadLine → IsWrong above line other → ⊥
    first LineTooLong less wrong = wrong
    first NotUtf8 less wrong = wrong
    first other less wrong = omega (arith, less)

judge_opened : (above : List Form) (line : List ℕ) (o : Opening) → Opens line o → IsJudgedBare above line
judge_opened above line OfCountry opens = judge_country above line opens
judge_opened above line OfWmm opens = judge_wmm above line opens
judge_opened above line OfRule opens = judge_rule above line opens
judge_opened above line (OfItem item) opens = judge_item above line item opens

pub judge_bare : (above : List Form) (line : List ℕ) → IsJudgedBare above line
judge_bare above [] = inl (Empty, refl, empty_good above)
judge_bare above (b ∷ bs) = elim (decide_opening (b ∷ bs)) [
  | inl opening ↦ judge_opened above (b ∷ bs) opening.0 opening.1
  | inr none ↦ inr (BadLine, unopened above (b ∷ bs) (λ e. cc) none)
]

-- what is wrong with a line, but for its length and its bytes, is so without its comment and blanks
applies_bare : (above : List Form) (line : List ℕ) (kind : TextKind) → (4096 < length line → ⊥) → IsUtf8 line → Applies above line kind → IsWrong above (bare line) kind
applies_bare above line LineTooLong short utf8 applies = absurd (short applies)
applies_bare above line NotUtf8 short utf8 applies = absurd (applies utf8)
applies_bare above line kind short utf8 applies = applies

bare_applies : (above : List Form) (line : List ℕ) (kind : TextKind) → IsWrong above (bare line) kind → Applies above line kind
bare_applies above line LineTooLong wrong = absurd wrong
bare_applies above line NotUtf8 wrong = absurd wrong
bare_applies above line kind wrong = wrong

too_long : (above : List Form) (line : List ℕ) → 4096 < length line → IsLineFault above line LineTooLong
too_long above line long = record { applies = long; first = first }
  where
    first : (other : TextKind) → place_of_kind other < place_of_kind LineTooLong → Applies above line other → ⊥
    first LineTooLong less applies = omega (arith, less)
    first other less applies = omega (arith, less)

not_utf8 : (above : List Form) (line : List ℕ) → (4096 < length line → ⊥) → (IsUtf8 line → ⊥) → IsLineFault above line NotUtf8
not_utf8 above line short broken = record { applies = broken; first = first }
  where
    first : (other : TextKind) → place_of_kind other < place_of_kind NotUtf8 → Applies above line other → ⊥
    first LineTooLong less applies = short applies
    first other less applies = omega (arith, less)

pub judge : (above : List Form) (line : List ℕ) → IsJudged above line
judge above line = elim (told_lt 4096 (length line)) [
  | inl long ↦ inr (LineTooLong, too_long above line long)
  | inr short ↦ elim (told_utf8 line) [
    | inr broken ↦ inr (NotUtf8, not_utf8 above line short broken)
    | inl utf8 ↦ elim (judge_bare above (bare line)) [
      | inl formed ↦ inl (formed.0, record { is = formed.1; good = λ kind applies. formed.2 kind (applies_bare above line kind short utf8 applies) })
      | inr fault ↦ inr (
        fault.0,
        record {
          applies = bare_applies above line fault.0 fault.1.applies;
          first = λ other less applies. fault.1.first other less (applies_bare above line other short utf8 applies);
        },
      )
    ]
  ]
]
