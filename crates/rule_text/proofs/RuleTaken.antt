-- A rule or an item is taken, or has the first kind of fault that applies.
use Rattle.std.proofs.Common.{◌≡◌, ℕ, ◌<◌, List, [], ◌∷◌, ◌++◌, Contains, Option, Some, None, All, arith, refl, sym, subst, ◌∙◌, ap, inl, inr}
use Rattle.std.proofs.lemmas.List.{append_assoc}
use Rattle.std.proofs.lemmas.List.Elements.{All-contains}
use Rattle.freq_range.proofs.Members.{Contains-cases, Contains-head, Contains-nothing}
use Rattle.freq_range.specs.declared.rule.Rule.{Rule}
use Rattle.freq_range.specs.declared.wmm.Wmm.{Wmm}
use Rattle.freq_range.specs.declared.wmm.WmmEntry.{WmmEntry}
use Rattle.rule_tables.specs.Code.{IsCode}
use Rattle.rule_tables.specs.declared.code.Alpha2.{Alpha2}
use Rattle.text_lines.specs.declared.fault.LineStop.{LineStop}
use Rattle.text_lines.specs.declared.fault.LineStop.TheVariants.{Kind, OutOfMemory}
use Rattle.text_lines.specs.declared.fault.TextKind.{TextKind}
use Rattle.text_lines.specs.declared.fault.TextKind.TheVariants.{BadBand, BadFlag, BadPower, BadWmm, FlagNotInVersion, NoBlock, NoWmm, TooManyRules}
use Rattle.text_lines.specs.declared.form.Item.{Item}
use Rattle.text_lines.specs.declared.form.Opening.TheVariants.{Rule as OfRule, Item as OfItem}
use Rattle.text_lines.specs.LineFaults.{IsRuleKind, place_of_kind}
use Rattle.rule_text.specs.Faults.{HasTooManyRules, IsInCountries, IsInWmm, IsWrong}
use Rattle.rule_text.specs.Forms.{Form, block_of}
use Rattle.rule_text.specs.Forms.Block.{OfCountries, OfName}
use Rattle.rule_text.specs.Forms.Form.{RuleLine}
use Rattle.text_lines.specs.Spelling.{BeginsWithBand, BeginsWithPower, IsItemLine, IsKeptWord, IsRuleLine, IsSpelledRule, Opens, RuleText, band_text, list_of, names_in, power_part, words_text}
use Rattle.rule_text.specs.inner.State.{AddsItemTo, AreBlocks, AreCountries, AreSound, Blocks, Countries, IsAddAllStop, IsAddItemToStop, IsBareFault, IsBareStop, IsNameStop, BlocksNameWmm}
use Rattle.rule_text.proofs.FormLaws.{Names-later, block_codes, block_named_by}
use Rattle.rule_text.proofs.LineForms.{IsItemLine-opens, IsSpelledRule-opens, IsSpelledRule-unique}
use Rattle.rule_text.proofs.LineLaws.{good, item_first, item_outside, item_wrong, rule_first, rule_outside}
use Rattle.rule_text.proofs.RuleLaws.{not_too_many}
use Rattle.rule_text.proofs.WmmLaws.{item_not_there, item_there, named_none, named_some}

-- ---- items

pub item_nothing : (above : List Form) (line : List ℕ) (item : Item) → Opens line (OfItem item) → (IsInWmm above → ⊥) → IsBareFault above line NoBlock
item_nothing above line item opens outside = record {
  applies = inr (item, opens, outside);
  first = item_first above line 4 item opens (λ less wrong. omega (arith, less)) (λ less wrong. omega (arith, less));
}

pub item_bad : (above : List Form) (line name : List ℕ) (item : Item) → Opens line (OfItem item) → block_of above ≡ OfName name → ((e : WmmEntry) → IsItemLine line item e → ⊥)
    → IsBareFault above line BadWmm
item_bad above line name item opens block none = record {
  applies = inr (item, opens, inl none);
  first = item_first above line 13 item opens (λ less wrong. item_outside above line item opens wrong (name, block)) (λ less wrong. omega (arith, less));
}

pub item_stop : (above : List Form) (line name : List ℕ) (item : Item) (blocks : Blocks) (stop : LineStop) → Opens line (OfItem item) → block_of above ≡ OfName name → AreBlocks above blocks
    → IsAddItemToStop name item blocks stop → IsBareStop above line stop
item_stop above line name item blocks (Kind BadWmm) opens block are (kept, here, valid) = record {
  applies = inr (item, opens, inr (item_there name item above blocks kept block are here valid));
  first = item_first above line 13 item opens (λ less wrong. item_outside above line item opens wrong (name, block)) (λ less wrong. omega (arith, less));
}
item_stop above line name item blocks (Kind kind) opens block are stop = absurd stop.2
item_stop above line name item blocks OutOfMemory opens block are stop = tt

pub item_good : (above : List Form) (line name : List ℕ) (item : Item) (e : WmmEntry) (old new : Blocks) → IsItemLine line item e → block_of above ≡ OfName name → AreBlocks above old
    → AddsItemTo name item e old new → (kind : TextKind) → IsWrong above line kind → ⊥
item_good above line name item e old new is block are adds =
    let opens = IsItemLine-opens line item e is in
    good above line (item_first above line 18 item opens
    (λ less wrong. item_outside above line item opens wrong (name, block))
    (λ less wrong. elim (item_wrong above line item opens wrong) [
      | inl none ↦ none e is
      | inr there ↦ item_not_there name item e above old new block are adds there
    ]))

-- ---- rules

pub rule_nothing : (above : List Form) (line : List ℕ) → Opens line OfRule → (IsInCountries above → ⊥) → IsBareFault above line NoBlock
rule_nothing above line opens outside = record {
  applies = inl (opens, outside);
  first = rule_first above line 4 opens (λ less wrong. omega (arith, less)) (λ less wrong. omega (arith, less)) (λ less wrong. omega (arith, less))
      (λ less wrong. omega (arith, less)) (λ less wrong. omega (arith, less)) (λ less wrong. omega (arith, less)) (λ less wrong. omega (arith, less));
}

-- what is spelled begins with a band, and then with a power
pub spelled_band : (line : List ℕ) (t : RuleText) (rule : Rule) → IsSpelledRule line t rule → BeginsWithBand line (power_part t.gain t.power ++ words_text t.words)
spelled_band line t rule is = (
  t.band,
  rule.start_khz,
  rule.end_khz,
  rule.max_bw_khz,
  is.band,
  is.spelled ∙ append_assoc (band_text t.band) (power_part t.gain t.power) (words_text t.words),
)

pub spelled_power : (line : List ℕ) (t : RuleText) (rule : Rule) → IsSpelledRule line t rule → BeginsWithPower (power_part t.gain t.power ++ words_text t.words) (words_text t.words)
spelled_power line t rule is = (t.gain, t.power, rule.eirp_mbm, is.power, refl)

pub rule_stop : (above : List Form) (line : List ℕ) (cs : List Alpha2) (kind : TextKind) → Opens line OfRule → block_of above ≡ OfCountries cs → IsRuleKind line kind → IsBareFault above line kind
rule_stop above line cs BadBand opens block lacks = record {
  applies = (opens, lacks);
  first = rule_first above line 8 opens (λ less wrong. rule_outside above line opens wrong (cs, block)) (λ less wrong. omega (arith, less)) (λ less wrong. omega (arith, less))
      (λ less wrong. omega (arith, less)) (λ less wrong. omega (arith, less)) (λ less wrong. omega (arith, less)) (λ less wrong. omega (arith, less));
}
rule_stop above line cs BadPower opens block is = record {
  applies = (opens, is.1);
  first = rule_first above line 9 opens (λ less wrong. rule_outside above line opens wrong (cs, block)) (λ less wrong. wrong.1 is.0.0 is.0.1) (λ less wrong. omega (arith, less))
      (λ less wrong. omega (arith, less)) (λ less wrong. omega (arith, less)) (λ less wrong. omega (arith, less)) (λ less wrong. omega (arith, less));
}
rule_stop above line cs BadFlag opens block is = record {
  applies = (opens, is.1);
  first = rule_first above line 10 opens (λ less wrong. rule_outside above line opens wrong (cs, block)) (λ less wrong. wrong.1 is.0.0 is.0.2) (λ less wrong. wrong.1 is.0.0 is.0.1 is.0.2 is.0.3)
      (λ less wrong. omega (arith, less)) (λ less wrong. omega (arith, less)) (λ less wrong. omega (arith, less)) (λ less wrong. omega (arith, less));
}
rule_stop above line cs FlagNotInVersion opens block is = record {
  applies = is;
  first = rule_first above line 11 opens (λ less wrong. rule_outside above line opens wrong (cs, block))
      (λ less wrong. wrong.1 (power_part is.0.gain is.0.power ++ words_text is.0.words) (spelled_band line is.0 is.1 is.2))
      (λ less wrong. wrong.1 (power_part is.0.gain is.0.power ++ words_text is.0.words) (words_text is.0.words) (spelled_band line is.0 is.1 is.2) (spelled_power line is.0 is.1 is.2))
      (λ less wrong. wrong.1 is.0 is.1 is.2) (λ less wrong. omega (arith, less)) (λ less wrong. omega (arith, less)) (λ less wrong. omega (arith, less));
}
rule_stop above line cs kind opens block is = absurd is

-- the kinds up to the flags don't apply to the line of a rule
abbrev Allows : List Form → List ℕ → ℕ → Type 0
Allows above line n = (place_of_kind NoWmm < n → IsWrong above line NoWmm → ⊥) → (place_of_kind TooManyRules < n → IsWrong above line TooManyRules → ⊥)
    → (kind : TextKind) → place_of_kind kind < n → IsWrong above line kind → ⊥

pub rule_allows : (above : List Form) (line : List ℕ) (cs : List Alpha2) (rule : Rule) (name : Option (List ℕ)) (n : ℕ) → block_of above ≡ OfCountries cs → IsRuleLine line rule name → Allows above line n
rule_allows above line cs rule name n block is f g =
    let opens = IsSpelledRule-opens line is.text rule is.is in
    rule_first above line n opens (λ less wrong. rule_outside above line opens wrong (cs, block))
    (λ less wrong. wrong.1 (power_part is.text.gain is.text.power ++ words_text is.text.words) (spelled_band line is.text rule is.is))
    (λ less wrong. wrong.1 (power_part is.text.gain is.text.power ++ words_text is.text.words) (words_text is.text.words) (spelled_band line is.text rule is.is) (spelled_power line is.text rule is.is))
    (λ less wrong. wrong.1 is.text rule is.is)
    (λ less wrong.
    let same = IsSpelledRule-unique line is.text wrong.0 rule wrong.1 is.is wrong.2 in
    wrong.3 (subst (λ ws. All IsKeptWord ws) same.0 is.kept))
    f g

one_name : (name : Option (List ℕ)) (other : List ℕ) → Contains (list_of name) other → name ≡ Some other
one_name None other has = absurd (Contains-nothing other has)
one_name (Some n) other has = elim (Contains-cases n [] other has) [
  | inl same ↦ ap Some same
  | inr none ↦ absurd (Contains-nothing other none)
]

-- a name among the words of another reading of the line is the rule's
pub named_once : (line : List ℕ) (rule other : Rule) (name : Option (List ℕ)) (t : RuleText) (n : List ℕ) → IsRuleLine line rule name → IsSpelledRule line t other → Contains (names_in t.words) n → name ≡ Some n
named_once line rule other name t n is spelled has =
    let same = IsSpelledRule-unique line t is.text other rule spelled is.is in
    one_name name n (subst (λ ns. Contains ns n) is.named (subst (λ ws. Contains (names_in ws) n) same.0 has))

pub name_stop : (above : List Form) (line : List ℕ) (cs : List Alpha2) (rule : Rule) (name : Option (List ℕ)) (blocks : Blocks) (stop : LineStop) → block_of above ≡ OfCountries cs
    → IsRuleLine line rule name → AreBlocks above blocks → IsNameStop blocks name stop → IsBareStop above line stop
name_stop above line cs rule None blocks stop block is are none = absurd none
name_stop above line cs rule (Some name) blocks stop block is are none = subst (IsBareStop above line) (sym none.0) (record {
  applies = (is.text, rule, is.is, name, subst (λ ns. Contains ns name) (sym is.named) (Contains-head name []), named_none above blocks name are none.1);
  first = rule_allows above line cs rule (Some name) 12 block is (λ less wrong. omega (arith, less)) (λ less wrong. omega (arith, less));
})

-- the WMM rule that is named has a header
not_unnamed : (above : List Form) (line : List ℕ) (rule : Rule) (name : Option (List ℕ)) (blocks : Blocks) (wmm : Option Wmm) → IsRuleLine line rule name → AreBlocks above blocks → BlocksNameWmm blocks name wmm
    → IsWrong above line NoWmm → ⊥
not_unnamed above line rule name blocks wmm is are names wrong =
    let same = named_once line rule wrong.1 name wrong.0 wrong.3 is wrong.2 wrong.4 in
    named_some above blocks wrong.3 wmm are (subst (λ n. BlocksNameWmm blocks n wmm) same names) wrong.5

pub many_stop : (above : List Form) (line : List ℕ) (cs : List Alpha2) (rule : Rule) (name : Option (List ℕ)) (blocks : Blocks) (wmm : Option Wmm) (stop : LineStop) → block_of above ≡ OfCountries cs
    → IsRuleLine line rule name → AreBlocks above blocks → BlocksNameWmm blocks name wmm → IsAddAllStop (RuleLine rule name ∷ above) cs stop → IsBareStop above line stop
many_stop above line cs rule name blocks wmm (Kind TooManyRules) block is are names (code, has, many) = record {
  applies = (rule, name, is, cs, block, code, has, many);
  first = rule_allows above line cs rule name 15 block is (λ less wrong. not_unnamed above line rule name blocks wmm is are names wrong) (λ less wrong. omega (arith, less));
}
many_stop above line cs rule name blocks wmm (Kind kind) block is are names stop = absurd stop
many_stop above line cs rule name blocks wmm OutOfMemory block is are names stop = tt

same_named : (name other : Option (List ℕ)) → list_of name ≡ list_of other → name ≡ other
same_named None None e = refl
same_named None (Some n) e = absurd cc
same_named (Some n) None e = absurd cc
same_named (Some n) (Some m) e = let same : n ≡ m = cc in ap Some same

pub rule_good : (above : List Form) (line : List ℕ) (cs : List Alpha2) (rule : Rule) (name : Option (List ℕ)) (blocks : Blocks) (wmm : Option Wmm) (countries : Countries) → AreSound above
    → block_of above ≡ OfCountries cs → IsRuleLine line rule name → AreBlocks above blocks → BlocksNameWmm blocks name wmm → AreCountries (RuleLine rule name ∷ above) countries
    → (kind : TextKind) → IsWrong above line kind → ⊥
rule_good above line cs rule name blocks wmm countries sound block is are names countries_are = good above line (rule_allows above line cs rule name 18 block is
    (λ less wrong. not_unnamed above line rule name blocks wmm is are names wrong)
    (λ less wrong.
    let other = wrong.2 in
    let same = IsSpelledRule-unique line other.text is.text wrong.0 rule other.is is.is in
    let one = same_named wrong.1 name (sym other.named ∙ ap names_in same.0 ∙ is.named) in
    let codes = block_codes above wrong.3 sound wrong.4 in
    let named = block_named_by above wrong.3 wrong.5 wrong.4 wrong.6 in
    not_too_many (RuleLine rule name ∷ above) countries wrong.5 named.0 countries_are (All-contains IsCode wrong.3 wrong.5 codes.each wrong.6)
    (Names-later (RuleLine rule name) above wrong.5 named.0 named.1)
    (subst (λ r. HasTooManyRules (RuleLine r name ∷ above) wrong.5) same.1 (subst (λ n. HasTooManyRules (RuleLine wrong.0 n ∷ above) wrong.5) one wrong.7))))
