-- Nothing is wrong with a line of a form, where the lines above it allow it.
use Rattle.std.proofs.Common.{◌≡◌, ◌≢◌, ℕ, List, ◌∷◌, Contains, Option, Some, None, sym, subst, ◌∙◌, inl, inr}
use Rattle.freq_range.specs.declared.rule.Rule.{Rule}
use Rattle.freq_range.specs.declared.wmm.WmmEntry.{WmmEntry}
use Rattle.rule_tables.specs.declared.code.Alpha2.{Alpha2}
use Rattle.rule_tables.specs.declared.code.Region.{Region}
use Rattle.text_lines.specs.declared.fault.TextKind.{TextKind}
use Rattle.text_lines.specs.declared.form.Item.{Item}
use Rattle.rule_text.specs.Faults.{HasItem, HasTooManyRules, IsContradicted, IsInWmm, IsWrong, MakesTooMany, NamesNoWmm}
use Rattle.rule_text.specs.Forms.{Form, block_of, wmm_of_name}
use Rattle.rule_text.specs.Forms.Block.{OfCountries}
use Rattle.rule_text.specs.Forms.Form.{Country, RuleLine}
use Rattle.text_lines.specs.Spelling.{IsHeader, IsItemLine, IsRuleLine, IsWmmHeader, region_name}
use Rattle.rule_text.proofs.Contexts.{same_codes_block}
use Rattle.rule_text.proofs.FormLaws.{same_header}
use Rattle.rule_text.proofs.LineForms.{IsForm-unique, IsHeader-opens, IsItemLine-opens, IsWmmHeader-opens, IsWmmHeader-unique}
use Rattle.rule_text.proofs.LineLaws.{country_first, good, item_first, item_outside, item_wrong, wmm_first, wmm_header_wrong}
use Rattle.rule_text.proofs.RuleTaken.{named_once, rule_allows}

-- nothing is wrong with the line below these
abbrev pub IsRight : List Form → List ℕ → Type 0
IsRight above line = (kind : TextKind) → IsWrong above line kind → ⊥

pub good_header : (above : List Form) (line : List ℕ) (cs : List Alpha2) (region : Region) → IsHeader line cs region → (IsContradicted above cs region → ⊥) → IsRight above line
good_header above line cs region is agrees =
    good above line (country_first above line 18 (IsHeader-opens line cs region is)
    (λ less wrong. wrong.1 cs (region_name region) is)
    (λ less wrong. wrong.1 cs region is)
    (λ less wrong.
    let same = same_header wrong.0 cs wrong.1 region (IsForm-unique line (Country wrong.0 wrong.1) (Country cs region) wrong.2 is) in
    agrees (subst (λ r. IsContradicted above cs r) same.1 (subst (λ xs. IsContradicted above xs wrong.1) same.0 wrong.3))))

pub good_name : (above : List Form) (line name : List ℕ) → IsWmmHeader line name → wmm_of_name name above ≡ None → IsRight above line
good_name above line name is at =
    let opens = IsWmmHeader-opens line name is in
    good above line (wmm_first above line 18 opens
    (λ less wrong. wmm_header_wrong above line opens wrong name is)
    (λ less wrong. wrong.2 (subst (λ n. wmm_of_name n above ≡ None) (IsWmmHeader-unique line name wrong.0 is wrong.1) at)))

pub good_item : (above : List Form) (line : List ℕ) (item : Item) (e : WmmEntry) → IsInWmm above → IsItemLine line item e → (HasItem above item → ⊥) → IsRight above line
good_item above line item e inside is lacks =
    let opens = IsItemLine-opens line item e is in
    good above line (item_first above line 18 item opens
    (λ less wrong. item_outside above line item opens wrong inside)
    (λ less wrong. elim (item_wrong above line item opens wrong) [
      | inl none ↦ none e is
      | inr has ↦ lacks has
    ]))

-- the name of the rule's WMM rule has a header above
pub has_wmm : (above : List Form) (line : List ℕ) (rule : Rule) (name : Option (List ℕ)) → IsRuleLine line rule name → ((n : List ℕ) → name ≡ Some n → wmm_of_name n above ≢ None)
    → NamesNoWmm above line → ⊥
has_wmm above line rule name is there wrong = there wrong.3 (named_once line rule wrong.1 name wrong.0 wrong.3 is wrong.2 wrong.4) wrong.5

-- no country has too many rules with the line
pub few_rules : (above : List Form) (line : List ℕ) (rule : Rule) (name : Option (List ℕ)) (cs : List Alpha2) → block_of above ≡ OfCountries cs → IsRuleLine line rule name
    → ((code : Alpha2) → Contains cs code → HasTooManyRules (RuleLine rule name ∷ above) code → ⊥) → MakesTooMany above line → ⊥
few_rules above line rule name cs block is none m =
    let codes = same_codes_block m.3 cs (sym m.4 ∙ block) in
    let form = IsForm-unique line (RuleLine m.0 m.1) (RuleLine rule name) m.2 is in
    none m.5 (subst (λ xs. Contains xs m.5) codes m.6) (subst (λ f. HasTooManyRules (f ∷ above) m.5) form m.7)

pub good_rule : (above : List Form) (line : List ℕ) (rule : Rule) (name : Option (List ℕ)) (cs : List Alpha2) → block_of above ≡ OfCountries cs → IsRuleLine line rule name
    → (NamesNoWmm above line → ⊥) → (MakesTooMany above line → ⊥) → IsRight above line
good_rule above line rule name cs block is there few = good above line (rule_allows above line cs rule name 18 block is (λ less wrong. there wrong) (λ less wrong. few wrong))
