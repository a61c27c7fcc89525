-- The rules of accepted lines: at most 128 of a code, and each valid where its WMM rule is.
use Rattle.std.proofs.Common.{◌≡◌, ℕ, ◌≤◌, ◌⊎◌, Bool, true, false, List, [], ◌∷◌, length, Contains, Option, Some, None, IfSome, arith, refl, sym, subst, ◌∙◌, ap, inl, inr, if◌then◌else◌}
use Rattle.std.proofs.lemmas.Bool.{cases_Bool, cases_lt}
use Rattle.std.proofs.lemmas.Option.{none-some}
use Rattle.freq_range.proofs.Members.{Contains-cases, Contains-nothing}
use Rattle.freq_range.specs.Valid.{IsValidRule, IsValidWmm}
use Rattle.freq_range.specs.declared.rule.Rule.{Rule}
use Rattle.freq_range.specs.declared.wmm.Wmm.{Wmm}
use Rattle.rule_tables.specs.FileFormat.{DropsRepeats}
use Rattle.rule_tables.specs.declared.code.Alpha2.{Alpha2}
use Rattle.text_lines.specs.declared.fault.TextKind.TheVariants.{NoBlock, TooManyRules, WmmTwice}
use Rattle.rule_text.specs.Faults.{AreAccepted, IsGoodLine}
use Rattle.rule_text.specs.Forms.{Block, Form, block_of, is_of_code, is_of_name, named_wmm, rules_of, with_named, wmm_of_name}
use Rattle.rule_text.specs.Forms.Block.{NoBlock as NoHeader, OfCountries, OfName}
use Rattle.rule_text.specs.Forms.Form.{Country, Empty, ItemLine, RuleLine, WmmHeader}
use Rattle.text_lines.specs.Lines.{bare}
use Rattle.text_lines.specs.Spelling.{IsRuleLine}
use Rattle.rule_text.proofs.Contexts.{told_in_countries}
use Rattle.rule_text.proofs.FormLaws.{cases_among}
use Rattle.rule_text.proofs.LineForms.{IsSpelledRule-opens}
use Rattle.text_lines.proofs.ValidSpelled.{valid_spelled}
use Rattle.rule_text.proofs.WmmLaws.{cases_name, same_bytes-apart}

-- ---- WMM rules that no further line changes

-- the WMM rule of this name, whose block has ended
abbrev pub IsEnded : List Form → List ℕ → Wmm → Type 0
IsEnded forms name w = (wmm_of_name name forms ≡ Some w) × (is_of_name name (block_of forms) ≡ false)

stays_ended : (line : List ℕ) (form : Form) (above : List Form) (name : List ℕ) (w : Wmm) → IsGoodLine above line form → IsEnded above name w → IsEnded (form ∷ above) name w
stays_ended line Empty above name w good ended = ended
stays_ended line (Country cs region) above name w good ended = (ended.0, refl)
stays_ended line (RuleLine rule other) above name w good ended = ended
stays_ended line (ItemLine item e) above name w good ended = (rw ended.1 ended.0, ended.1)
stays_ended line (WmmHeader other) above name w good ended = elim (cases_name other name) [
  | inl same ↦ absurd (good.good WmmTwice (other, good.is, λ none. none-some w (sym none ∙ subst (λ n. wmm_of_name n above ≡ Some w) (sym same) ended.0)))
  | inr apart ↦ let differ = same_bytes-apart other name apart in (rw differ ended.0, differ)
]

-- the rule is valid where its WMM rule is, and that is one whose block has ended
pub record IsSoundRule (forms : List Form) (r : Rule) : Type 0 where
  pub valid : IfSome r.wmm IsValidWmm → IsValidRule r
  pub ended : IfSome r.wmm (λ w. (name : List ℕ) × IsEnded forms name w)

ended_more : (line : List ℕ) (form : Form) (above : List Form) (o : Option Wmm) → IsGoodLine above line form → IfSome o (λ w. (name : List ℕ) × IsEnded above name w)
    → IfSome o (λ w. (name : List ℕ) × IsEnded (form ∷ above) name w)
ended_more line form above None good ended = tt
ended_more line form above (Some w) good ended = (ended.0, stays_ended line form above ended.0 w good ended.1)

sound_more : (line : List ℕ) (form : Form) (above : List Form) (r : Rule) → IsGoodLine above line form → IsSoundRule above r → IsSoundRule (form ∷ above) r
sound_more line form above r good sound = record {
  valid = sound.valid;
  ended = ended_more line form above r.wmm good sound.ended;
}

-- below a header of countries each block of a WMM rule has ended
named_ended : (above : List Form) (rule : Rule) (name : Option (List ℕ)) (cs : List Alpha2) → block_of above ≡ OfCountries cs
    → IfSome (named_wmm above name) (λ w. (other : List ℕ) × IsEnded (RuleLine rule name ∷ above) other w)
named_ended above rule None cs block = tt
named_ended above rule (Some name) cs block = by_wmm (wmm_of_name name above) refl
  where
    by_wmm : (o : Option Wmm) → wmm_of_name name above ≡ o → IfSome o (λ w. (other : List ℕ) × IsEnded (RuleLine rule (Some name) ∷ above) other w)
    by_wmm None at = tt
    by_wmm (Some w) at = (name, (at, rw block refl))

sound_new : (line : List ℕ) (rule : Rule) (name : Option (List ℕ)) (above : List Form) → IsGoodLine above line (RuleLine rule name)
    → IsSoundRule (RuleLine rule name ∷ above) (with_named above rule name)
sound_new line rule name above good =
    let is : IsRuleLine (bare line) rule name = good.is in
    record {
      valid = valid_spelled (bare line) is.text rule (named_wmm above name) is.is;
      ended = elim (told_in_countries above) [
        | inl inside ↦ named_ended above rule name inside.0 inside.1
        | inr outside ↦ absurd (good.good NoBlock (inl (IsSpelledRule-opens (bare line) is.text rule is.is, outside)))
      ];
    }

pub rules_sound : (lines : List (List ℕ)) (forms : List Form) → AreAccepted lines forms → (code : Alpha2) (r : Rule) → Contains (rules_of code forms) r → IsSoundRule forms r
rules_sound lines [] accepted code r has = absurd (Contains-nothing r has)
rules_sound [] (form ∷ above) accepted code r has = absurd accepted
rules_sound (line ∷ lines) (RuleLine rule name ∷ above) accepted code r has =
    by_test (is_of_code code (block_of above)) has (rules_sound lines above accepted.0 code r)
  where
    by_test : (t : Bool) → Contains (if t then with_named above rule name ∷ rules_of code above else rules_of code above) r → (Contains (rules_of code above) r → IsSoundRule above r)
        → IsSoundRule (RuleLine rule name ∷ above) r
    by_test false has rest = sound_more line (RuleLine rule name) above r accepted.1 (rest has)
    by_test true has rest = elim (Contains-cases (with_named above rule name) (rules_of code above) r has) [
      | inl here ↦ subst (IsSoundRule (RuleLine rule name ∷ above)) here (sound_new line rule name above accepted.1)
      | inr later ↦ sound_more line (RuleLine rule name) above r accepted.1 (rest later)
    ]
rules_sound (line ∷ lines) (form ∷ above) accepted code r has = sound_more line form above r accepted.1 (rules_sound lines above accepted.0 code r has)

-- ---- at most 128 rules

open_codes : (code : Alpha2) (block : Block) → is_of_code code block ≡ true → (cs : List Alpha2) × (block ≡ OfCountries cs) × Contains cs code
open_codes code NoHeader is = absurd cc
open_codes code (OfName name) is = absurd cc
open_codes code (OfCountries cs) is = elim (cases_among code cs) [
  | inl among ↦ (cs, refl, among.0)
  | inr none ↦ absurd (let other = none.1 in cc)
]

closed_rules : (code : Alpha2) (rule : Rule) (name : Option (List ℕ)) (above : List Form) → is_of_code code (block_of above) ≡ false
    → rules_of code (RuleLine rule name ∷ above) ≡ rules_of code above
closed_rules code rule name above is = rw is refl

pub few_rules : (lines : List (List ℕ)) (forms : List Form) → AreAccepted lines forms → (code : Alpha2) (kept : List Rule)
    → DropsRepeats (rules_of code forms) kept → length kept ≤ 128
few_rules lines [] accepted code kept drops = let none = ap length drops in omega (arith, none)
few_rules [] (form ∷ above) accepted code kept drops = absurd accepted
few_rules (line ∷ lines) (RuleLine rule name ∷ above) accepted code kept drops =
    by_test (cases_Bool (is_of_code code (block_of above))) (few_rules lines above accepted.0 code kept)
  where
    by_test : (is_of_code code (block_of above) ≡ true) ⊎ (is_of_code code (block_of above) ≡ false)
        → (DropsRepeats (rules_of code above) kept → length kept ≤ 128) → length kept ≤ 128
    by_test (inr closed) rest = rest (subst (λ rules. DropsRepeats rules kept) (closed_rules code rule name above closed) drops)
    by_test (inl opened) rest = elim (cases_lt 128 (length kept)) [
      | inr few ↦ few
      | inl many ↦ let codes = open_codes code (block_of above) opened in
          absurd (accepted.1.good TooManyRules (rule, name, accepted.1.is, codes.0, codes.1, code, codes.2, (kept, drops, many)))
    ]
few_rules (line ∷ lines) (form ∷ above) accepted code kept drops = few_rules lines above accepted.0 code kept drops
