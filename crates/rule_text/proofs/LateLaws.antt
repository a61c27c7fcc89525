-- The first header that is left short, by what the parser holds behind the last line.
use Rattle.std.proofs.Common.{◌≡◌, ℕ, ◌+◌, ◌<◌, ◌≤◌, List, [], ◌∷◌, length, Contains, Some, None, All, arith, refl, sym, subst, ◌∙◌, ap, inl, inr}
use Rattle.std.proofs.lemmas.Bool.{cases_lt}
use Rattle.std.proofs.lemmas.Option.{same_Some}
use Rattle.std.proofs.lemmas.List.Elements.{All-contains}
use Rattle.freq_range.proofs.Members.{Contains-head, Contains-nothing}
use Rattle.freq_range.specs.First.{IsFirst}
use Rattle.freq_range.specs.Valid.{IsValidWmm}
use Rattle.freq_range.specs.declared.rule.Rule.{Rule}
use Rattle.rule_tables.proofs.Dropped.{DropsRepeats-keeps}
use Rattle.rule_tables.specs.Code.{IsCode}
use Rattle.rule_tables.specs.FileFormat.{DropsRepeats}
use Rattle.rule_tables.specs.declared.code.Alpha2.{Alpha2}
use Rattle.rule_tables.specs.declared.code.Region.{Region}
use Rattle.rule_text.specs.declared.countries.Country.{Country as Kept}
use Rattle.text_lines.specs.declared.fault.TextKind.{TextKind}
use Rattle.text_lines.specs.declared.fault.TextKind.TheVariants.{NoRules, WmmShort}
use Rattle.rule_text.specs.declared.wmm_rules.WmmBlock.{WmmBlock}
use Rattle.rule_text.specs.Forms.{Form, form_at, rules_of}
use Rattle.rule_text.specs.Forms.Form.{Country}
use Rattle.text_lines.specs.Spelling.{AreCodes}
use Rattle.rule_text.specs.inner.State.{AreAllBlocks, AreAllCountries, AreSound, IsBlockOf, IsFirstShortOf, IsHeaderAt, IsKeptCountry, IsLeastLine, IsWmmHeaderAt}
use Rattle.rule_text.specs.TextOf.{IsShortAt}
use Rattle.rule_text.proofs.Built.{sound_header}
use Rattle.rule_text.proofs.FormLaws.{form_at_contains}

-- the first place is at most any other
first_below : (P : ℕ → Type 0) (k j : ℕ) → IsFirst P k → P j → k ≤ j
first_below P k j first holds = elim (cases_lt j k) [
  | inl below ↦ absurd (first.none_before j below holds)
  | inr above ↦ above
]

header_codes : (forms : List Form) (k : ℕ) (cs : List Alpha2) (region : Region) → AreSound forms → form_at forms k ≡ Some (Country cs region) → AreCodes cs
header_codes forms k cs region sound at = sound_header forms cs region sound (form_at_contains forms k (Country cs region) at)

-- ---- WMM rules

short_block : (forms : List Form) (bs : List WmmBlock) (k : ℕ) → AreAllBlocks forms bs → IsShortAt forms k WmmShort
    → (b : WmmBlock) × Contains bs b × (IsValidWmm b.wmm → ⊥) × (b.line ≤ k + 1)
short_block forms bs k are (name, at, wmm, of, invalid) =
    let found = are.all name (λ none. let e : Some wmm ≡ None = sym of ∙ none in cc) in
    let here = found.2 in
    let same : wmm ≡ found.0.wmm = same_Some _ _ (sym of ∙ here.0) in
    let below = first_below (IsWmmHeaderAt forms name) here.1 k here.3 at in
    (found.0, found.1, subst (λ w. IsValidWmm w → ⊥) same invalid, let line = here.2 in omega (arith, line, below))

block_short : (forms : List Form) (bs : List WmmBlock) (b : WmmBlock) → AreAllBlocks forms bs → Contains bs b → (IsValidWmm b.wmm → ⊥)
    → (k : ℕ) × (b.line ≡ k + 1) × IsShortAt forms k WmmShort
block_short forms bs b are has invalid =
    let at = All-contains (λ block. (name : List ℕ) × IsBlockOf forms name (Some block)) bs b are.each has in
    (at.1.1, at.1.2, (at.0, at.1.3.here, b.wmm, at.1.0, invalid))

-- ---- countries

pub dropped_none : (rules kept : List Rule) → kept ≡ [] → DropsRepeats rules kept → rules ≡ []
dropped_none [] kept none drops = refl
dropped_none (r ∷ rules) kept none drops = absurd (Contains-nothing r (subst (λ ks. Contains ks r) none (DropsRepeats-keeps (r ∷ rules) kept r drops (Contains-head r rules))))

empty_country : (forms : List Form) (cs : List Kept) (k : ℕ) → AreSound forms → AreAllCountries forms cs → IsShortAt forms k NoRules
    → (c : Kept) × Contains cs c × (c.rules ≡ []) × (c.line ≤ k + 1)
empty_country forms cs k sound are (codes, region, at, code, has, none) =
    let is_code = All-contains IsCode codes code (header_codes forms k codes region sound at).each has in
    let found = are.all code region is_code (codes, form_at_contains forms k (Country codes region) at, has) in
    let kept = subst (λ c. IsKeptCountry forms c found.0) found.2 ((All-contains (λ c. IsCode c.alpha2 × IsKeptCountry forms c.alpha2 c) cs found.0 are.each found.1).1) in
    let below = first_below (IsHeaderAt forms code) kept.first_header.0 k kept.first_header.2 (codes, region, at, has) in
    let line = kept.first_header.1 in
    (found.0, found.1, (subst (λ rules. DropsRepeats rules found.0.rules) none kept.rules_are), omega (arith, line, below))

country_empty : (forms : List Form) (cs : List Kept) (c : Kept) → AreAllCountries forms cs → Contains cs c → c.rules ≡ [] → (k : ℕ) × (c.line ≡ k + 1) × IsShortAt forms k NoRules
country_empty forms cs c are has none =
    let kept = (All-contains (λ x. IsCode x.alpha2 × IsKeptCountry forms x.alpha2 x) cs c are.each has).1 in
    let at = kept.first_header.2.here in
    (kept.first_header.0, kept.first_header.1, (at.0, at.1, at.2, c.alpha2, at.3, dropped_none (rules_of c.alpha2 forms) c.rules none kept.rules_are))

-- ---- the first

pub none_short : (forms : List Form) (bs : List WmmBlock) (cs : List Kept) → AreSound forms → AreAllBlocks forms bs → AreAllCountries forms cs
    → All (λ b. IsValidWmm b.wmm) bs → All (λ c. 0 < length c.rules) cs → (k : ℕ) (kind : TextKind) → IsShortAt forms k kind → ⊥
none_short forms bs cs sound blocks countries valid some k WmmShort short =
    let b = short_block forms bs k blocks short in
    b.2 (All-contains (λ x. IsValidWmm x.wmm) bs b.0 valid b.1)
none_short forms bs cs sound blocks countries valid some k NoRules short =
    let c = empty_country forms cs k sound countries short in
    let none = ap length c.2 in
    let rules = All-contains (λ x. 0 < length x.rules) cs c.0 some c.1 in
    omega (arith, none, rules)
none_short forms bs cs sound blocks countries valid some k kind short = absurd short

pub first_is_short : (forms : List Form) (bs : List WmmBlock) (cs : List Kept) (n : ℕ) → AreSound forms → AreAllBlocks forms bs → AreAllCountries forms cs
    → IsLeastLine (λ b. IsValidWmm b.wmm → ⊥) (λ b. b.line) bs n → ((c : Kept) → Contains cs c → c.rules ≡ [] → n ≤ c.line) → IsFirstShortOf forms (record { line = n; kind = WmmShort })
first_is_short forms bs cs n sound blocks countries least others =
    let at = block_short forms bs least.here.0 blocks least.here.1 least.here.2 in
    let line : n ≡ at.0 + 1 = sym least.here.3 ∙ at.1 in
    (at.0, line, at.2, λ j other less short. earlier j other (omega (arith, line, less)) short)
  where
    earlier : (j : ℕ) (other : TextKind) → j + 1 < n → IsShortAt forms j other → ⊥
    earlier j WmmShort less short =
        let b = short_block forms bs j blocks short in
        let above = least.least b.0 b.1 b.2 in
        omega (arith, less, above, b.3)
    earlier j NoRules less short =
        let c = empty_country forms cs j sound countries short in
        let above = others c.0 c.1 c.2 in
        omega (arith, less, above, c.3)
    earlier j kind less short = absurd short

pub first_is_empty : (forms : List Form) (bs : List WmmBlock) (cs : List Kept) (n : ℕ) → AreSound forms → AreAllBlocks forms bs → AreAllCountries forms cs
    → IsLeastLine (λ c. c.rules ≡ []) (λ c. c.line) cs n → ((b : WmmBlock) → Contains bs b → (IsValidWmm b.wmm → ⊥) → n ≤ b.line) → IsFirstShortOf forms (record { line = n; kind = NoRules })
first_is_empty forms bs cs n sound blocks countries least others =
    let at = country_empty forms cs least.here.0 countries least.here.1 least.here.2 in
    let line : n ≡ at.0 + 1 = sym least.here.3 ∙ at.1 in
    (at.0, line, at.2, λ j other less short. earlier j other (omega (arith, line, less)) short)
  where
    earlier : (j : ℕ) (other : TextKind) → j + 1 < n → IsShortAt forms j other → ⊥
    earlier j WmmShort less short =
        let b = short_block forms bs j blocks short in
        let above = others b.0 b.1 b.2 in
        omega (arith, less, above, b.3)
    earlier j NoRules less short =
        let c = empty_country forms cs j sound countries short in
        let above = least.least c.0 c.1 c.2 in
        omega (arith, less, above, c.3)
    earlier j kind less short = absurd short
