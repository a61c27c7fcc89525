-- What is wrong with a line: the first kind of a list that applies to it, below the lines above it.
use Rattle.std.specs.Prelude.{◌≡◌, ◌≢◌, ℕ, ◌<◌, ◌⊎◌, List, [], ◌∷◌, length, Contains, Option, Some, None, IsUtf8}
use Rattle.reg_base.specs.declared.limits.TheConstants.{MOST_LINE_BYTES}
use Rattle.freq_range.specs.Valid.{IsValidEntry}
use Rattle.freq_range.specs.declared.rule.Rule.{Rule}
use Rattle.freq_range.specs.declared.wmm.WmmEntry.{WmmEntry}
use Rattle.rule_tables.specs.FileFormat.{DropsRepeats}
use Rattle.rule_tables.specs.declared.code.Alpha2.{Alpha2}
use Rattle.rule_tables.specs.declared.code.Region.{Region}
use Rattle.text_lines.specs.declared.fault.TextKind.{TextKind}
use Rattle.text_lines.specs.declared.fault.TextKind.TheVariants.{LineTooLong, NotUtf8, BadLine, NoBlock, BadCountry, BadRegion, RegionDiffers, BadBand, BadPower, BadFlag, FlagNotInVersion, NoWmm, BadWmm, WmmTwice, TooManyRules}
use Rattle.text_lines.specs.declared.form.Item.{Item}
use Rattle.text_lines.specs.declared.form.Opening.{Opening}
use Rattle.text_lines.specs.declared.form.Opening.TheVariants.{Country as OfCountry, Rule as OfRule, Wmm as OfWmm, Item as OfItem}
use Rattle.rule_text.specs.Forms.{Form, IsForm, NamesCode, block_of, item_entry, rules_of, wmm_of_name}
use Rattle.rule_text.specs.Forms.Block.{OfCountries, OfName}
use Rattle.rule_text.specs.Forms.Form.{RuleLine}
use Rattle.text_lines.specs.LineFaults.{HasUnkeptFlag, LacksBand, LacksPower, LacksWords, place_of_kind}
use Rattle.text_lines.specs.Lines.{bare}
use Rattle.text_lines.specs.Spelling.{HasCodes, IsHeader, IsItemLine, IsRuleLine, IsSpelledRule, IsWmmHeader, Opens, RuleText, names_in}

-- ---- the context of a line

-- the last header above is one of countries
abbrev pub IsInCountries : List Form → Type 0
IsInCountries above = (cs : List Alpha2) × (block_of above ≡ OfCountries cs)

-- the last header above is a WMM rule's
abbrev pub IsInWmm : List Form → Type 0
IsInWmm above = (name : List ℕ) × (block_of above ≡ OfName name)

-- an earlier header has one of the codes, with another region
abbrev pub IsContradicted : List Form → List Alpha2 → Region → Type 0
IsContradicted above cs region = (code : Alpha2) × (other : Region) × Contains cs code × NamesCode above code other × (other ≢ region)

-- the line names a WMM rule that no line above is the header of
abbrev pub NamesNoWmm : List Form → List ℕ → Type 0
NamesNoWmm above line =
    (t : RuleText) × (rule : Rule) × IsSpelledRule line t rule × (name : List ℕ) × Contains (names_in t.words) name × (wmm_of_name name above ≡ None)

-- the open WMM rule has the item
abbrev pub HasItem : List Form → Item → Type 0
HasItem above item = (name : List ℕ) × (block_of above ≡ OfName name) × (wmm : _) × (wmm_of_name name above ≡ Some wmm) × IsValidEntry (item_entry item wmm)

-- with these lines the code has more than 128 rules, each counted once
abbrev pub HasTooManyRules : List Form → Alpha2 → Type 0
HasTooManyRules forms code = (kept : List Rule) × DropsRepeats (rules_of code forms) kept × (128 < length kept)

-- some country of the last header has too many rules with this line
abbrev pub MakesTooMany : List Form → List ℕ → Type 0
MakesTooMany above line =
    (rule : Rule) × (name : Option (List ℕ)) × IsRuleLine line rule name
    × (cs : List Alpha2) × (block_of above ≡ OfCountries cs) × (code : Alpha2) × Contains cs code × HasTooManyRules (RuleLine rule name ∷ above) code

-- ---- the kinds

-- the kind applies to a line whose comment and blanks are dropped
abbrev pub IsWrong : List Form → List ℕ → TextKind → Type 0
IsWrong above line BadLine = (line ≢ []) × ((opening : Opening) → Opens line opening → ⊥)
IsWrong above line NoBlock =
    (Opens line OfRule × (IsInCountries above → ⊥)) ⊎ ((item : Item) × Opens line (OfItem item) × (IsInWmm above → ⊥))
IsWrong above line BadCountry = Opens line OfCountry × ((cs : List Alpha2) (rest : List ℕ) → HasCodes line cs rest → ⊥)
IsWrong above line BadRegion = Opens line OfCountry × ((cs : List Alpha2) (region : Region) → IsHeader line cs region → ⊥)
IsWrong above line RegionDiffers = (cs : List Alpha2) × (region : Region) × IsHeader line cs region × IsContradicted above cs region
IsWrong above line BadBand = Opens line OfRule × LacksBand line
IsWrong above line BadPower = Opens line OfRule × LacksPower line
IsWrong above line BadFlag = Opens line OfRule × LacksWords line
IsWrong above line FlagNotInVersion = HasUnkeptFlag line
IsWrong above line NoWmm = NamesNoWmm above line
IsWrong above line BadWmm =
    (Opens line OfWmm × ((name : List ℕ) → IsWmmHeader line name → ⊥))
    ⊎ ((item : Item) × Opens line (OfItem item) × (((e : WmmEntry) → IsItemLine line item e → ⊥) ⊎ HasItem above item))
IsWrong above line WmmTwice = (name : List ℕ) × IsWmmHeader line name × (wmm_of_name name above ≢ None)
IsWrong above line TooManyRules = MakesTooMany above line
IsWrong above line kind = ⊥

-- the kind applies to a line as it stands in the text
abbrev pub Applies : List Form → List ℕ → TextKind → Type 0
Applies above line LineTooLong = MOST_LINE_BYTES < length line
Applies above line NotUtf8 = IsUtf8 line → ⊥
Applies above line kind = IsWrong above (bare line) kind

-- what is wrong with the line: the first kind that applies
pub record IsLineFault (above : List Form) (line : List ℕ) (kind : TextKind) : Type 0 where
  pub applies : Applies above line kind
  pub first : (other : TextKind) → place_of_kind other < place_of_kind kind → Applies above line other → ⊥

-- the line has the form, and nothing is wrong with it
pub record IsGoodLine (above : List Form) (line : List ℕ) (form : Form) : Type 0 where
  pub is : IsForm (bare line) form
  pub good : (kind : TextKind) → Applies above line kind → ⊥

-- the lines, the last one first, have these forms, and nothing is wrong with any
abbrev pub AreAccepted : List (List ℕ) → List Form → Type 0
AreAccepted [] [] = Unit {0}
AreAccepted [] (form ∷ above) = ⊥
AreAccepted (line ∷ lines) [] = ⊥
AreAccepted (line ∷ lines) (form ∷ above) = AreAccepted lines above × IsGoodLine above line form
