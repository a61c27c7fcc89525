-- What is wrong with a line by itself: what one that is read tells of its form, and why a text isn't the line of a rule.
use Rattle.std.specs.Prelude.{◌≢◌, ℕ, ◌<◌, ◌≤◌, List, [], length, All, None, IsUtf8}
use Rattle.reg_base.specs.declared.limits.TheConstants.{MOST_LINE_BYTES}
use Rattle.freq_range.specs.declared.rule.Rule.{Rule}
use Rattle.rule_tables.specs.declared.code.Alpha2.{Alpha2}
use Rattle.rule_tables.specs.declared.code.Region.{Region}
use Rattle.text_lines.specs.declared.fault.LineStop.{LineStop}
use Rattle.text_lines.specs.declared.fault.LineStop.TheVariants.{Kind, OutOfMemory}
use Rattle.text_lines.specs.declared.fault.RuleTextFault.{RuleTextFault}
use Rattle.text_lines.specs.declared.fault.RuleTextFault.TheVariants.{Kind as RuleKind, OutOfMemory as NoMemory}
use Rattle.text_lines.specs.declared.fault.TextKind.{TextKind}
use Rattle.text_lines.specs.declared.fault.TextKind.TheVariants.{LineTooLong, NotUtf8, BadLine, NoBlock, BadCountry, BadRegion, RegionDiffers, BadBand, BadPower, BadFlag, FlagNotInVersion, NoWmm, BadWmm, WmmTwice, TooManyRules, WmmShort, NoRules}
use Rattle.text_lines.specs.declared.form.Opening.TheVariants.{Rule as OfRule}
use Rattle.text_lines.specs.Lines.{IsReadableLine, bare}
use Rattle.text_lines.specs.Spelling.{BeginsWithBand, BeginsWithPower, HasCodes, IsHeader, IsKeptWord, IsRuleLine, IsSpelledRule, Opens, RuleText, names_in}

-- the place of a kind in the list
abbrev pub place_of_kind : TextKind → ℕ
place_of_kind LineTooLong = 1
place_of_kind NotUtf8 = 2
place_of_kind BadLine = 3
place_of_kind NoBlock = 4
place_of_kind BadCountry = 5
place_of_kind BadRegion = 6
place_of_kind RegionDiffers = 7
place_of_kind BadBand = 8
place_of_kind BadPower = 9
place_of_kind BadFlag = 10
place_of_kind FlagNotInVersion = 11
place_of_kind NoWmm = 12
place_of_kind BadWmm = 13
place_of_kind WmmTwice = 14
place_of_kind TooManyRules = 15
place_of_kind WmmShort = 16
place_of_kind NoRules = 17

-- ---- what is told of a line

-- the line is too long; or it isn't, and isn't UTF-8
abbrev pub IsUnreadable : List ℕ → TextKind → Type 0
IsUnreadable line LineTooLong = MOST_LINE_BYTES < length line
IsUnreadable line NotUtf8 = (length line ≤ MOST_LINE_BYTES) × (IsUtf8 line → ⊥)
IsUnreadable line kind = ⊥

-- no codes stand up to a colon; or some do, and no region and no end follows
abbrev pub IsHeaderKind : List ℕ → TextKind → Type 0
IsHeaderKind line BadCountry = (cs : List Alpha2) (rest : List ℕ) → HasCodes line cs rest → ⊥
IsHeaderKind line BadRegion =
    ((cs : List Alpha2) × (rest : List ℕ) × HasCodes line cs rest) × ((cs : List Alpha2) (region : Region) → IsHeader line cs region → ⊥)
IsHeaderKind line kind = ⊥

-- why the line is read as no header: a kind of fault, or out of memory
abbrev pub IsHeaderStop : List ℕ → LineStop → Type 0
IsHeaderStop line (Kind kind) = IsHeaderKind line kind
IsHeaderStop line OutOfMemory = Unit {0}

-- ---- the line of a rule

-- no valid band stands first
abbrev pub LacksBand : List ℕ → Type 0
LacksBand line = (rest : List ℕ) → BeginsWithBand line rest → ⊥

-- no comma and power follow a band
abbrev pub LacksPower : List ℕ → Type 0
LacksPower line = (rest behind : List ℕ) → BeginsWithBand line rest → BeginsWithPower rest behind → ⊥

-- what follows isn't a list of words
abbrev pub LacksWords : List ℕ → Type 0
LacksWords line = (t : RuleText) (rule : Rule) → IsSpelledRule line t rule → ⊥

-- a flag is there that a file of version 20 has no bit for
abbrev pub HasUnkeptFlag : List ℕ → Type 0
HasUnkeptFlag line = (t : RuleText) × (rule : Rule) × IsSpelledRule line t rule × (All IsKeptWord t.words → ⊥)

-- the first part of the line of a rule that isn't of its form; or all are, and a flag has no bit
abbrev pub IsRuleKind : List ℕ → TextKind → Type 0
IsRuleKind line BadBand = LacksBand line
IsRuleKind line BadPower = ((rest : List ℕ) × BeginsWithBand line rest) × LacksPower line
IsRuleKind line BadFlag = ((rest : List ℕ) × (behind : List ℕ) × BeginsWithBand line rest × BeginsWithPower rest behind) × LacksWords line
IsRuleKind line FlagNotInVersion = HasUnkeptFlag line
IsRuleKind line kind = ⊥

-- ---- one line for itself

-- the kind applies to a text that ought to be the line of one rule, without `wmmrule=`
abbrev pub AppliesToRule : List ℕ → TextKind → Type 0
AppliesToRule line LineTooLong = MOST_LINE_BYTES < length line
AppliesToRule line NotUtf8 = IsUtf8 line → ⊥
AppliesToRule line BadLine = Opens (bare line) OfRule → ⊥
AppliesToRule line BadBand = LacksBand (bare line)
AppliesToRule line BadPower = LacksPower (bare line)
AppliesToRule line BadFlag = (t : RuleText) (rule : Rule) → IsSpelledRule (bare line) t rule → names_in t.words ≢ []
AppliesToRule line FlagNotInVersion = HasUnkeptFlag (bare line)
AppliesToRule line kind = ⊥

-- this kind of fault applies to the line, and none of those before it does
pub record IsRuleTextFault (line : List ℕ) (kind : TextKind) : Type 0 where
  pub applies : AppliesToRule line kind
  pub first : (other : TextKind) → place_of_kind other < place_of_kind kind → AppliesToRule line other → ⊥

-- the text is the line of the rule, without `wmmrule=`
pub record IsTextOfRule (line : List ℕ) (rule : Rule) : Type 0 where
  pub is : IsRuleLine (bare line) rule None
  pub good : (kind : TextKind) → AppliesToRule line kind → ⊥

-- Why a text gives no rule. Memory is asked for only where the line is readable, so `LineTooLong` and `NotUtf8` are told
-- without it.
abbrev pub IsParseRuleFault : List ℕ → RuleTextFault → Type 0
IsParseRuleFault text (RuleKind kind) = IsRuleTextFault text kind
IsParseRuleFault text NoMemory = IsReadableLine text
