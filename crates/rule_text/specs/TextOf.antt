-- Which database a text stands for, and which of its lines is at fault where it stands for none.
use Rattle.std.specs.Prelude.{◌≡◌, ℕ, ◌+◌, ◌<◌, ◌⊎◌, List, [], length, take, reverse, All, Contains, Some, slice_index_or}
use Rattle.freq_range.specs.Valid.{IsValidWmm}
use Rattle.freq_range.specs.declared.wmm.Wmm.{Wmm}
use Rattle.rule_tables.specs.Databases.{IsDb, HasCode}
use Rattle.rule_tables.specs.FileFormat.{DropsRepeats}
use Rattle.rule_tables.specs.declared.code.Alpha2.{Alpha2}
use Rattle.rule_tables.specs.declared.code.Region.{Region}
use Rattle.rule_tables.specs.declared.domain.Domain.{Domain}
use Rattle.rule_text.specs.declared.fault.ParseFault.{ParseFault}
use Rattle.rule_text.specs.declared.fault.ParseFault.TheVariants.{Text, OutOfMemory}
use Rattle.rule_text.specs.declared.fault.TextFault.{TextFault}
use Rattle.text_lines.specs.declared.fault.TextKind.{TextKind}
use Rattle.text_lines.specs.declared.fault.TextKind.TheVariants.{WmmShort, NoRules}
use Rattle.rule_text.specs.Faults.{AreAccepted, IsLineFault}
use Rattle.rule_text.specs.Forms.{Form, NamesCode, form_at, rules_of, wmm_of_name}
use Rattle.rule_text.specs.Forms.Form.{Country, WmmHeader}
use Rattle.text_lines.specs.Lines.{IsReadableLine, text_lines}

-- the domain has the code and the region of headers, and the rules of that code, each once
pub record IsDomainOf (forms : List Form) (d : Domain) : Type 0 where
  pub named : NamesCode forms d.alpha2 d.region
  pub rules : DropsRepeats (rules_of d.alpha2 forms) d.rules

-- Line k, counted from 0, is a header that the lines leave short: a WMM rule's without all eight items, or one that names
-- a country without rules.
abbrev pub IsShortAt : List Form → ℕ → TextKind → Type 0
IsShortAt forms k WmmShort =
    (name : List ℕ) × (form_at forms k ≡ Some (WmmHeader name)) × (wmm : Wmm) × (wmm_of_name name forms ≡ Some wmm) × (IsValidWmm wmm → ⊥)
IsShortAt forms k NoRules =
    (cs : List Alpha2) × (region : Region) × (form_at forms k ≡ Some (Country cs region))
    × (code : Alpha2) × Contains cs code × (rules_of code forms ≡ [])
IsShortAt forms k kind = ⊥

-- lines of these forms stand for a database: it has a domain for each code that a header names, and no others; and no
-- header is left short
pub record FormsStandFor (forms : List Form) (ds : List Domain) : Type 0 where
  pub db : IsDb ds
  pub each : All (IsDomainOf forms) ds
  pub all : (code : Alpha2) (region : Region) → NamesCode forms code region → HasCode ds code
  pub none_short : (k : ℕ) (kind : TextKind) → IsShortAt forms k kind → ⊥

-- The text stands for the database.
abbrev pub TextOf : List ℕ → List Domain → Type 0
TextOf text ds = (forms : List Form) × AreAccepted (reverse (text_lines text)) forms × FormsStandFor forms ds

-- line k, counted from 0, is the first at which something is wrong, and this is wrong with it
pub record IsFirstFault (text : List ℕ) (k : ℕ) (kind : TextKind) : Type 0 where
  pub in_range : k < length (text_lines text)
  pub above : List Form
  pub accepted : AreAccepted (reverse (take k (text_lines text))) above
  pub fault : IsLineFault above (slice_index_or (text_lines text) k []) kind

-- nothing is wrong with any line, and line k is the first header that is left short
pub record IsFirstShort (text : List ℕ) (k : ℕ) (kind : TextKind) : Type 0 where
  pub forms : List Form
  pub accepted : AreAccepted (reverse (text_lines text)) forms
  pub short : IsShortAt forms k kind
  pub first : (j : ℕ) (other : TextKind) → j < k → IsShortAt forms j other → ⊥

-- The fault of the text: the number of its faulty line, counted from 1, and what is wrong with it.
abbrev pub IsTextFault : List ℕ → TextFault → Type 0
IsTextFault text fault = (k : ℕ) × (fault.line ≡ k + 1) × (IsFirstFault text k fault.kind ⊎ IsFirstShort text k fault.kind)

-- the first line of the text is readable
abbrev pub BeginsReadable : List ℕ → Type 0
BeginsReadable text = IsReadableLine (slice_index_or (text_lines text) 0 [])

-- Why a text gives no database. Memory is asked for only where the first line is readable, so `LineTooLong` and `NotUtf8`
-- of the first line are told without it.
abbrev pub IsParseFault : List ℕ → ParseFault → Type 0
IsParseFault text (Text fault) = IsTextFault text fault
IsParseFault text OutOfMemory = BeginsReadable text
