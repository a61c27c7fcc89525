-- Lists of rules in attributes.
use Rattle.std.specs.Prelude.{◌≡◌, ℕ, ◌+◌, ◌*◌, ◌≤◌, List, [], ◌∷◌, length, map, All, Option, None, Some, IfSome}
use Rattle.freq_range.specs.Valid.{IsValidRule}
use Rattle.freq_range.specs.declared.flags.RuleFlags.{RuleFlags}
use Rattle.freq_range.specs.declared.rule.Rule.{Rule}
use Rattle.nl_attrs.specs.Attributes.{IsAttr, attrs_bytes}
use Rattle.nl_attrs.specs.Nesting.{nested_with}
use Rattle.nl_attrs.specs.declared.attr.Attr.{Attr}
use Rattle.nl80211_cmds.specs.Values.{AreFourZeros, bit_of, number_attr, payload_of, TellsNumber}
use Rattle.nl80211_cmds.specs.declared.limits.Limits.{Limits}
use Rattle.nl80211_cmds.specs.declared.attribute.TheConstants.{RULE_FLAGS, RULE_START, RULE_END, RULE_MAX_BW, RULE_MAX_ANT_GAIN, RULE_MAX_EIRP, RULE_CAC_TIME}

-- the bits of a rule's flags
abbrev pub flag_bits : RuleFlags → ℕ
flag_bits f = bit_of f.no_ofdm + 8 * bit_of f.no_outdoor + 16 * bit_of f.dfs + 128 * bit_of f.no_ir + 2048 * bit_of f.auto_bw

-- what the attributes of a rule say of it: flags, kHz and mBm; no other bits are set
pub record TellsLimits (attrs : List Attr) (rule : Rule) : Type 0 where
  pub flags : TellsNumber (payload_of RULE_FLAGS attrs) 0 4294967295 (flag_bits rule.flags)
  pub start : TellsNumber (payload_of RULE_START attrs) 0 4294967295 rule.start_khz
  pub end : TellsNumber (payload_of RULE_END attrs) 0 4294967295 rule.end_khz
  pub width : TellsNumber (payload_of RULE_MAX_BW attrs) 0 4294967295 rule.max_bw_khz
  pub power : TellsNumber (payload_of RULE_MAX_EIRP attrs) 0 65535 rule.eirp_mbm
  pub no_check : rule.cac_s ≡ 0
  pub no_wmm : rule.wmm ≡ None

-- the number is 0, or there is none
abbrev pub TellsNaught : Option (List ℕ) → Type 0
TellsNaught payload = IfSome payload AreFourZeros

-- a valid rule without gain and without a check time of its own
pub record TellsRule (attrs : List Attr) (rule : Rule) : Type 0 where
  pub limits : TellsLimits attrs rule
  pub gain : TellsNaught (payload_of RULE_MAX_ANT_GAIN attrs)
  pub check : TellsNaught (payload_of RULE_CAC_TIME attrs)
  pub valid : IsValidRule rule

-- the payload is the attributes of a rule
pub record TellsNested (payload : List ℕ) (rule : Rule) : Type 0 where
  pub attrs : List Attr
  pub each : All IsAttr attrs
  pub told : payload ≡ attrs_bytes attrs
  pub rule_is : TellsRule attrs rule

-- each attribute holds a rule, whatever its kind
abbrev pub EachTells : List Attr → List Rule → Type 0
EachTells [] [] = Unit {0}
EachTells [] (rule ∷ rules) = ⊥
EachTells (a ∷ attrs) [] = ⊥
EachTells (a ∷ attrs) (rule ∷ rules) = TellsNested a.payload rule × EachTells attrs rules

-- 1 to 32 rules
pub record TellsRules (payload : Option (List ℕ)) (rules : List Rule) : Type 0 where
  pub attrs : List Attr
  pub each : All IsAttr attrs
  pub told : payload ≡ Some (attrs_bytes attrs)
  pub rules_are : EachTells attrs rules
  pub some : 1 ≤ length rules
  pub few : length rules ≤ 32

-- ---- the attributes that are written

-- the seven attributes of what a rule or a row allows, without gain
abbrev pub limit_attrs : Limits → List Attr
limit_attrs l =
    number_attr RULE_FLAGS (flag_bits l.flags) ∷ number_attr RULE_START l.start_khz ∷ number_attr RULE_END l.end_khz
    ∷ number_attr RULE_MAX_BW l.width_khz ∷ number_attr RULE_MAX_ANT_GAIN 0 ∷ number_attr RULE_MAX_EIRP l.eirp_mbm
    ∷ number_attr RULE_CAC_TIME l.cac_ms ∷ []

-- limits under the kinds from this one on
abbrev pub nested_limits : ℕ → List Limits → List Attr
nested_limits kind [] = []
nested_limits kind (l ∷ ls) = nested_with kind (attrs_bytes (limit_attrs l)) ∷ nested_limits (kind + 1) ls

-- what a rule of a request allows: it has no check time
abbrev pub limits_of : Rule → Limits
limits_of rule = record { flags = rule.flags; start_khz = rule.start_khz; end_khz = rule.end_khz; width_khz = rule.max_bw_khz; eirp_mbm = rule.eirp_mbm; cac_ms = 0 }

-- the seven attributes of a rule
abbrev pub rule_attrs : Rule → List Attr
rule_attrs rule = limit_attrs (limits_of rule)

-- rules under the kinds from this one on
abbrev pub nested_rules : ℕ → List Rule → List Attr
nested_rules kind rules = nested_limits kind (map limits_of rules)
