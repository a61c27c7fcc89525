-- What a request is: what its types say of its parts, and what they don't.
use Rattle.std.specs.Prelude.{◌≡◌, ℕ, ◌^◌, ◌<◌, ◌≤◌, All, None}
use Rattle.freq_range.specs.declared.rule.Rule.{Rule}
use Rattle.rule_tables.specs.declared.code.Alpha2.{Alpha2}
use Rattle.chan_def.specs.declared.definition.ChanDef.{ChanDef}
use Rattle.chan_flags.specs.Profiles.{IsProfile}
use Rattle.chan_flags.specs.declared.verdict.PowerSetting.{PowerSetting}
use Rattle.chan_flags.specs.declared.verdict.PowerSetting.TheVariants.{Auto, Limit, Fixed}
use Rattle.radio_drv.specs.Names.{IsName}
use Rattle.reg_journal.specs.declared.request.Request.{Request}
use Rattle.reg_journal.specs.declared.request.Request.TheVariants.{At, RadioAdd, RadioDel, RadioRules, Element, DriverHint, UserHint, Radar, Indoor, IfaceAdd, IfaceDel, SetType, SetPower, Start, Stop, Check, GetReg, Channels, RadioInfo, IfaceInfo}

-- the number of one of eight radios
abbrev pub IsRadioNo : ℕ → Type 0
IsRadioNo r = r ≤ 7

-- the code's two characters are bytes
abbrev pub HasByteCode : Alpha2 → Type 0
HasByteCode a = (a.a < 2 ^ 8) × (a.b < 2 ^ 8)

-- the channel's centres fit 32 bits
abbrev pub FitsChannelFields : ChanDef → Type 0
FitsChannelFields c = (c.control_khz < 2 ^ 32) × (c.centre_khz < 2 ^ 32)

-- the rule's numbers fit their fields
pub record FitsRuleFields (r : Rule) : Type 0 where
  pub start : r.start_khz < 2 ^ 32
  pub end : r.end_khz < 2 ^ 32
  pub width : r.max_bw_khz < 2 ^ 32
  pub power : r.eirp_mbm < 2 ^ 16
  pub check : r.cac_s < 2 ^ 16

-- the power fits 16 bits
abbrev pub FitsPowerField : PowerSetting → Type 0
FitsPowerField Auto = Unit {0}
FitsPowerField (Limit power) = power < 2 ^ 16
FitsPowerField (Fixed power) = power < 2 ^ 16

-- Each part is one of its type: a radio's number is at most 7, a name has 1 to 15 visible bytes, and each number fits its field.
abbrev pub IsTyped : Request → Type 0
IsTyped (At moment) = moment < 2 ^ 64
IsTyped (RadioAdd r profile) = IsRadioNo r × IsProfile profile
IsTyped (RadioDel r) = IsRadioNo r
IsTyped (RadioRules r rules) = IsRadioNo r × All FitsRuleFields rules
IsTyped (Element r body) = IsRadioNo r × All (λ byte. byte < 2 ^ 8) body
IsTyped (DriverHint r a) = IsRadioNo r × HasByteCode a
IsTyped (UserHint a) = HasByteCode a
IsTyped (Radar r c) = IsRadioNo r × FitsChannelFields c
IsTyped (Indoor on) = Unit {0}
IsTyped (IfaceAdd r name kind) = IsRadioNo r × IsName name
IsTyped (IfaceDel name) = IsName name
IsTyped (SetType name kind) = IsName name
IsTyped (SetPower name setting) = IsName name × FitsPowerField setting
IsTyped (Start name kind c) = IsName name × FitsChannelFields c
IsTyped (Stop name kind) = IsName name
IsTyped (Check name c) = IsName name × FitsChannelFields c
IsTyped GetReg = Unit {0}
IsTyped (Channels r) = IsRadioNo r
IsTyped (RadioInfo r) = IsRadioNo r
IsTyped (IfaceInfo name) = IsName name

-- What the types don't say: a radio's custom rules carry neither a check time nor a WMM rule.
abbrev pub IsAskable : Request → Type 0
IsAskable (RadioRules r rules) = All (λ rule. (rule.cac_s ≡ 0) × (rule.wmm ≡ None)) rules
IsAskable q = Unit {0}
