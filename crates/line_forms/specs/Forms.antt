-- Which lines have a form, and which requests they ask.
use Rattle.std.specs.Prelude.{◌≡◌, ℕ, ◌<◌, ◌≤◌, ◌⊎◌, ◌==◌, Bool, true, false, List, [], ◌∷◌, length, codes, Some}
use Rattle.std.specs.List.{AllZip, flat_map, slice_split}
use Rattle.line_forms.specs.declared.rules.TheConstants.{MOST_RULES}
use Rattle.freq_range.specs.declared.rule.Rule.{Rule}
use Rattle.text_lines.specs.LineFaults.{IsTextOfRule}
use Rattle.chan_def.specs.declared.kind.Kind.TheVariants.{Ap, Ibss, Mesh, Station, Monitor}
use Rattle.chan_flags.specs.declared.verdict.PowerSetting.TheVariants.{Auto, Limit, Fixed as FixedPower}
use Rattle.reg_journal.specs.declared.request.Request.{Request}
use Rattle.reg_journal.specs.declared.request.Request.TheVariants.{At as AskAt, RadioAdd as AskRadioAdd, RadioDel as AskRadioDel, RadioRules as AskRadioRules, Element as AskElement, DriverHint as AskDriverHint, UserHint as AskUserHint, Radar as AskRadar, Indoor as AskIndoor, IfaceAdd as AskIfaceAdd, IfaceDel as AskIfaceDel, SetType as AskSetType, SetPower as AskSetPower, Start as AskStart, Stop as AskStop, Check as AskCheck, GetReg as AskGetReg, Channels as AskChannels, RadioInfo as AskRadioInfo, IfaceInfo as AskIfaceInfo}
use Rattle.line_forms.specs.Rows.{slots}
use Rattle.line_forms.specs.Slots.{Fills}
use Rattle.line_forms.specs.Spelling.{hex_bytes, radio_of_word}
use Rattle.line_forms.specs.Told.{Told, nothing, with_marks}
use Rattle.line_forms.specs.declared.form.Extra.{Extra}
use Rattle.line_forms.specs.declared.form.Extra.TheVariants.{Neither, OnlySelf, OnlyDeaf, Both}
use Rattle.line_forms.specs.declared.form.Form.{Form}
use Rattle.line_forms.specs.declared.form.Form.TheVariants.{At, RadioAdd, RadioDel, RadioRules, Element, DriverHint, Radar, IndoorOn, IndoorOff, GetReg, UserHint, RadioInfo, ChannelsOf, IfaceAdd, IfaceInfo, IfaceDel, SetType, SetFreq, SetChannel, PowerAuto, PowerLimit, PowerFixed, CheckFreq, CheckChannel, ApStart, ApStartHead, ApStop, IbssJoin, IbssLeave, MeshJoin, MeshLeave, Connect, Disconnect}
use Rattle.line_forms.specs.declared.slot.Slot.{Slot}

-- ---- words and forms

-- The words stand at the first of these slots. They take what was told from d to e, and the rest of the slots is behind them.
abbrev pub Leads : List (List ℕ) → List Slot → Told → List Slot → Told → Type 0
Leads [] slots d rest e = (slots ≡ rest) × (d ≡ e)
Leads (w ∷ ws) [] d rest e = ⊥
Leads (w ∷ ws) (s ∷ slots) d rest e = (next : Told) × Fills s d w next × Leads ws slots next rest e

-- the words stand at all slots of the form, and tell this
abbrev pub HasForm : List (List ℕ) → Form → Told → Type 0
HasForm words form told = Leads words (slots form) nothing [] told

-- ---- requests

-- whether a radio is self-managed by what stands last of it
abbrev pub is_self : Extra → Bool
is_self Neither = false
is_self OnlySelf = true
is_self OnlyDeaf = false
is_self Both = true

-- whether a radio ignores country elements by what stands last of it
abbrev pub is_deaf : Extra → Bool
is_deaf Neither = false
is_deaf OnlySelf = false
is_deaf OnlyDeaf = true
is_deaf Both = true

-- The request of a line of this form whose words tell this. Lines of rules ask theirs by `RulesOf` below.
abbrev pub request_of : Form → Told → Request
request_of At t = AskAt t.moment
request_of (RadioAdd extra) t = AskRadioAdd t.radio (with_marks (is_self extra) (is_deaf extra) t.profile)
request_of RadioDel t = AskRadioDel t.radio
request_of RadioRules t = AskRadioRules t.radio []
request_of Element t = AskElement t.radio (hex_bytes t.digits)
request_of DriverHint t = AskDriverHint t.radio t.code
request_of (Radar freq) t = AskRadar t.radio t.chan
request_of IndoorOn t = AskIndoor true
request_of IndoorOff t = AskIndoor false
request_of GetReg t = AskGetReg
request_of UserHint t = AskUserHint t.code
request_of RadioInfo t = AskRadioInfo t.radio
request_of ChannelsOf t = AskChannels t.radio
request_of IfaceAdd t = AskIfaceAdd t.radio t.name t.kind
request_of IfaceInfo t = AskIfaceInfo t.name
request_of IfaceDel t = AskIfaceDel t.name
request_of SetType t = AskSetType t.name t.kind
request_of (SetFreq freq) t = AskStart t.name Monitor t.chan
request_of (SetChannel freq) t = AskStart t.name Monitor t.chan
request_of PowerAuto t = AskSetPower t.name Auto
request_of PowerLimit t = AskSetPower t.name (Limit t.power)
request_of PowerFixed t = AskSetPower t.name (FixedPower t.power)
request_of (CheckFreq freq) t = AskCheck t.name t.chan
request_of (CheckChannel freq) t = AskCheck t.name t.chan
request_of (ApStart freq) t = AskStart t.name Ap t.chan
request_of (ApStartHead freq) t = AskStart t.name Ap t.chan
request_of ApStop t = AskStop t.name Ap
request_of (IbssJoin freq) t = AskStart t.name Ibss t.chan
request_of IbssLeave t = AskStop t.name Ibss
request_of (MeshJoin freq) t = AskStart t.name Mesh t.chan
request_of MeshLeave t = AskStop t.name Mesh
request_of Connect t = AskStart t.name Station t.chan
request_of Disconnect t = AskStop t.name Station

-- ---- rules

-- the words, each behind a blank
abbrev pub rules_text : List (List ℕ) → List ℕ
rules_text words = flat_map (λ word. 32 ∷ word) words

-- the parts of the text between `;`
abbrev pub rule_parts : List ℕ → List (List ℕ)
rule_parts text = slice_split (λ b. b == 59) text

-- The text is parts between `;`, at most 32, each the line of one of these rules.
pub record AreRulesOfText (text : List ℕ) (rules : List Rule) : Type 0 where
  pub few : length rules ≤ MOST_RULES
  pub each : AllZip IsTextOfRule (rule_parts text) rules

-- the words are `radio rules`, a radio, and what stands behind it
pub record BeginsRules (words : List (List ℕ)) (radio : ℕ) (rest : List (List ℕ)) : Type 0 where
  pub word : List ℕ
  pub spelled : words ≡ codes "radio" ∷ codes "rules" ∷ word ∷ rest
  pub number : radio_of_word word ≡ Some radio

-- more words stand behind `radio rules` and a radio
abbrev pub BeginsRuleLine : List (List ℕ) → Type 0
BeginsRuleLine words = (radio : ℕ) × (rest : List (List ℕ)) × BeginsRules words radio rest × (0 < length rest)

-- the words ask that the radio gets these rules of its own
pub record RulesOf (words : List (List ℕ)) (q : Request) : Type 0 where
  pub radio : ℕ
  pub rest : List (List ℕ)
  pub rules : List Rule
  pub begins : BeginsRules words radio rest
  pub some : 0 < length rest
  pub are : AreRulesOfText (rules_text rest) rules
  pub asked : q ≡ AskRadioRules radio rules

-- some form has these words, and gives this request
pub record FormOf (words : List (List ℕ)) (q : Request) : Type 0 where
  pub form : Form
  pub told : Told
  pub tells : HasForm words form told
  pub asked : q ≡ request_of form told

-- The words spell the request.
abbrev pub Spells : List (List ℕ) → Request → Type 0
Spells words q = FormOf words q ⊎ RulesOf words q
