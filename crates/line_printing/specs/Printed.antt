-- How the line of a request is printed: the slots of one of the forms, each with the one word that is printed there.
use Rattle.std.specs.Prelude.{◌≡◌, ℕ, ◌+◌, ◌/◌, ◌%◌, ◌==◌, nat_le, cond, Bool, true, false, List, [], ◌∷◌, ◌++◌, None, codes, decimal, if◌then◌else◌}
use Rattle.std.specs.List.{flat_map}
use Rattle.freq_range.specs.declared.rule.Rule.{Rule}
use Rattle.chan_def.specs.Covered.{width_khz}
use Rattle.chan_def.specs.declared.definition.ChanDef.{ChanDef}
use Rattle.chan_def.specs.declared.kind.Kind.{Kind}
use Rattle.chan_def.specs.declared.kind.Kind.TheVariants.{Ap, Ibss, Mesh, Station, Monitor}
use Rattle.chan_def.specs.declared.width.Width.{Width}
use Rattle.chan_def.specs.declared.width.Width.TheVariants.{Noht, W20}
use Rattle.chan_flags.specs.declared.verdict.PowerSetting.{PowerSetting}
use Rattle.chan_flags.specs.declared.verdict.PowerSetting.TheVariants.{Auto, Limit, Fixed as FixedPower}
use Rattle.db_text.specs.PrintedRules.{printed_rule}
use Rattle.iw_dumps.specs.Spelling.{bands_text, code_text, kind_text, radio_text, whole_mhz_text}
use Rattle.reg_journal.specs.declared.request.Request.{Request}
use Rattle.reg_journal.specs.declared.request.Request.TheVariants.{At as AskAt, RadioAdd as AskRadioAdd, RadioDel as AskRadioDel, RadioRules as AskRadioRules, Element as AskElement, DriverHint as AskDriverHint, UserHint as AskUserHint, Radar as AskRadar, Indoor as AskIndoor, IfaceAdd as AskIfaceAdd, IfaceDel as AskIfaceDel, SetType as AskSetType, SetPower as AskSetPower, Start as AskStart, Stop as AskStop, Check as AskCheck, GetReg as AskGetReg, Channels as AskChannels, RadioInfo as AskRadioInfo, IfaceInfo as AskIfaceInfo}
use Rattle.line_forms.specs.Rows.{slots}
use Rattle.line_forms.specs.Slots.{fixed_text}
use Rattle.line_forms.specs.Spelling.{noht}
use Rattle.line_forms.specs.Told.{Told, nothing, tell_chan, tell_code, tell_digits, tell_kind, tell_moment, tell_name, tell_power, tell_profile, tell_radio}
use Rattle.line_forms.specs.declared.form.Extra.{Extra}
use Rattle.line_forms.specs.declared.form.Extra.TheVariants.{Neither, OnlySelf, OnlyDeaf, Both}
use Rattle.line_forms.specs.declared.form.Freq.{Freq}
use Rattle.line_forms.specs.declared.form.Freq.TheVariants.{ByWord, Twenty as ByTwenty, Block}
use Rattle.line_forms.specs.declared.form.Form.{Form}
use Rattle.line_forms.specs.declared.form.Form.TheVariants.{At, RadioAdd, RadioDel, RadioRules, Element, DriverHint, Radar, IndoorOn, IndoorOff, GetReg, UserHint, RadioInfo, ChannelsOf, IfaceAdd, IfaceInfo, IfaceDel, SetType, SetFreq, PowerAuto, PowerLimit, PowerFixed, CheckFreq, ApStart, ApStop, IbssJoin, IbssLeave, MeshJoin, MeshLeave, Connect, Disconnect}
use Rattle.line_forms.specs.declared.slot.Slot.{Slot}
use Rattle.line_forms.specs.declared.slot.Slot.TheVariants.{Fixed, Moment, Radio, Bands as OfBands, Width as OfWidth, RadarWidth, MostPower, Contexts, Rules, Hex, Code, Mhz, ChannelNo, WordForm, Twenty, Wide, Centre, Name, OfKind, Power, Ssid, Interval, Dtim}

-- ---- which form is printed

-- How a channel is printed behind its frequency: `NOHT` where it has no HT, `20` where it has 20 MHz round its control channel, and
-- else its width and its centre.
abbrev pub freq_by : Width → Bool → Freq
freq_by Noht centred = ByWord
freq_by W20 centred = cond centred ByTwenty Block
freq_by width centred = Block

abbrev pub freq_of : ChanDef → Freq
freq_of c = freq_by c.width (c.centre_khz == c.control_khz)

-- what is printed last of a radio
abbrev pub extra_of : Bool → Bool → Extra
extra_of false false = Neither
extra_of true false = OnlySelf
extra_of false true = OnlyDeaf
extra_of true true = Both

-- how an interface of the kind starts to operate on a channel, and how it stops; monitors aren't stopped by a line
abbrev pub start_form : Kind → ChanDef → Form
start_form Ap c = ApStart (freq_of c)
start_form Ibss c = IbssJoin (freq_of c)
start_form Mesh c = MeshJoin (freq_of c)
start_form Station c = Connect
start_form Monitor c = SetFreq (freq_of c)

abbrev pub stop_form : Kind → Form
stop_form Ap = ApStop
stop_form Ibss = IbssLeave
stop_form Mesh = MeshLeave
stop_form Station = Disconnect
stop_form Monitor = Disconnect

-- The form of the line: of those in the table that can say the request, and its channel in that way, the first.
abbrev pub form_of : Request → Form
form_of (AskAt moment) = At
form_of (AskRadioAdd r p) = RadioAdd (extra_of p.self_managed p.deaf)
form_of (AskRadioDel r) = RadioDel
form_of (AskRadioRules r rules) = RadioRules
form_of (AskElement r body) = Element
form_of (AskDriverHint r a) = DriverHint
form_of (AskUserHint a) = UserHint
form_of (AskRadar r c) = Radar (freq_of c)
form_of (AskIndoor true) = IndoorOn
form_of (AskIndoor false) = IndoorOff
form_of (AskIfaceAdd r name kind) = IfaceAdd
form_of (AskIfaceDel name) = IfaceDel
form_of (AskSetType name kind) = SetType
form_of (AskSetPower name Auto) = PowerAuto
form_of (AskSetPower name (Limit power)) = PowerLimit
form_of (AskSetPower name (FixedPower power)) = PowerFixed
form_of (AskStart name kind c) = start_form kind c
form_of (AskStop name kind) = stop_form kind
form_of (AskCheck name c) = CheckFreq (freq_of c)
form_of AskGetReg = GetReg
form_of (AskChannels r) = ChannelsOf
form_of (AskRadioInfo r) = RadioInfo
form_of (AskIfaceInfo name) = IfaceInfo

-- ---- what the line tells

-- the small digit of hexadecimal
abbrev pub hex_digit : ℕ → ℕ
hex_digit n = if nat_le n 9 then 48 + n else 87 + n

-- the two small digits of a byte
abbrev pub hex_pair : ℕ → List ℕ
hex_pair b = hex_digit (b / 16) ∷ hex_digit (b % 16) ∷ []

abbrev pub hex_text : List ℕ → List ℕ
hex_text body = flat_map hex_pair body

-- the digits of the line
abbrev pub hex_digits_of : Request → List ℕ
hex_digits_of (AskElement r body) = hex_text body
hex_digits_of q = []

-- where a request tells nothing, anything stands that a line could tell
abbrev pub untold : Told
untold = tell_digits (codes "00") (tell_chan (noht 1000) nothing)

-- the power of a setting is told, where it has one
abbrev pub setting_told : PowerSetting → Told → Told
setting_told Auto d = d
setting_told (Limit power) d = tell_power power d
setting_told (FixedPower power) d = tell_power power d

-- what the words of the line tell
abbrev pub line_told : Request → Told
line_told (AskAt moment) = tell_moment moment untold
line_told (AskRadioAdd r p) = tell_profile p (tell_radio r untold)
line_told (AskRadioDel r) = tell_radio r untold
line_told (AskRadioRules r rules) = tell_radio r untold
line_told (AskElement r body) = tell_digits (hex_text body) (tell_radio r untold)
line_told (AskDriverHint r a) = tell_code a (tell_radio r untold)
line_told (AskUserHint a) = tell_code a untold
line_told (AskRadar r c) = tell_chan c (tell_radio r untold)
line_told (AskIndoor on) = untold
line_told (AskIfaceAdd r name kind) = tell_kind kind (tell_name name (tell_radio r untold))
line_told (AskIfaceDel name) = tell_name name untold
line_told (AskSetType name kind) = tell_kind kind (tell_name name untold)
line_told (AskSetPower name setting) = setting_told setting (tell_name name untold)
line_told (AskStart name kind c) = tell_chan c (tell_name name untold)
line_told (AskStop name kind) = tell_name name untold
line_told (AskCheck name c) = tell_chan c (tell_name name untold)
line_told AskGetReg = untold
line_told (AskChannels r) = tell_radio r untold
line_told (AskRadioInfo r) = tell_radio r untold
line_told (AskIfaceInfo name) = tell_name name untold

-- the rules that a radio gets
abbrev pub printed_rules_of : Request → List Rule
printed_rules_of (AskRadioRules r rules) = rules
printed_rules_of q = []

-- ---- the words

-- a rule that a line can give: without a check time and without a WMM rule
abbrev pub IsPlainLineRule : Rule → Type 0
IsPlainLineRule rule = (rule.cac_s ≡ 0) × (rule.wmm ≡ None)

-- each rule as it is printed, parted by `; `
abbrev pub rules_line : List Rule → List ℕ
rules_line [] = []
rules_line (rule ∷ rules) = printed_rule rule None ++ flat_map (λ next. codes "; " ++ printed_rule next None) rules

-- The word that is printed at the slot. No form is printed that has the number of a channel; where several words could stand that tell the
-- same, or tell nothing, one is chosen: `NOHT`, `net` for a network or a mesh, an interval of 100, and a DTIM period of 2.
abbrev pub text_at : List Rule → Told → Slot → List ℕ
text_at rules t (Fixed word) = fixed_text word
text_at rules t Moment = decimal t.moment
text_at rules t Radio = radio_text t.radio
text_at rules t OfBands = bands_text t.profile.bands
text_at rules t OfWidth = decimal t.profile.width_mhz
text_at rules t RadarWidth = decimal t.profile.radar_mhz
text_at rules t MostPower = decimal t.profile.power_mbm
text_at rules t Contexts = decimal t.profile.contexts
text_at rules t Rules = rules_line rules
text_at rules t Hex = t.digits
text_at rules t Code = code_text t.code
text_at rules t Mhz = whole_mhz_text t.chan.control_khz
text_at rules t ChannelNo = []
text_at rules t WordForm = codes "NOHT"
text_at rules t Twenty = codes "20"
text_at rules t Wide = decimal (width_khz t.chan.width / 1000)
text_at rules t Centre = whole_mhz_text t.chan.centre_khz
text_at rules t Name = t.name
text_at rules t OfKind = kind_text t.kind
text_at rules t Power = decimal t.power
text_at rules t Ssid = codes "net"
text_at rules t Interval = codes "100"
text_at rules t Dtim = codes "2"

-- the words at the slots, parted by one blank
abbrev pub slot_words : List Rule → Told → List Slot → List ℕ
slot_words rules t [] = []
slot_words rules t (first ∷ slots) = text_at rules t first ++ flat_map (λ slot. 32 ∷ text_at rules t slot) slots

-- The line that is printed for the request.
abbrev pub line_text : Request → List ℕ
line_text q = slot_words (printed_rules_of q) (line_told q) (slots (form_of q))
