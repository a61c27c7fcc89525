-- Which requests a line of a script can say, and what every reply of a step is like.
use Rattle.std.specs.Prelude.{◌≡◌, ℕ, ◌%◌, ◌≤◌, ◌⊎◌, List, [], length, All, None}
use Rattle.freq_range.specs.Channels.{IsCentre}
use Rattle.freq_range.specs.Valid.{IsValidRule}
use Rattle.freq_range.specs.declared.rule.Rule.{Rule}
use Rattle.rule_intersect.specs.declared.row.Row.{Row}
use Rattle.rule_intersect.specs.declared.table.TheConstants.{MOST_ROWS}
use Rattle.rule_tables.specs.Code.{IsCapital, IsCode}
use Rattle.rule_tables.specs.declared.code.Alpha2.{Alpha2}
use Rattle.chan_def.specs.declared.definition.ChanDef.{ChanDef}
use Rattle.chan_def.specs.declared.kind.Kind.{Kind}
use Rattle.chan_def.specs.declared.kind.Kind.TheVariants.{Station, Monitor}
use Rattle.chan_def.specs.declared.width.Width.TheVariants.{Noht}
use Rattle.chan_flags.specs.declared.record.Chan.{Chan}
use Rattle.dfs_states.specs.declared.dfs.Dfs.{Dfs}
use Rattle.radio_drv.specs.Names.{IsName}
use Rattle.reg_journal.specs.Requests.{IsRadioNo}
use Rattle.reg_journal.specs.declared.effects.Effect.{Effect}
use Rattle.reg_journal.specs.declared.effects.Effect.TheVariants.{Stopped, Dropped, Power as PowerGiven}
use Rattle.reg_journal.specs.Effects.{HasFewEffects}
use Rattle.reg_journal.specs.declared.refusal.Refusal.{Refusal}
use Rattle.reg_journal.specs.declared.refusal.Refusal.TheVariants.{NoInterface, NameTaken, RadioLacks, NoRule, Width, NoOfdm, NoIr, NoOutdoor, Radar as RadarMet, Unchecked, NoCountry}
use Rattle.reg_journal.specs.declared.reply.Answer.{Answer}
use Rattle.reg_journal.specs.declared.reply.Answer.TheVariants.{Ok, Hint, Started, Checking, Refused}
use Rattle.reg_journal.specs.declared.reply.HintAnswer.TheVariants.{Treated}
use Rattle.reg_journal.specs.declared.reply.Reply.{Reply}
use Rattle.reg_journal.specs.declared.reply.Reply.TheVariants.{Plain, Regs, Channels as ShownChannels, Radio as OfRadio, Iface as OfIface}
use Rattle.reg_journal.specs.declared.report.IfaceState.{IfaceState}
use Rattle.reg_journal.specs.declared.report.IfaceState.TheVariants.{Idle, Checking as ChecksOn, Running}
use Rattle.reg_journal.specs.declared.report.Section.{Section}
use Rattle.reg_journal.specs.declared.request.Request.{Request}
use Rattle.reg_journal.specs.declared.request.Request.TheVariants.{At, RadioAdd, RadioDel, RadioRules, Element, DriverHint, UserHint, Radar, Indoor, IfaceAdd, IfaceDel, SetType, SetPower, Start, Stop, Check, GetReg, Channels, RadioInfo, IfaceInfo}

-- ---- requests as lines

-- the frequency, in kHz, is whole MHz
abbrev pub IsWholeMhz : ℕ → Type 0
IsWholeMhz khz = khz % 1000 ≡ 0

-- a line can name the frequency: 1 to 100,000 whole MHz
pub record IsLineFrequency (khz : ℕ) : Type 0 where
  pub whole : IsWholeMhz khz
  pub least : 1000 ≤ khz
  pub most : khz ≤ 100000000

-- a line can name the channel: its control frequency and its centre, which are one where no width is named
pub record IsLineChannel (c : ChanDef) : Type 0 where
  pub control : IsLineFrequency c.control_khz
  pub centre : IsLineFrequency c.centre_khz
  pub alone : c.width ≡ Noht → c.centre_khz ≡ c.control_khz

-- a line can give custom rules: 1 to 32 valid ones, which carry neither a check time nor a WMM rule
abbrev pub AreLineRules : List Rule → Type 0
AreLineRules rules = (1 ≤ length rules) × (length rules ≤ 32) × All (λ rule. IsValidRule rule × (rule.cac_s ≡ 0) × (rule.wmm ≡ None)) rules

-- Some line of a script says the request, where each part is one of its type.
abbrev pub IsLineRequest : Request → Type 0
IsLineRequest (RadioRules r rules) = AreLineRules rules
IsLineRequest (Element r body) = (1 ≤ length body) × (length body ≤ 255)
IsLineRequest (DriverHint r a) = IsCode a
IsLineRequest (UserHint a) = IsCode a
IsLineRequest (Radar r c) = IsLineChannel c
IsLineRequest (Start name Station c) = IsLineChannel c × (c.width ≡ Noht)
IsLineRequest (Start name kind c) = IsLineChannel c
IsLineRequest (Stop name Monitor) = ⊥
IsLineRequest (Check name c) = IsLineChannel c
IsLineRequest q = Unit {0}

-- ---- what a reply may carry

-- a capital letter or a digit
abbrev pub IsCodeCharacter : ℕ → Type 0
IsCodeCharacter b = IsCapital b ⊎ ((48 ≤ b) × (b ≤ 57))

-- a code as it is shown: of a domain, of custom rules or of several domains
abbrev pub IsShownCode : Alpha2 → Type 0
IsShownCode a = IsCodeCharacter a.a × IsCodeCharacter a.b

-- the channel's control frequency and its centre are whole MHz
abbrev pub IsWholeChannel : ChanDef → Type 0
IsWholeChannel c = IsWholeMhz c.control_khz × IsWholeMhz c.centre_khz

-- what a refusal carries can be shown: a subchannel in whole MHz, a code, a name
abbrev pub IsShownRefusal : Refusal → Type 0
IsShownRefusal (NoInterface name) = IsName name
IsShownRefusal (NameTaken name) = IsName name
IsShownRefusal (RadioLacks s) = IsWholeMhz s
IsShownRefusal (NoRule s) = IsWholeMhz s
IsShownRefusal (Width s) = IsWholeMhz s
IsShownRefusal (NoOfdm s) = IsWholeMhz s
IsShownRefusal (NoIr s) = IsWholeMhz s
IsShownRefusal (NoOutdoor s) = IsWholeMhz s
IsShownRefusal (RadarMet s) = IsWholeMhz s
IsShownRefusal (Unchecked s) = IsWholeMhz s
IsShownRefusal (NoCountry a) = IsShownCode a
IsShownRefusal e = Unit {0}

-- so can what an answer carries
abbrev pub IsShownAnswer : Answer → Type 0
IsShownAnswer (Refused e) = IsShownRefusal e
IsShownAnswer answer = Unit {0}

-- the effect names its interface
abbrev pub IsShownEffect : Effect → Type 0
IsShownEffect (Stopped name) = IsName name
IsShownEffect (Dropped name) = IsName name
IsShownEffect (PowerGiven name power) = IsName name

-- a section has a code that can be shown, and at most 1,024 rows, without the lengths of their checks
pub record IsShownSection (section : Section) : Type 0 where
  pub code : IsShownCode section.alpha2
  pub few : length section.rows ≤ MOST_ROWS
  pub unchecked : All (λ (row : Row). row.check_ms ≡ 0) section.rows

-- the channel on which an interface checks or operates is whole MHz
abbrev pub IsShownState : IfaceState → Type 0
IsShownState Idle = Unit {0}
IsShownState (ChecksOn c until) = IsWholeChannel c
IsShownState (Running c power) = IsWholeChannel c

-- What each reply of a step is like, and what its text and its messages need: what it carries can be shown, it tells of at most 64
-- effects, a list of sections or of channels isn't empty, and channels are those of the channel table.
abbrev pub IsShownReply : Reply → Type 0
IsShownReply (Plain answer effects) = IsShownAnswer answer × HasFewEffects (Plain answer effects) × All IsShownEffect effects
IsShownReply (Regs sections) = (1 ≤ length sections) × All IsShownSection sections
IsShownReply (ShownChannels r channels) = (1 ≤ length channels) × All (λ (c : Chan × Dfs). IsCentre c.0.khz) channels
IsShownReply (OfRadio report) = IsRadioNo report.radio × All (λ (x : List ℕ × ℕ × Kind). IsName x.0) report.ifaces
IsShownReply (OfIface report) = IsName report.name × IsShownState report.state

-- ---- which form a reply to a request has

-- A reply that a step gives to the request, by its form: a refusal tells of no effect; else each request is answered in its own way.
abbrev pub IsReplyTo : Request → Reply → Type 0
IsReplyTo q (Plain (Refused e) effects) = effects ≡ []
IsReplyTo (RadioDel r) (Plain Ok effects) = Unit {0}
IsReplyTo (RadioRules r rules) (Plain Ok effects) = Unit {0}
IsReplyTo (Radar r c) (Plain Ok effects) = Unit {0}
IsReplyTo (Indoor on) (Plain Ok effects) = Unit {0}
IsReplyTo (IfaceDel name) (Plain Ok effects) = Unit {0}
IsReplyTo (SetPower name setting) (Plain Ok effects) = Unit {0}
IsReplyTo (Element r body) (Plain (Hint (Treated t)) effects) = Unit {0}
IsReplyTo (DriverHint r a) (Plain (Hint answer) effects) = Unit {0}
IsReplyTo (UserHint a) (Plain (Hint (Treated t)) effects) = Unit {0}
IsReplyTo (At moment) (Plain Ok effects) = effects ≡ []
IsReplyTo (RadioAdd r profile) (Plain Ok effects) = effects ≡ []
IsReplyTo (IfaceAdd r name kind) (Plain Ok effects) = effects ≡ []
IsReplyTo (SetType name kind) (Plain Ok effects) = effects ≡ []
IsReplyTo (Stop name kind) (Plain Ok effects) = effects ≡ []
IsReplyTo (Start name kind c) (Plain (Started power) effects) = effects ≡ []
IsReplyTo (Check name c) (Plain (Checking length) effects) = effects ≡ []
IsReplyTo GetReg (Regs sections) = Unit {0}
IsReplyTo (Channels r) (ShownChannels q channels) = q ≡ r
IsReplyTo (RadioInfo r) (OfRadio report) = report.radio ≡ r
IsReplyTo (IfaceInfo name) (OfIface report) = report.name ≡ name
IsReplyTo q reply = ⊥
