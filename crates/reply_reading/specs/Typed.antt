-- What the types say of a reply's parts: each number fits its field, a radio's number is at most 7, a name has 1 to 15 visible bytes.
use Rattle.std.specs.Prelude.{ℕ, ◌^◌, ◌<◌, ◌≤◌, List, length, All, IfSome}
use Rattle.rule_intersect.specs.declared.row.Row.{Row}
use Rattle.chan_def.specs.declared.kind.Kind.{Kind}
use Rattle.chan_flags.specs.Profiles.{IsProfile}
use Rattle.chan_flags.specs.declared.record.Chan.{Chan}
use Rattle.chan_flags.specs.declared.record.Fit.{Fit}
use Rattle.dfs_states.specs.declared.dfs.Dfs.{Dfs}
use Rattle.dfs_states.specs.declared.dfs.Dfs.TheVariants.{Usable, Unavailable, Available}
use Rattle.radio_drv.specs.Names.{IsName}
use Rattle.reg_journal.specs.Requests.{FitsChannelFields, FitsPowerField, IsRadioNo}
use Rattle.reg_journal.specs.declared.effects.Effect.{Effect}
use Rattle.reg_journal.specs.declared.effects.Effect.TheVariants.{Stopped, Dropped, Power as PowerSet}
use Rattle.reg_journal.specs.declared.effects.TheConstants.{MOST_EFFECTS}
use Rattle.reg_journal.specs.declared.refusal.Refusal.{Refusal}
use Rattle.reg_journal.specs.declared.refusal.Refusal.TheVariants.{MomentBack, MomentTooLarge, NoRadio, SlotUsed, NoInterface, NameTaken, RadioLacks, RadioLacksWidth, RadioLacksContext, NoRule, Width, NoOfdm, NoIr, NoOutdoor, Power, RadioLacksRadarWidth, Radar, Unchecked, TooManyRows, TooManyRules, BadRule, ElementShort, ElementOdd}
use Rattle.reg_journal.specs.declared.reply.Answer.{Answer}
use Rattle.reg_journal.specs.declared.reply.Answer.TheVariants.{Started, Checking, Refused}
use Rattle.reg_journal.specs.declared.reply.Reply.{Reply}
use Rattle.reg_journal.specs.declared.reply.Reply.TheVariants.{Plain, Regs, Channels, Radio as OfRadio, Iface}
use Rattle.reg_journal.specs.declared.report.IfaceReport.{IfaceReport}
use Rattle.reg_journal.specs.declared.report.IfaceState.{IfaceState}
use Rattle.reg_journal.specs.declared.report.IfaceState.TheVariants.{Idle, Checking as ChecksOn, Running}
use Rattle.reg_journal.specs.declared.report.RadioReport.{RadioReport}
use Rattle.reg_journal.specs.declared.report.Section.{Section}

-- ---- plain replies

abbrev pub IsTypedRefusal : Refusal → Type 0
IsTypedRefusal (MomentBack now) = now < 2 ^ 64
IsTypedRefusal (MomentTooLarge asked) = asked < 2 ^ 64
IsTypedRefusal (NoRadio radio) = IsRadioNo radio
IsTypedRefusal (SlotUsed radio) = IsRadioNo radio
IsTypedRefusal (NoInterface name) = IsName name
IsTypedRefusal (NameTaken name) = IsName name
IsTypedRefusal (RadioLacks khz) = khz < 2 ^ 32
IsTypedRefusal (RadioLacksWidth mhz) = mhz < 2 ^ 16
IsTypedRefusal (RadioLacksContext contexts) = contexts < 2 ^ 8
IsTypedRefusal (NoRule khz) = khz < 2 ^ 32
IsTypedRefusal (Width khz) = khz < 2 ^ 32
IsTypedRefusal (NoOfdm khz) = khz < 2 ^ 32
IsTypedRefusal (NoIr khz) = khz < 2 ^ 32
IsTypedRefusal (NoOutdoor khz) = khz < 2 ^ 32
IsTypedRefusal (Power limit) = limit < 2 ^ 16
IsTypedRefusal (RadioLacksRadarWidth mhz) = mhz < 2 ^ 16
IsTypedRefusal (Radar khz) = khz < 2 ^ 32
IsTypedRefusal (Unchecked khz) = khz < 2 ^ 32
IsTypedRefusal (TooManyRows rows) = rows < 2 ^ 64
IsTypedRefusal (TooManyRules rules) = rules < 2 ^ 64
IsTypedRefusal (BadRule place) = place < 2 ^ 64
IsTypedRefusal (ElementShort bytes) = bytes < 2 ^ 64
IsTypedRefusal (ElementOdd bytes) = bytes < 2 ^ 64
IsTypedRefusal refusal = Unit {0}

abbrev pub IsTypedAnswer : Answer → Type 0
IsTypedAnswer (Started power) = power < 2 ^ 16
IsTypedAnswer (Checking length) = length < 2 ^ 32
IsTypedAnswer (Refused refusal) = IsTypedRefusal refusal
IsTypedAnswer answer = Unit {0}

abbrev pub IsTypedEffect : Effect → Type 0
IsTypedEffect (Stopped name) = IsName name
IsTypedEffect (Dropped name) = IsName name
IsTypedEffect (PowerSet name power) = IsName name × (power < 2 ^ 16)

-- ---- dumps

pub record IsTypedRow (row : Row) : Type 0 where
  pub start : row.start_khz < 2 ^ 32
  pub end : row.end_khz < 2 ^ 32
  pub width : row.width_khz < 2 ^ 32
  pub power : row.eirp_mbm < 2 ^ 16
  pub cac : row.cac_ms < 2 ^ 32

-- the radio, if the section is one's, and the rows
pub record IsTypedSection (section : Section) : Type 0 where
  pub radio : IfSome section.radio IsRadioNo
  pub rows : All IsTypedRow section.rows

pub record IsTypedFit (fit : Fit) : Type 0 where
  pub limit : fit.limit_mbm < 2 ^ 16
  pub check : fit.check_ms < 2 ^ 32
  pub width : fit.width_khz < 2 ^ 32

abbrev pub IsTypedDfs : Dfs → Type 0
IsTypedDfs Usable = Unit {0}
IsTypedDfs (Unavailable until) = until < 2 ^ 64
IsTypedDfs (Available since) = since < 2 ^ 64

abbrev pub IsTypedChannel : Chan × Dfs → Type 0
IsTypedChannel (chan, dfs) = (chan.khz < 2 ^ 32) × IfSome chan.fit IsTypedFit × IsTypedDfs dfs

-- an interface of a radio
abbrev pub IsTypedIface : List ℕ × ℕ × Kind → Type 0
IsTypedIface (name, index, kind) = IsName name × (index < 2 ^ 32)

pub record IsTypedRadio (report : RadioReport) : Type 0 where
  pub radio : IsRadioNo report.radio
  pub profile : IsProfile report.profile
  pub ifaces : All IsTypedIface report.ifaces

abbrev pub IsTypedState : IfaceState → Type 0
IsTypedState Idle = Unit {0}
IsTypedState (ChecksOn chan until) = FitsChannelFields chan × (until < 2 ^ 64)
IsTypedState (Running chan power) = FitsChannelFields chan × (power < 2 ^ 16)

pub record IsTypedReport (report : IfaceReport) : Type 0 where
  pub name : IsName report.name
  pub index : report.index < 2 ^ 32
  pub radio : IsRadioNo report.radio
  pub setting : FitsPowerField report.setting
  pub state : IsTypedState report.state

-- ---- replies

abbrev pub IsTypedReply : Reply → Type 0
IsTypedReply (Plain answer effects) = IsTypedAnswer answer × (length effects ≤ MOST_EFFECTS) × All IsTypedEffect effects
IsTypedReply (Regs sections) = All IsTypedSection sections
IsTypedReply (Channels radio list) = IsRadioNo radio × All IsTypedChannel list
IsTypedReply (OfRadio report) = IsTypedRadio report
IsTypedReply (Iface report) = IsTypedReport report
