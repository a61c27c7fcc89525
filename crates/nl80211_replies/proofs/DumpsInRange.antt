-- The messages of dumps fit their fields.
use Rattle.std.proofs.Common.{◌≡◌, ℕ, ◌<◌, ◌≤◌, List, [], ◌∷◌, ◌++◌, map, All, Option, Some, None, true, refl, arith, subst, sym}
use Rattle.std.specs.List.{list_all}
use Rattle.std.proofs.lemmas.List.Elements.{All-append, All-cons, All-head, All-nil, All-tail}
use Rattle.chan_flags.specs.declared.record.Chan.{Chan}
use Rattle.chan_flags.specs.declared.record.Fit.{Fit}
use Rattle.chan_flags.specs.declared.verdict.PowerSetting.{PowerSetting}
use Rattle.chan_flags.specs.declared.verdict.PowerSetting.TheVariants.{Auto, Limit, Fixed}
use Rattle.dfs_states.specs.declared.dfs.Dfs.{Dfs}
use Rattle.dfs_states.specs.declared.dfs.Dfs.TheVariants.{Usable, Unavailable, Available}
use Rattle.nl_attrs.specs.Messages.{IsInRange, pid_of, seq_of}
use Rattle.nl_attrs.specs.declared.attr.Attr.{Attr}
use Rattle.nl_attrs.specs.declared.message.Msg.{Msg}
use Rattle.reg_journal.specs.declared.reply.Reply.{Reply}
use Rattle.reg_journal.specs.declared.reply.Reply.TheVariants.{Plain, Regs, Channels, Radio, Iface}
use Rattle.reg_journal.specs.declared.report.IfaceReport.{IfaceReport}
use Rattle.reg_journal.specs.declared.report.RadioReport.{RadioReport}
use Rattle.reg_journal.specs.declared.report.Section.{Section}
use Rattle.nl80211_cmds.specs.Fields.{power_attrs}
use Rattle.nl80211_cmds.specs.declared.attribute.TheConstants.{TX_POWER_LEVEL, TX_POWER_SETTING}
use Rattle.nl80211_cmds.proofs.InRange.{has_kind, kinds}
use Rattle.nl80211_replies.specs.Dumps.{channel_attrs, dfs_attrs, dump_message, dump_messages, fit_attrs, iface_attrs, radio_attrs, radio_part, reply_messages, section_attrs}
use Rattle.nl80211_replies.proofs.InRange.{plain_in_range}

abbrev HaveKinds : List Attr → Type 0
HaveKinds attrs = list_all has_kind attrs ≡ true

section_kinds : (radio : Option ℕ) (rest : List Attr) → HaveKinds rest → HaveKinds (radio_part radio ++ rest)
section_kinds None rest has = has
section_kinds (Some r) rest has = has

fit_kinds : (fit : Option Fit) (rest : List Attr) → HaveKinds rest → HaveKinds (fit_attrs fit ++ rest)
fit_kinds None rest has = has
fit_kinds (Some fit) rest has = has

dfs_kinds : (dfs : Dfs) → HaveKinds (dfs_attrs dfs)
dfs_kinds Usable = refl
dfs_kinds (Unavailable until) = refl
dfs_kinds (Available since) = refl

power_kinds : (power : PowerSetting) (rest : List Attr) → HaveKinds rest → HaveKinds (power_attrs TX_POWER_SETTING TX_POWER_LEVEL power ++ rest)
power_kinds Auto rest has = has
power_kinds (Limit p) rest has = has
power_kinds (Fixed p) rest has = has

-- each list of attributes is one of these
all_sections : (sections : List Section) → All HaveKinds (map section_attrs sections)
all_sections [] = All-nil HaveKinds
all_sections (s ∷ ss) = All-cons HaveKinds (section_attrs s) (map section_attrs ss) (section_kinds s.radio _ refl) (all_sections ss)

all_channels : (r : ℕ) (list : List (Chan × Dfs)) → All HaveKinds (map (channel_attrs r) list)
all_channels r [] = All-nil HaveKinds
all_channels r ((chan, dfs) ∷ list) = All-cons HaveKinds (channel_attrs r (chan, dfs)) (map (channel_attrs r) list) (fit_kinds chan.fit (dfs_attrs dfs) (dfs_kinds dfs)) (all_channels r list)

shown_in_range : (request : Msg) (family command : ℕ) (shown : List (List Attr)) → 16 ≤ family → All HaveKinds shown → All IsInRange (map (dump_message request family command) shown)
shown_in_range request family command [] some have = All-nil IsInRange
shown_in_range request family command (attrs ∷ shown) some have =
    All-cons IsInRange (dump_message request family command attrs) (map (dump_message request family command) shown) (some, kinds attrs (All-head HaveKinds attrs shown have))
    (shown_in_range request family command shown some (All-tail HaveKinds attrs shown have))

dump_in_range : (request : Msg) (family command : ℕ) (shown : List (List Attr)) → 16 ≤ family → All HaveKinds shown → All IsInRange (dump_messages request family command shown)
dump_in_range request family command shown some have =
    All-append IsInRange (map (dump_message request family command) shown) _ (shown_in_range request family command shown some have) (All-cons IsInRange _ [] tt (All-nil IsInRange))

alone : (attrs : List Attr) → HaveKinds attrs → All HaveKinds (attrs ∷ [])
alone attrs has = All-cons HaveKinds attrs [] has (All-nil HaveKinds)

reply_in_range : (request : Msg) (reply : Reply) → All IsInRange (reply_messages request reply)
reply_in_range request (Plain answer effects) = plain_in_range request answer effects
reply_in_range request (Regs sections) = dump_in_range request _ _ (map section_attrs sections) (omega arith) (all_sections sections)
reply_in_range request (Channels r list) = dump_in_range request _ _ (map (channel_attrs r) list) (omega arith) (all_channels r list)
reply_in_range request (Radio report) = dump_in_range request _ _ (radio_attrs report ∷ []) (omega arith) (alone (radio_attrs report) refl)
reply_in_range request (Iface report) = dump_in_range request _ _ (iface_attrs report ∷ []) (omega arith) (alone (iface_attrs report) (power_kinds report.setting _ refl))

pub messages_in_range : (msgs : List Msg) (request : Msg) (reply : Reply) → msgs ≡ reply_messages request reply → All IsInRange msgs
messages_in_range msgs request reply is = let P : List Msg → Type 0 = All IsInRange in subst P (sym is) (reply_in_range request reply)
