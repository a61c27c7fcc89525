-- Dumps as messages: sections of rules, channels, radios and interfaces.
use Rattle.std.specs.Prelude.{ℕ, ◌+◌, ◌/◌, ◌≤◌, pos, List, [], ◌∷◌, ◌++◌, length, map, All, Option, None, Some}
use Rattle.nl_attrs.specs.Attributes.{attrs_bytes}
use Rattle.nl_attrs.specs.Endian.{le64}
use Rattle.nl_attrs.specs.Messages.{pid_of, seq_of}
use Rattle.nl_attrs.specs.Nesting.{nested_with}
use Rattle.nl_attrs.specs.declared.attr.Attr.{Attr}
use Rattle.nl_attrs.specs.declared.message.Msg.{Msg}
use Rattle.nl_attrs.specs.declared.message.Msg.TheVariants.{Done, Generic}
use Rattle.rule_tables.specs.Regions.{region_number}
use Rattle.rule_intersect.specs.declared.row.Row.{Row}
use Rattle.rule_intersect.specs.declared.table.TheConstants.{MOST_ROWS}
use Rattle.chan_def.specs.declared.kind.Kind.{Kind}
use Rattle.chan_flags.specs.declared.record.Chan.{Chan}
use Rattle.chan_flags.specs.declared.record.Fit.{Fit}
use Rattle.dfs_states.specs.declared.dfs.Dfs.{Dfs}
use Rattle.dfs_states.specs.declared.dfs.Dfs.TheVariants.{Usable, Unavailable, Available}
use Rattle.reg_journal.specs.declared.reply.Reply.{Reply}
use Rattle.reg_journal.specs.declared.reply.Reply.TheVariants.{Plain, Regs, Channels, Radio, Iface}
use Rattle.reg_journal.specs.declared.report.IfaceReport.{IfaceReport}
use Rattle.reg_journal.specs.declared.report.IfaceState.{IfaceState}
use Rattle.reg_journal.specs.declared.report.IfaceState.TheVariants.{Idle, Checking, Running}
use Rattle.reg_journal.specs.declared.report.RadioReport.{RadioReport}
use Rattle.reg_journal.specs.declared.report.Section.{Section}
use Rattle.nl80211_cmds.specs.Commands.{command_number, family_number}
use Rattle.nl80211_cmds.specs.Fields.{chan_attrs, power_attrs, profile_attrs, text_attr}
use Rattle.nl80211_cmds.specs.Rules.{flag_bits, nested_limits}
use Rattle.nl80211_cmds.specs.Values.{iftype_number, number_attr, plain_attr}
use Rattle.nl80211_cmds.specs.declared.attribute.TheConstants.{CENTRE, FREQ, IFNAME, IFTYPE, MOMENT, RADIO, REG_ALPHA2, TX_POWER_LEVEL, TX_POWER_SETTING, WIDTH, WIPHY}
use Rattle.nl80211_cmds.specs.declared.command.Command.TheVariants.{GetReg, NewInterface}
use Rattle.nl80211_cmds.specs.declared.family.Family.TheVariants.{Nl80211, Simulation}
use Rattle.nl80211_cmds.specs.declared.limits.Limits.{Limits}
use Rattle.nl80211_replies.specs.Plain.{plain_messages, wide_attr}
use Rattle.nl80211_replies.specs.declared.attribute.TheConstants.{CHANNEL, DFS, DFS_REGION, FLAGS, IFACE, IFINDEX, KIND, LIMIT, MULTI, NAME, NEW_WIPHY, REG_RULES, SIM, STATE, VERSION, WIDTH_KHZ, WIPHY_NAME}

-- ---- sections of rules

-- what a row allows; the check time is the one that the rules say
abbrev pub limits_of_row : Row → Limits
limits_of_row row = record { flags = row.flags; start_khz = row.start_khz; end_khz = row.end_khz; width_khz = row.width_khz; eirp_mbm = row.eirp_mbm; cac_ms = row.cac_ms }

-- the radio of a section that is a radio's
abbrev pub radio_part : Option ℕ → List Attr
radio_part None = []
radio_part (Some r) = number_attr WIPHY r ∷ []

-- a section: its radio, if any, its code, its region and its rows
abbrev pub section_attrs : Section → List Attr
section_attrs section =
    radio_part section.radio ++ text_attr REG_ALPHA2 (section.alpha2.a ∷ section.alpha2.b ∷ []) ∷ plain_attr DFS_REGION (region_number section.region ∷ [])
    ∷ nested_with REG_RULES (attrs_bytes (nested_limits 0 (map limits_of_row section.rows))) ∷ []

-- ---- channels

-- what the rules allow on a channel that fits them
abbrev pub fit_attrs : Option Fit → List Attr
fit_attrs None = []
fit_attrs (Some fit) = number_attr FLAGS (flag_bits fit.flags) ∷ number_attr LIMIT fit.limit_mbm ∷ number_attr WIDTH_KHZ fit.width_khz ∷ wide_attr fit.check_ms ∷ []

-- a moment, in ms
abbrev pub moment_attr : ℕ → Attr
moment_attr ms = plain_attr MOMENT (le64 ms)

-- what is known of radar there
abbrev pub dfs_attrs : Dfs → List Attr
dfs_attrs Usable = plain_attr DFS (0 ∷ []) ∷ []
dfs_attrs (Unavailable until) = plain_attr DFS (1 ∷ []) ∷ moment_attr until ∷ []
dfs_attrs (Available since) = plain_attr DFS (2 ∷ []) ∷ moment_attr since ∷ []

-- a channel of a radio, in MHz
abbrev pub channel_attrs : ℕ → Chan × Dfs → List Attr
channel_attrs r (chan, dfs) = number_attr RADIO r ∷ number_attr FREQ (chan.khz / 1000) ∷ fit_attrs chan.fit ++ dfs_attrs dfs

-- ---- radios

-- an interface of a radio: its name, its number and its kind
abbrev pub iface_attr : List ℕ × ℕ × Kind → Attr
iface_attr (name, index, kind) = nested_with IFACE (attrs_bytes (text_attr NAME name ∷ wide_attr index ∷ number_attr KIND (iftype_number kind) ∷ []))

-- the name of a radio: `phy` and its digit
abbrev pub phy_name : ℕ → List ℕ
phy_name r = 112 ∷ 104 ∷ 121 ∷ (48 + r) ∷ []

-- a radio: its number and name, and with the attributes of simulated radios its profile and its interfaces
abbrev pub radio_attrs : RadioReport → List Attr
radio_attrs report =
    number_attr WIPHY report.radio ∷ text_attr WIPHY_NAME (phy_name report.radio)
    ∷ nested_with SIM (attrs_bytes (profile_attrs report.profile ++ map iface_attr report.ifaces)) ∷ []

-- ---- interfaces

-- what an interface does: nothing (0), a check up to a moment (1), an operation with a power (2)
abbrev pub state_attrs : IfaceState → List Attr
state_attrs Idle = number_attr STATE 0 ∷ []
state_attrs (Checking chan until) = number_attr STATE 1 ∷ chan_attrs FREQ WIDTH CENTRE chan ++ wide_attr until ∷ []
state_attrs (Running chan power) = number_attr STATE 2 ∷ chan_attrs FREQ WIDTH CENTRE chan ++ wide_attr power ∷ []

-- an interface: its radio, its number, its name, its kind, how its power is set, and what it does
abbrev pub iface_attrs : IfaceReport → List Attr
iface_attrs report =
    number_attr WIPHY report.radio ∷ number_attr IFINDEX report.index ∷ text_attr IFNAME report.name ∷ number_attr IFTYPE (iftype_number report.kind)
    ∷ power_attrs TX_POWER_SETTING TX_POWER_LEVEL report.setting ++ nested_with SIM (attrs_bytes (state_attrs report.state)) ∷ []

-- ---- replies

-- a message of the dump that answers the request
abbrev pub dump_message : Msg → ℕ → ℕ → List Attr → Msg
dump_message request family command attrs = Generic family MULTI (seq_of request) (pid_of request) command VERSION attrs

-- a dump: a message for each thing that is shown, and a Done message with code 0
abbrev pub dump_messages : Msg → ℕ → ℕ → List (List Attr) → List Msg
dump_messages request family command shown =
    map (dump_message request family command) shown ++ Done MULTI (seq_of request) (pid_of request) (pos 0) ∷ []

-- the reply fits messages: a section has at most 1,024 rows
abbrev pub FitsMessages : Reply → Type 0
FitsMessages (Regs sections) = All (λ (section : Section). length section.rows ≤ MOST_ROWS) sections
FitsMessages reply = Unit {0}

-- The messages of a reply to the request.
abbrev pub reply_messages : Msg → Reply → List Msg
reply_messages request (Plain answer effects) = plain_messages request answer effects
reply_messages request (Regs sections) = dump_messages request (family_number Nl80211) (command_number GetReg) (map section_attrs sections)
reply_messages request (Channels radio list) = dump_messages request (family_number Simulation) CHANNEL (map (channel_attrs radio) list)
reply_messages request (Radio report) = dump_messages request (family_number Nl80211) NEW_WIPHY (radio_attrs report ∷ [])
reply_messages request (Iface report) = dump_messages request (family_number Nl80211) (command_number NewInterface) (iface_attrs report ∷ [])
