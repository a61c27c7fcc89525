-- The messages of replies that can be shown aren't too long.
use Rattle.std.proofs.Common.{◌≡◌, ℕ, ◌+◌, ◌*◌, ◌/◌, ◌≤◌, true, List, [], ◌∷◌, ◌++◌, length, length-append, map, All, Option, Some, None, refl, arith, ltb-true}
use Rattle.std.specs.Prelude.{ℤ, nat_lt, pos, take}
use Rattle.std.specs.Int.{w32, cast_unsigned}
use Rattle.std.specs.List.{list_all}
use Rattle.std.proofs.lemmas.Bool.{and_parts}
use Rattle.std.proofs.lemmas.List.{length-map, length-take}
use Rattle.std.proofs.lemmas.List.Elements.{All-cons, All-head, All-nil, All-tail, All-weaker}
use Rattle.chan_def.specs.declared.definition.ChanDef.{ChanDef}
use Rattle.chan_def.specs.declared.kind.Kind.{Kind}
use Rattle.chan_flags.specs.declared.record.Chan.{Chan}
use Rattle.chan_flags.specs.declared.record.Fit.{Fit}
use Rattle.dfs_states.specs.declared.dfs.Dfs.{Dfs}
use Rattle.dfs_states.specs.declared.dfs.Dfs.TheVariants.{Usable, Unavailable, Available}
use Rattle.radio_drv.specs.Names.{IsName}
use Rattle.rule_tables.specs.Regions.{region_number}
use Rattle.rule_intersect.specs.declared.table.TheConstants.{MOST_ROWS}
use Rattle.nl_attrs.specs.Attributes.{attrs_bytes}
use Rattle.nl_attrs.specs.Endian.{le32, le64}
use Rattle.nl_attrs.specs.Messages.{pid_of, seq_of, spelled}
use Rattle.nl_attrs.specs.Nesting.{nested_with}
use Rattle.nl_attrs.specs.declared.attr.Attr.{Attr}
use Rattle.nl_attrs.specs.declared.message.Msg.{Msg}
use Rattle.nl_attrs.specs.declared.message.Msg.TheVariants.{Generic, Done}
use Rattle.nl_attrs.proofs.Lengths.{length-le32, length-le64, length-spelled}
use Rattle.reg_journal.specs.Codes.{code_of_answer}
use Rattle.reg_journal.specs.Forms.{IsShownAnswer, IsShownEffect, IsShownRefusal, IsShownReply, IsShownSection}
use Rattle.reg_journal.specs.declared.effects.Effect.{Effect}
use Rattle.reg_journal.specs.declared.effects.Effect.TheVariants.{Stopped, Dropped, Power as PowerSet}
use Rattle.reg_journal.specs.declared.refusal.Refusal.{Refusal}
use Rattle.reg_journal.specs.declared.refusal.Refusal.TheVariants.{NoInterface, NameTaken, Full}
use Rattle.reg_journal.specs.declared.reply.Answer.{Answer}
use Rattle.reg_journal.specs.declared.reply.Answer.TheVariants.{Started, Checking, Refused}
use Rattle.reg_journal.specs.declared.reply.Reply.{Reply}
use Rattle.reg_journal.specs.declared.reply.Reply.TheVariants.{Plain, Regs, Channels, Radio, Iface}
use Rattle.reg_journal.specs.declared.report.IfaceReport.{IfaceReport}
use Rattle.reg_journal.specs.declared.report.IfaceState.{IfaceState}
use Rattle.reg_journal.specs.declared.report.IfaceState.TheVariants.{Idle, Checking as ChecksOn, Running}
use Rattle.reg_journal.specs.declared.report.RadioReport.{RadioReport}
use Rattle.reg_journal.specs.declared.report.Section.{Section}
use Rattle.nl80211_cmds.specs.Errors.{error_answer}
use Rattle.nl80211_cmds.specs.Fields.{chan_attrs, power_attrs, profile_attrs, text_attr}
use Rattle.nl80211_cmds.specs.Commands.{command_number, family_number}
use Rattle.nl80211_cmds.specs.Rules.{flag_bits, nested_limits}
use Rattle.nl80211_cmds.specs.Values.{iftype_number, number_attr, plain_attr}
use Rattle.nl80211_cmds.specs.declared.command.Command.TheVariants.{GetReg, NewInterface}
use Rattle.nl80211_cmds.specs.declared.family.Family.TheVariants.{Nl80211, Simulation}
use Rattle.nl80211_cmds.specs.declared.attribute.TheConstants.{CENTRE, FREQ, IFNAME, IFTYPE, RADIO, REG_ALPHA2, TX_POWER_LEVEL, TX_POWER_SETTING, WIDTH, WIPHY}
use Rattle.nl80211_replies.specs.Dumps.{FitsMessages, channel_attrs, dfs_attrs, dump_message, dump_messages, fit_attrs, iface_attr, iface_attrs, limits_of_row, moment_attr, phy_name, radio_attrs, radio_part, reply_messages, section_attrs, state_attrs}
use Rattle.nl80211_replies.specs.Plain.{answer_attrs, answer_errno, answer_value, effect_attr, effect_list, plain_attrs, refusal_value, wide_attr}
use Rattle.nl80211_replies.specs.declared.attribute.TheConstants.{CHANNEL, CODE, DFS, DFS_REGION, FLAGS, IFINDEX, KIND, LIMIT, MULTI, NAME, NEW_WIPHY, REG_RULES, REPLY, SIM, STATE, VERSION, WIDTH_KHZ, WIPHY_NAME}
use Rattle.pack_command.proofs.Lengths.{alone, chan_bytes, bytes_in, bytes_in-append, bytes_in-cons, generic_length, limits_bytes, number_bytes, power_bytes, profile_bytes, three_bytes}
use Rattle.wire_run.specs.inner.Steps.{AreShort}

-- ---- pieces

-- attributes with at most 16 bytes each
small : (attrs : List Attr) → list_all (λ a. nat_lt (length a.payload) 17) attrs ≡ true → bytes_in attrs ≤ 23 * length attrs
small [] h = omega arith
small (a ∷ attrs) h =
    let p = and_parts (nat_lt (length a.payload) 17) (list_all (λ a. nat_lt (length a.payload) 17) attrs) h in
    let few = ltb-true (length a.payload) 17 p.0 in
    omega (arith, few, small attrs p.1, bytes_in-cons a attrs)

wide_bytes : (n : ℕ) → bytes_in (wide_attr n ∷ []) ≤ 15
wide_bytes n = alone (wide_attr n) 8 (omega (arith, length-le64 n))

name_bytes : (kind : ℕ) (name : List ℕ) → IsName name → bytes_in (text_attr kind name ∷ []) ≤ 23
name_bytes kind name is = let few = is.few in alone (text_attr kind name) 16 (omega (arith, few, length-append name (0 ∷ [])))

-- ---- plain replies

refusal_bytes : (e : Refusal) → IsShownRefusal e → bytes_in (refusal_value e) ≤ 23
unfolding le64
refusal_bytes (NoInterface name) is = name_bytes NAME name is
refusal_bytes (NameTaken name) is = name_bytes NAME name is
refusal_bytes Full is = omega arith
refusal_bytes e is = let bytes = small (refusal_value e) refl in omega (arith, bytes)

value_bytes : (answer : Answer) → IsShownAnswer answer → bytes_in (answer_value answer) ≤ 23
value_bytes (Refused e) is = refusal_bytes e is
value_bytes (Started power) is = omega (arith, wide_bytes power)
value_bytes (Checking length) is = omega (arith, wide_bytes length)
value_bytes answer is = omega arith

effect_bytes : (effect : Effect) → IsShownEffect effect → bytes_in (effect_list effect) ≤ 46
effect_bytes (Stopped name) is = omega (arith, bytes_in-append (number_attr CODE 0 ∷ []) (text_attr NAME name ∷ []), number_bytes CODE 0, name_bytes NAME name is)
effect_bytes (Dropped name) is = omega (arith, bytes_in-append (number_attr CODE 1 ∷ []) (text_attr NAME name ∷ []), number_bytes CODE 1, name_bytes NAME name is)
effect_bytes (PowerSet name power) is =
    omega (
      arith,
      bytes_in-append (number_attr CODE 2 ∷ []) (text_attr NAME name ∷ wide_attr power ∷ []),
      bytes_in-append (text_attr NAME name ∷ []) (wide_attr power ∷ []),
      number_bytes CODE 2,
      name_bytes NAME name is,
      wide_bytes power,
    )

effects_bytes : (effects : List Effect) → All IsShownEffect effects → bytes_in (map effect_attr effects) ≤ 53 * length effects
effects_bytes [] shown = omega arith
effects_bytes (effect ∷ effects) shown =
    omega (
      arith,
      effect_bytes effect (All-head IsShownEffect effect effects shown),
      bytes_in-cons (effect_attr effect) (map effect_attr effects),
      effects_bytes effects (All-tail IsShownEffect effect effects shown),
    )

answer_bytes : (answer : Answer) → IsShownAnswer answer → bytes_in (answer_attrs answer) ≤ 34
answer_bytes answer is = omega (arith, value_bytes answer is, bytes_in-append (number_attr CODE (code_of_answer answer) ∷ []) (answer_value answer), number_bytes CODE (code_of_answer answer))

-- ---- dumps

radio_part_bytes : (radio : Option ℕ) → bytes_in (radio_part radio) ≤ 8
radio_part_bytes None = omega arith
radio_part_bytes (Some r) = omega (arith, number_bytes WIPHY r)

section_bytes : (section : Section) → IsShownSection section → bytes_in (section_attrs section) ≤ 65000
section_bytes section is =
    let few = is.few in
    let rules = nested_with REG_RULES (attrs_bytes (nested_limits 0 (map limits_of_row section.rows))) in
    let code = text_attr REG_ALPHA2 (section.alpha2.a ∷ section.alpha2.b ∷ []) in
    let region = plain_attr DFS_REGION (region_number section.region ∷ []) in
    omega (
      arith,
      few,
      bytes_in-append (radio_part section.radio) (code ∷ region ∷ rules ∷ []),
      radio_part_bytes section.radio,
      bytes_in-cons code (region ∷ rules ∷ []),
      bytes_in-cons region (rules ∷ []),
      bytes_in-cons rules [],
      limits_bytes 0 (map limits_of_row section.rows),
      length-map section.rows limits_of_row,
    )

fit_bytes : (fit : Option Fit) → bytes_in (fit_attrs fit) ≤ 39
fit_bytes None = omega arith
fit_bytes (Some fit) =
    omega (
      arith,
      bytes_in-append (number_attr FLAGS (flag_bits fit.flags) ∷ number_attr LIMIT fit.limit_mbm ∷ number_attr WIDTH_KHZ fit.width_khz ∷ []) (wide_attr fit.check_ms ∷ []),
      three_bytes FLAGS (flag_bits fit.flags) LIMIT fit.limit_mbm WIDTH_KHZ fit.width_khz,
      wide_bytes fit.check_ms,
    )

moment_bytes : (ms : ℕ) → bytes_in (moment_attr ms ∷ []) ≤ 15
moment_bytes ms = alone (moment_attr ms) 8 (omega (arith, length-le64 ms))

dfs_bytes : (dfs : Dfs) → bytes_in (dfs_attrs dfs) ≤ 23
dfs_bytes Usable = omega (arith, alone (plain_attr DFS (0 ∷ [])) 1 (omega arith))
dfs_bytes (Unavailable until) = omega (arith, bytes_in-append (plain_attr DFS (1 ∷ []) ∷ []) (moment_attr until ∷ []), alone (plain_attr DFS (1 ∷ [])) 1 (omega arith), moment_bytes until)
dfs_bytes (Available since) = omega (arith, bytes_in-append (plain_attr DFS (2 ∷ []) ∷ []) (moment_attr since ∷ []), alone (plain_attr DFS (2 ∷ [])) 1 (omega arith), moment_bytes since)

channel_bytes : (r : ℕ) (shown : Chan × Dfs) → bytes_in (channel_attrs r shown) ≤ 100
channel_bytes r (chan, dfs) =
    omega (
      arith,
      bytes_in-append (number_attr RADIO r ∷ []) (number_attr FREQ (chan.khz / 1000) ∷ fit_attrs chan.fit ++ dfs_attrs dfs),
      bytes_in-append (number_attr FREQ (chan.khz / 1000) ∷ []) (fit_attrs chan.fit ++ dfs_attrs dfs),
      bytes_in-append (fit_attrs chan.fit) (dfs_attrs dfs),
      number_bytes RADIO r,
      number_bytes FREQ (chan.khz / 1000),
      fit_bytes chan.fit,
      dfs_bytes dfs,
    )

abbrev IsIfaceNamed : List ℕ × ℕ × Kind → Type 0
IsIfaceNamed x = IsName x.0

shown_iface_bytes : (x : List ℕ × ℕ × Kind) → IsIfaceNamed x → bytes_in (iface_attr x ∷ []) ≤ 53
shown_iface_bytes (name, index, kind) is =
    alone (iface_attr (name, index, kind)) 46
    (omega (
      arith,
      bytes_in-append (text_attr NAME name ∷ []) (wide_attr index ∷ number_attr KIND (iftype_number kind) ∷ []),
      bytes_in-append (wide_attr index ∷ []) (number_attr KIND (iftype_number kind) ∷ []),
      name_bytes NAME name is,
      wide_bytes index,
      number_bytes KIND (iftype_number kind),
    ))

ifaces_bytes : (xs : List (List ℕ × ℕ × Kind)) → All IsIfaceNamed xs → bytes_in (map iface_attr xs) ≤ 53 * length xs
ifaces_bytes [] named = omega arith
ifaces_bytes (x ∷ xs) named =
    omega (arith, bytes_in-append (iface_attr x ∷ []) (map iface_attr xs), shown_iface_bytes x (All-head IsIfaceNamed x xs named), ifaces_bytes xs (All-tail IsIfaceNamed x xs named))

radio_bytes : (report : RadioReport) → All IsIfaceNamed report.ifaces → length report.ifaces ≤ 8 → bytes_in (radio_attrs report) ≤ 1000
radio_bytes report named few =
    let shown = nested_with SIM (attrs_bytes (profile_attrs report.profile ++ map iface_attr report.ifaces)) in
    omega (
      arith,
      few,
      bytes_in-append (number_attr WIPHY report.radio ∷ []) (text_attr WIPHY_NAME (phy_name report.radio) ∷ shown ∷ []),
      bytes_in-append (text_attr WIPHY_NAME (phy_name report.radio) ∷ []) (shown ∷ []),
      number_bytes WIPHY report.radio,
      alone (text_attr WIPHY_NAME (phy_name report.radio)) 5 (omega arith),
      bytes_in-cons shown [],
      bytes_in-append (profile_attrs report.profile) (map iface_attr report.ifaces),
      profile_bytes report.profile,
      ifaces_bytes report.ifaces named,
    )

used_bytes : (state n : ℕ) (c : ChanDef) → bytes_in (number_attr STATE state ∷ chan_attrs FREQ WIDTH CENTRE c ++ wide_attr n ∷ []) ≤ 47
used_bytes state n c =
    omega (
      arith,
      bytes_in-append (number_attr STATE state ∷ []) (chan_attrs FREQ WIDTH CENTRE c ++ wide_attr n ∷ []),
      bytes_in-append (chan_attrs FREQ WIDTH CENTRE c) (wide_attr n ∷ []),
      number_bytes STATE state,
      chan_bytes FREQ WIDTH CENTRE c,
      wide_bytes n,
    )

state_bytes : (state : IfaceState) → bytes_in (state_attrs state) ≤ 47
state_bytes Idle = omega (arith, number_bytes STATE 0)
state_bytes (ChecksOn c until) = used_bytes 1 until c
state_bytes (Running c power) = used_bytes 2 power c

iface_bytes : (report : IfaceReport) → IsName report.name → bytes_in (iface_attrs report) ≤ 200
iface_bytes report is =
    let shown = nested_with SIM (attrs_bytes (state_attrs report.state)) in
    let power = power_attrs TX_POWER_SETTING TX_POWER_LEVEL report.setting in
    let kind = number_attr IFTYPE (iftype_number report.kind) in
    omega (
      arith,
      bytes_in-append (number_attr WIPHY report.radio ∷ []) (number_attr IFINDEX report.index ∷ text_attr IFNAME report.name ∷ kind ∷ power ++ shown ∷ []),
      bytes_in-append (number_attr IFINDEX report.index ∷ []) (text_attr IFNAME report.name ∷ kind ∷ power ++ shown ∷ []),
      bytes_in-append (text_attr IFNAME report.name ∷ []) (kind ∷ power ++ shown ∷ []),
      bytes_in-append (kind ∷ []) (power ++ shown ∷ []),
      bytes_in-append power (shown ∷ []),
      number_bytes WIPHY report.radio,
      number_bytes IFINDEX report.index,
      name_bytes IFNAME report.name is,
      number_bytes IFTYPE (iftype_number report.kind),
      power_bytes TX_POWER_SETTING TX_POWER_LEVEL report.setting,
      bytes_in-cons shown [],
      state_bytes report.state,
    )

-- ---- messages

abbrev IsShort : Msg → Type 0
IsShort m = length (spelled m) ≤ 65536

pub error_short : (request : Msg) (errno : ℤ) → IsShort (error_answer request errno)
error_short request errno = omega (arith, length-spelled (error_answer request errno), length-append (le32 (cast_unsigned w32 errno)) (take 16 (spelled request)), length-le32 (cast_unsigned w32 errno), length-take 16 (spelled request))

done_short : (flags seq pid : ℕ) (code : ℤ) → IsShort (Done flags seq pid code)
done_short flags seq pid code = omega (arith, length-spelled (Done flags seq pid code), length-le32 (cast_unsigned w32 code))

shown_short : (request : Msg) (family command : ℕ) (attrs : List Attr) → bytes_in attrs ≤ 65000 → IsShort (dump_message request family command attrs)
shown_short request family command attrs few = omega (arith, few, generic_length family MULTI (seq_of request) (pid_of request) command VERSION attrs)

abbrev IsFew : List Attr → Type 0
IsFew attrs = bytes_in attrs ≤ 65000

dump_short : (request : Msg) (family command : ℕ) (shown : List (List Attr)) → All IsFew shown → AreShort (dump_messages request family command shown)
dump_short request family command [] few = All-cons IsShort (Done MULTI (seq_of request) (pid_of request) (pos 0)) [] (done_short MULTI (seq_of request) (pid_of request) (pos 0)) (All-nil IsShort)
dump_short request family command (attrs ∷ shown) few =
    All-cons IsShort (dump_message request family command attrs) (dump_messages request family command shown) (shown_short request family command attrs (All-head IsFew attrs shown few))
    (dump_short request family command shown (All-tail IsFew attrs shown few))

all_sections : (sections : List Section) → All IsShownSection sections → All IsFew (map section_attrs sections)
all_sections [] shown = All-nil IsFew
all_sections (s ∷ ss) shown = All-cons IsFew (section_attrs s) (map section_attrs ss) (section_bytes s (All-head IsShownSection s ss shown)) (all_sections ss (All-tail IsShownSection s ss shown))

all_channels : (r : ℕ) (list : List (Chan × Dfs)) → All IsFew (map (channel_attrs r) list)
all_channels r [] = All-nil IsFew
all_channels r (x ∷ xs) = All-cons IsFew (channel_attrs r x) (map (channel_attrs r) xs) (let few = channel_bytes r x in omega (arith, few)) (all_channels r xs)

single : (attrs : List Attr) (n : ℕ) → n ≤ 65000 → bytes_in attrs ≤ n → All IsFew (attrs ∷ [])
single attrs n most few = All-cons IsFew attrs [] (omega (arith, most, few)) (All-nil IsFew)

-- a report of a radio names at most eight interfaces
abbrev pub HasFewIfaces : Reply → Type 0
HasFewIfaces (Radio report) = length report.ifaces ≤ 8
HasFewIfaces reply = Unit {0}

pub reply_short : (request : Msg) (reply : Reply) → IsShownReply reply → HasFewIfaces reply → AreShort (reply_messages request reply)
reply_short request (Plain answer effects) shown few =
    let some = shown.1 in
    let bytes = generic_length 33 0 (seq_of request) (pid_of request) REPLY VERSION (plain_attrs answer effects) in
    let parts = bytes_in-append (answer_attrs answer) (map effect_attr effects) in
    All-cons IsShort (Generic 33 0 (seq_of request) (pid_of request) REPLY VERSION (plain_attrs answer effects)) (error_answer request (answer_errno answer) ∷ [])
    (omega (arith, some, bytes, parts, answer_bytes answer shown.0, effects_bytes effects shown.2))
    (All-cons IsShort (error_answer request (answer_errno answer)) [] (error_short request (answer_errno answer)) (All-nil IsShort))
reply_short request (Regs sections) shown few = dump_short request (family_number Nl80211) (command_number GetReg) (map section_attrs sections) (all_sections sections shown.1)
reply_short request (Channels r list) shown few = dump_short request (family_number Simulation) CHANNEL (map (channel_attrs r) list) (all_channels r list)
reply_short request (Radio report) shown few = dump_short request (family_number Nl80211) NEW_WIPHY (radio_attrs report ∷ []) (single (radio_attrs report) 1000 (omega arith) (radio_bytes report shown.1 few))
reply_short request (Iface report) shown few = dump_short request (family_number Nl80211) (command_number NewInterface) (iface_attrs report ∷ []) (single (iface_attrs report) 200 (omega arith) (iface_bytes report shown.0))

pub reply_fits : (reply : Reply) → IsShownReply reply → FitsMessages reply
reply_fits (Regs sections) shown = All-weaker IsShownSection (λ (section : Section). length section.rows ≤ MOST_ROWS) (λ section is. is.few) sections shown.1
reply_fits reply shown = tt
