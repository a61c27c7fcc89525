-- What messages show.
use Rattle.std.specs.Prelude.{ℕ, ◌==◌, Bool, true, false, cond}
use Rattle.nl_attrs.specs.declared.message.Msg.{Msg}
use Rattle.nl_attrs.specs.declared.message.Msg.TheVariants.{Generic, Error, Done}
use Rattle.reg_journal.specs.declared.reply.Reply.{Reply}
use Rattle.reg_journal.specs.declared.reply.Reply.TheVariants.{Plain, Regs, Channels, Radio as OfRadio, Iface}
use Rattle.nl80211_cmds.specs.Commands.{command_number, family_number}
use Rattle.nl80211_cmds.specs.declared.command.Command.TheVariants.{GetReg, NewInterface}
use Rattle.nl80211_cmds.specs.declared.family.Family.TheVariants.{Simulation}
use Rattle.reply_reading.specs.declared.candidate.Shown.{Shown}
use Rattle.reply_reading.specs.declared.candidate.Shown.TheVariants as shown

abbrev pub is_error : Msg → Bool
is_error (Generic family flags seq pid cmd version attrs) = false
is_error (Error flags seq pid code head) = true
is_error (Done flags seq pid code) = false

abbrev pub dump_shown : ℕ → ℕ → Shown
dump_shown family cmd =
    cond (family == family_number Simulation) shown.Channels
    (cond (cmd == command_number GetReg) shown.Sections (cond (cmd == command_number NewInterface) shown.Iface shown.Radio))

-- what messages show that begin with this one, and a second that is no Error message
abbrev pub first_shown : Msg → Shown
first_shown (Generic family flags seq pid cmd version attrs) = dump_shown family cmd
first_shown (Error flags seq pid code head) = shown.Answer
first_shown (Done flags seq pid code) = shown.Answer

abbrev pub shown_by : Msg → Msg → Shown
shown_by first second = cond (is_error second) shown.Answer (first_shown first)

-- what a reply shows
abbrev pub shown_of : Reply → Shown
shown_of (Plain answer effects) = shown.Answer
shown_of (Regs sections) = shown.Sections
shown_of (Channels radio list) = shown.Channels
shown_of (OfRadio report) = shown.Radio
shown_of (Iface report) = shown.Iface
