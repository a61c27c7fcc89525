-- what was appended, and what the rest gives, is what all give
use Rattle.std.proofs.Common.{◌≡◌, ◌++◌, drop, map}
use Rattle.nl80211_cmds.specs.Commands.{command_number, family_number}
use Rattle.nl80211_cmds.specs.declared.command.Command.TheVariants.{GetReg}
use Rattle.nl80211_cmds.specs.declared.family.Family.TheVariants.{Nl80211}
use Rattle.nl80211_replies.specs.Dumps.{dump_message, section_attrs}
use Rattle.nl80211_replies.proofs.sections.push_sections.Given as goal

abbrev pub invariant-loop-section : goal.invariant-loop-section
invariant-loop-section l =
    l.msgs ++ map (dump_message l.request (family_number Nl80211) (command_number GetReg)) (map section_attrs (drop l.section-index l.sections))
    ≡ l.initial.msgs ++ map (dump_message l.request (family_number Nl80211) (command_number GetReg)) (map section_attrs l.sections)
