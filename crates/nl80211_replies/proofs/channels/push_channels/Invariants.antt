-- what was appended, and what the rest gives, is what all give
use Rattle.std.proofs.Common.{◌≡◌, ◌++◌, drop, map}
use Rattle.nl80211_cmds.specs.Commands.{family_number}
use Rattle.nl80211_cmds.specs.declared.family.Family.TheVariants.{Simulation}
use Rattle.nl80211_replies.specs.Dumps.{channel_attrs, dump_message}
use Rattle.nl80211_replies.specs.declared.attribute.TheConstants.{CHANNEL}
use Rattle.nl80211_replies.proofs.channels.push_channels.Given as goal

abbrev pub invariant-loop-shown : goal.invariant-loop-shown
invariant-loop-shown l =
    l.msgs ++ map (dump_message l.request (family_number Simulation) CHANNEL) (map (channel_attrs l.radio) (drop l.shown-index l.list))
    ≡ l.initial.msgs ++ map (dump_message l.request (family_number Simulation) CHANNEL) (map (channel_attrs l.radio) l.list)
