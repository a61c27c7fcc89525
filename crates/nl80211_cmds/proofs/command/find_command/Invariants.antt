use Rattle.std.proofs.Common.{◌≡◌, drop}
use Rattle.std.specs.List.{find}
use Rattle.nl80211_cmds.specs.Commands.{is_command}
use Rattle.nl80211_cmds.proofs.command.find_command.Given as goal

-- what the rest gives is what all give
abbrev pub invariant-loop-command : goal.invariant-loop-command
invariant-loop-command l = find (is_command l.family l.number) (drop l.command-index l.commands) ≡ find (is_command l.family l.number) l.commands
