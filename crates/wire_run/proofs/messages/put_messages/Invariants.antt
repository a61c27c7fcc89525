use Rattle.std.proofs.Common.{◌≡◌, ◌++◌, take}
use Rattle.nl_attrs.specs.Messages.{all_spelled}
use Rattle.wire_run.proofs.messages.put_messages.Given as goal

abbrev pub invariant-loop-message : goal.invariant-loop-message
invariant-loop-message l = record { so_far : l.out ≡ l.initial.out ++ all_spelled (take l.message-index l.messages) }
