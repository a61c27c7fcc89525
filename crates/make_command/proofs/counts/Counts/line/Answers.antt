use Rattle.std.proofs.Common.{append_assoc}
use Rattle.make_command.proofs.counts.Counts.line.Goals as goal

pub returns : goal.returns
returns c = record { line = λ replies are. rw (← are.requests, ← are.started, ← are.refused, ← are.checks, ← are.hints, ← are.effects) (simp append_assoc at c.in_ok-format.ensures.ok) }
