use Rattle.std.proofs.Common.{length}
use Rattle.make_command.specs.inner.Making.{IsOnItsWay}
use Rattle.make_command.proofs.answering.answer_all.Given as goal

abbrev pub invariant-requests : goal.invariant-requests
invariant-requests g l = IsOnItsWay l.initial.requests l.requests l.counts l.initial.core l.core (g.D.DriverRow.seen l.initial.drivers) (g.D.DriverRow.seen l.drivers)

-- a request less each time
abbrev pub decreases-requests : goal.decreases-requests
decreases-requests g l = length l.requests
