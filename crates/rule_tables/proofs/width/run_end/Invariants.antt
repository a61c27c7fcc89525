use Rattle.std.proofs.Common.{◌-◌, ◌<◌, ◌≤◌, length}
use Rattle.rule_tables.specs.Width.{IsTouchingRun}
use Rattle.rule_tables.proofs.width.run_end.Given as goal

abbrev pub invariant-right : goal.invariant-right
invariant-right l = record { within : l.k ≤ l.last; in_range : l.last < length l.rules; run : IsTouchingRun l.rules l.k l.last }

abbrev pub decreases-right : goal.decreases-right
decreases-right l = length l.rules - l.last
