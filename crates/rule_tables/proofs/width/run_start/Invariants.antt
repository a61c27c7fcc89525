use Rattle.std.proofs.Common.{◌≤◌}
use Rattle.rule_tables.specs.Width.{IsTouchingRun}
use Rattle.rule_tables.proofs.width.run_start.Given as goal

abbrev pub invariant-left : goal.invariant-left
invariant-left l = record { within : l.first ≤ l.k; run : IsTouchingRun l.rules l.first l.k }

abbrev pub decreases-left : goal.decreases-left
decreases-left l = l.first
