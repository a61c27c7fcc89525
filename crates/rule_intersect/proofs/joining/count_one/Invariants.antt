use Rattle.std.proofs.Common.{◌≡◌, ◌+◌, ◌≤◌, drop}
use Rattle.rule_intersect.specs.inner.Pairs.{met_one}
use Rattle.rule_intersect.proofs.joining.count_one.Given as goal

abbrev pub invariant-loop-rule : goal.invariant-loop-rule
invariant-loop-rule l = record {
  count : l.count + met_one l.row (drop l.rule-index l.rules) ≡ met_one l.row l.rules;
  small : l.count ≤ l.rule-index;
}
