use Rattle.std.proofs.Common.{◌≡◌, ◌+◌, ◌*◌, ◌≤◌, drop}
use Rattle.rule_intersect.specs.inner.Pairs.{met_all}
use Rattle.rule_intersect.proofs.joining.count_all.Given as goal

abbrev pub invariant-loop-row : goal.invariant-loop-row
invariant-loop-row l = record {
  count : l.count + met_all (drop l.row-index l.rows) l.rules ≡ met_all l.rows l.rules;
  small : l.count ≤ l.row-index * 128;
}
