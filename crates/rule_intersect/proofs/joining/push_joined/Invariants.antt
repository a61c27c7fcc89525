use Rattle.std.proofs.Common.{◌≡◌, ◌++◌, drop}
use Rattle.rule_intersect.specs.inner.Pairs.{join_one}
use Rattle.rule_intersect.proofs.joining.push_joined.Given as goal

abbrev pub invariant-loop-other : goal.invariant-loop-other
invariant-loop-other l = l.out.items ++ join_one l.row (drop l.other-index l.others) ≡ l.initial.out.items ++ join_one l.row l.others
