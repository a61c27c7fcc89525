use Rattle.rule_intersect.specs.inner.Own.{AreOwnRows}
use Rattle.rule_intersect.proofs.joining.own_rows.Given as goal

abbrev pub invariant-loop-k : goal.invariant-loop-k
invariant-loop-k l = AreOwnRows l.rules l.k l.rows.items
