use Rattle.std.proofs.Common.{◌≡◌}
use Rattle.rule_publish.specs.inner.Written.{written_by}
use Rattle.rule_publish.proofs.telling.noted.Given as goal

abbrev pub invariant-loop : goal.invariant-loop
invariant-loop g l = written_by l.pen ≡ written_by l.fn.pen
