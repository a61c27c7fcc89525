use Rattle.rule_tables.specs.Governing.{RuleHolds}
use Rattle.db_lint.proofs.Noted.{NoneOfFirst}
use Rattle.db_lint.proofs.least.least_held.Given as goal

abbrev pub invariant-loop-khz : goal.invariant-loop-khz
invariant-loop-khz l = NoneOfFirst (λ khz. RuleHolds khz l.fn.rule) l.channels l.khz-index
