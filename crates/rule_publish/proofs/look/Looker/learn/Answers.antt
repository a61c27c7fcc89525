use Rattle.std.proofs.Common.{rules}
use Rattle.rule_publish.proofs.look.Looker.learn.Goals as goal

pub returns-then-number-clause-number : goal.returns-then-number-clause-number
returns-then-number-clause-number g c = search rules

pub returns-clause-number : goal.returns-clause-number
returns-clause-number g c = search rules
