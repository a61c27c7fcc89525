use Rattle.reg_journal.proofs.RuledSteps.{rules_then}
use Rattle.reg_journal.proofs.OneRuling.{one_ruling}
use Rattle.reg_journal.proofs.laws.rules_by_themselves.Goals as goal

pub returns-clause-then : goal.returns-clause-then
returns-clause-then c = rules_then

pub returns-clause-one : goal.returns-clause-one
returns-clause-one c = one_ruling
