use Rattle.reg_journal.proofs.Starting.{granted_of_started, started_of_granted}
use Rattle.reg_journal.proofs.laws.started_where_granted.Goals as goal

pub returns-clause-granted : goal.returns-clause-granted
returns-clause-granted c = granted_of_started

pub returns-clause-started : goal.returns-clause-started
returns-clause-started c = started_of_granted
