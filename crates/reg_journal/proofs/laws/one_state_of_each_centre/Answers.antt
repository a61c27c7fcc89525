use Rattle.reg_journal.proofs.Asked.{one_state_on, some_state_on}
use Rattle.reg_journal.proofs.laws.one_state_of_each_centre.Goals as goal

pub returns-clause-some : goal.returns-clause-some
returns-clause-some c = some_state_on

pub returns-clause-one : goal.returns-clause-one
returns-clause-one c = one_state_on
