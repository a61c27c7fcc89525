use Rattle.reg_journal.proofs.OneReply.{one-state}
use Rattle.reg_journal.proofs.ToldStates.{some_state}
use Rattle.reg_journal.proofs.laws.one_state.Goals as goal

pub returns-clause-some : goal.returns-clause-some
returns-clause-some c = some_state

pub returns-clause-one : goal.returns-clause-one
returns-clause-one c = one-state
