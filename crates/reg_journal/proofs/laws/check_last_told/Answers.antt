use Rattle.reg_journal.proofs.Untold.{told_begun, told_left}
use Rattle.reg_journal.proofs.laws.check_last_told.Goals as goal

pub returns-clause-begun : goal.returns-clause-begun
returns-clause-begun c = told_begun

pub returns-clause-left : goal.returns-clause-left
returns-clause-left c = told_left
