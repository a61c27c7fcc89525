use Rattle.reg_journal.proofs.Swept.{all_swept, one_swept}
use Rattle.reg_journal.proofs.laws.sweeps_leave_what_may_go_on.Goals as goal

pub returns-clause-all : goal.returns-clause-all
returns-clause-all c = all_swept

pub returns-clause-one : goal.returns-clause-one
returns-clause-one c = one_swept
