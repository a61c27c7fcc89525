use Rattle.reg_journal.proofs.EachRegular.{regular_goes}
use Rattle.reg_journal.proofs.laws.regular_is_due_and_settled.Goals as goal

pub returns-clause-due : goal.returns-clause-due
returns-clause-due c = λ db J regular. (regular_goes db J regular).1.due

pub returns-clause-settled : goal.returns-clause-settled
returns-clause-settled c = λ db J regular. (regular_goes db J regular).1.settled
