use Rattle.reg_journal.specs.Present.{ifaces_of}
use Rattle.reg_journal.proofs.Settling.{nothing_swept}
use Rattle.reg_journal.proofs.laws.what_may_go_on_is_not_swept.Goals as goal

pub returns : goal.returns
returns c = λ db J settled. nothing_swept db J (ifaces_of J) settled
