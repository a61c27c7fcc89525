use Rattle.reg_journal.proofs.Granting.{free_of_granted, power_of_granted}
use Rattle.reg_journal.proofs.laws.granted_is_not_barred.Goals as goal

pub returns-clause-free : goal.returns-clause-free
returns-clause-free c = λ db J x chan power is. free_of_granted db J x chan power is

pub returns-clause-power : goal.returns-clause-power
returns-clause-power c = λ db J x chan power is. power_of_granted db J x chan power is
