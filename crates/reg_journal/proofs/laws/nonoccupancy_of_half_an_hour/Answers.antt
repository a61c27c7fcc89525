use Rattle.reg_journal.proofs.WorkedRows.{not_quiet_before, quiet_then}
use Rattle.reg_journal.proofs.laws.nonoccupancy_of_half_an_hour.Goals as goal

pub returns-clause-quiet : goal.returns-clause-quiet
returns-clause-quiet c = quiet_then

pub returns-clause-barred : goal.returns-clause-barred
returns-clause-barred c = not_quiet_before
