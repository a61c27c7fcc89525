use Rattle.reg_journal.proofs.WorkedRows.{none_early, none_late, stands_on, stands_then}
use Rattle.reg_journal.proofs.laws.check_of_a_minute.Goals as goal

pub returns-clause-early : goal.returns-clause-early
returns-clause-early c = none_early

pub returns-clause-stands : goal.returns-clause-stands
returns-clause-stands c = stands_then

pub returns-clause-lapsed : goal.returns-clause-lapsed
returns-clause-lapsed c = none_late

pub returns-clause-lasts : goal.returns-clause-lasts
returns-clause-lasts c = stands_on
