use Rattle.reg_journal.proofs.UsedRows.{lapses_after, stands_used}
use Rattle.reg_journal.proofs.laws.check_of_a_used_channel.Goals as goal

pub returns-clause-stands : goal.returns-clause-stands
returns-clause-stands c = stands_used

pub returns-clause-lapsed : goal.returns-clause-lapsed
returns-clause-lapsed c = lapses_after
