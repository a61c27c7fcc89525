use Rattle.reg_journal.proofs.Asked.{one_check, one_start, some_check, some_start}
use Rattle.reg_journal.proofs.laws.one_forecast.Goals as goal

pub returns-clause-some_start : goal.returns-clause-some_start
returns-clause-some_start c = some_start

pub returns-clause-one_start : goal.returns-clause-one_start
returns-clause-one_start c = one_start

pub returns-clause-some_check : goal.returns-clause-some_check
returns-clause-some_check c = some_check

pub returns-clause-one_check : goal.returns-clause-one_check
returns-clause-one_check c = one_check
