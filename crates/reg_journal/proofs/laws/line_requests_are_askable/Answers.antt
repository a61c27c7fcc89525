use Rattle.reg_journal.proofs.ShownSteps.{askable}
use Rattle.reg_journal.proofs.laws.line_requests_are_askable.Goals as goal

pub returns : goal.returns
returns c = askable
