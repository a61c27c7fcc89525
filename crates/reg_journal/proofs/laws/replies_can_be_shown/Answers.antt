use Rattle.reg_journal.proofs.ShownSteps.{shown}
use Rattle.reg_journal.proofs.laws.replies_can_be_shown.Goals as goal

pub returns : goal.returns
returns c = shown
