use Rattle.reg_journal.proofs.Telling.{few_effects}
use Rattle.reg_journal.proofs.laws.effects_are_few.Goals as goal

pub returns : goal.returns
returns c = few_effects
