use Rattle.reg_journal.proofs.Formed.{formed}
use Rattle.reg_journal.proofs.laws.replies_have_a_form.Goals as goal

pub returns : goal.returns
returns c = formed
