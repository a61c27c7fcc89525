use Rattle.reg_journal.proofs.Coded.{code_of_refusal}
use Rattle.reg_journal.proofs.laws.refusals_have_codes.Goals as goal

pub returns : goal.returns
returns c = code_of_refusal
