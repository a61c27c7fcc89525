use Rattle.line_forms.proofs.Meanings.{one-request}
use Rattle.line_forms.proofs.Saying.{one_meaning}
use Rattle.line_forms.proofs.laws.one_meaning.Goals as goal

pub returns-clause-request : goal.returns-clause-request
returns-clause-request c = one-request

pub returns-clause-meaning : goal.returns-clause-meaning
returns-clause-meaning c = one_meaning
