use Rattle.line_forms.specs.Words.{words_of}
use Rattle.line_forms.proofs.Furthest.{furthest-fault}
use Rattle.line_forms.proofs.spelled.fault_by.Goals as goal

pub returns : goal.returns
returns c = rw c.fault_at.ensures (furthest-fault c.args.forms.now (words_of c.args.line.now) c.in-Err.stop (c.in-Err.ensures.stop c.requires.some))
