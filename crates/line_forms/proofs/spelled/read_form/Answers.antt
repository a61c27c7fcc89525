use Rattle.line_forms.proofs.Saying.{no-asked}
use Rattle.line_forms.proofs.spelled.read_form.Goals as goal

pub fault_of-requires : goal.fault_of-requires
fault_of-requires c = rw c.line.ensures c.in-None.ensures

pub returns-in-None-clause-read : goal.returns-in-None-clause-read
returns-in-None-clause-read c = (no-asked c.args.cut.now c.in-None.ensures, rw c.line.ensures at c.fault_of.ensures)
