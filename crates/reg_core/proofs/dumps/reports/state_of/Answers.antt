use Rattle.core_parts.proofs.ShownReports.{no_operation_kept}
use Rattle.reg_core.proofs.dumps.reports.state_of.Goals as goal

pub returns-in-None : goal.returns-in-None
returns-in-None c = λ db J x is. c.checking.ensures db J x is (no_operation_kept J x c.args.interface.now is.interface_is c.in-None.is)
