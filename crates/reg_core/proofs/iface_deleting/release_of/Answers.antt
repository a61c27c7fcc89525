use Rattle.std.proofs.Common.{is_some, ap}
use Rattle.reg_core.proofs.KeptChanges.{interface_of_kept}
use Rattle.reg_core.proofs.SweepJudged.{no_operation_read, operation_read}
use Rattle.reg_core.proofs.iface_deleting.release_of.Goals as goal

pub returns-in-Some : goal.returns-in-Some
returns-in-Some c = λ db J x is.
    let read = operation_read J x c.args.interface.now c.in-Some._operation is.interface_is c.in-Some.is in
    (interface_of_kept J x c.args.interface.now is.there is.interface_is, ap is_some read.1)

pub returns-in-None : goal.returns-in-None
returns-in-None c = λ db J x is. c.drop_of.ensures db J x is (no_operation_read J x c.args.interface.now is.interface_is c.in-None.is)
