use Rattle.std.proofs.Common.{is_some, ap}
use Rattle.reg_core.proofs.KeptChanges.{interface_of_kept}
use Rattle.reg_core.proofs.SweepJudged.{check_read, none_read}
use Rattle.reg_core.proofs.iface_deleting.drop_of.Goals as goal

pub returns-in-Some : goal.returns-in-Some
returns-in-Some c = λ db J x is none.
    let read = check_read J x c.in-Some._chan (c.in-Some.ensures db J x is) in
    (interface_of_kept J x c.args.interface.now is.there is.interface_is, none, ap is_some read.1)

pub returns-in-None : goal.returns-in-None
returns-in-None c = λ db J x is none. (none, none_read J x (c.in-None.ensures db J x is))
