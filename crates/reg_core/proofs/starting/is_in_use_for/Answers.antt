use Rattle.reg_core.proofs.StartReasons.{used_by_check, used_by_operation}
use Rattle.reg_core.proofs.starting.is_in_use_for.Goals as goal

pub returns-in-Some : goal.returns-in-Some
returns-in-Some c = λ db J x is. used_by_check J x c.args.kind c.in-Some._chan (c.in-Some.ensures db J x is)

pub returns-in-None : goal.returns-in-None
returns-in-None c = λ db J x is.
    used_by_operation J x c.args.kind c.args.interface.now c.has_operation_for.result is.interface_is (c.in-None.ensures db J x is) c.has_operation_for.ensures
