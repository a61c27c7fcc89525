use Rattle.std.proofs.Common.{subst, sym}
use Rattle.chan_def.specs.Covered.{IsValidDef}
use Rattle.core_parts.specs.declared.interface.Running.{Running}
use Rattle.reg_core.proofs.SweepJudged.{no_operation_read, operation_read}
use Rattle.reg_journal.proofs.Wholes.{operation_valid}
use Rattle.reg_core.proofs.sweep.change_of.Goals as goal

pub change_of_operation-requires : goal.change_of_operation-requires
change_of_operation-requires c =
    let some = c.requires.swept in
    let is = some.swept in
    let read = operation_read some.journal some.iface c.args.interface.now c.in-Some.operation is.interface_is c.in-Some.is in
    record { valid = subst (λ (r : Running). IsValidDef r.chan) (sym read.2) (operation_valid some.db some.journal some.iface.index read.0 is.due read.1) }

pub returns-in-Some : goal.returns-in-Some
returns-in-Some c = λ db J x is region.
    let read = operation_read J x c.args.interface.now c.in-Some.operation is.interface_is c.in-Some.is in
    c.change_of_operation.ensures db J x read.0 is read.1 read.2

pub returns-in-None : goal.returns-in-None
returns-in-None c = λ db J x is region. c.change_of_check.ensures db J x is (no_operation_read J x c.args.interface.now is.interface_is c.in-None.is) region
