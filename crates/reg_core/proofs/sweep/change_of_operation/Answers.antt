use Rattle.std.proofs.Common.{subst}
use Rattle.reg_journal.specs.Applicable.{applies}
use Rattle.reg_journal.specs.Granted.{IsPermitted}
use Rattle.reg_journal.specs.Permits.{EndsOperation}
use Rattle.core_parts.specs.declared.interface.Running.{Running}
use Rattle.core_parts.proofs.Judged.{verdict_kept}
use Rattle.reg_core.proofs.SweepJudged.{operation_goes_on, operation_stops}
use Rattle.reg_core.proofs.sweep.change_of_operation.Goals as goal

pub returns-in-Ok : goal.returns-in-Ok
returns-in-Ok c = λ db J x o is here same.
    let chan = c.args.operation.now.chan in
    let verdict = verdict_kept db J x c.args.interface.now c.args.radio.now c.args.indoor chan c.verdict-verdict.result is
    (c.verdict-verdict.ensures.domains (applies db J x.radio) is.radio_is.records) in
    rw c.repowered.ensures
    (operation_goes_on db J x c.args.interface.now c.args.radio.now c.args.indoor o c.args.operation.now c.in-Ok.power_mbm is here same
    (subst (λ (r : Running). IsPermitted db J x r.chan c.in-Ok.power_mbm) same (c.in-Ok.ensures db J x verdict)))

pub returns-in-Err : goal.returns-in-Err
returns-in-Err c = λ db J x o is here same.
    let chan = c.args.operation.now.chan in
    let verdict = verdict_kept db J x c.args.interface.now c.args.radio.now c.args.indoor chan c.verdict-verdict.result is
    (c.verdict-verdict.ensures.domains (applies db J x.radio) is.radio_is.records) in
    operation_stops db J x c.args.interface.now c.args.radio.now c.args.indoor o c.in-Err._refusal is here
    (subst (λ (r : Running). EndsOperation db J x r.chan c.in-Err._refusal) same (c.in-Err.ensures db J x verdict))
