use Rattle.reg_journal.specs.Applicable.{applies}
use Rattle.core_parts.proofs.Permitted.{verdict_set}
use Rattle.reg_core.proofs.powering.power_with.Goals as goal

pub returns : goal.returns
returns c = λ db J x is.
    c.permit.ensures db J (record x { setting = c.args.setting })
    (verdict_set db J x c.args.interface.now c.args.radio.now c.args.indoor c.args.setting c.args.operation.now.chan c.verdict-verdict.result is
    (c.verdict-verdict.ensures.domains (applies db J x.radio) is.radio_is.records))
