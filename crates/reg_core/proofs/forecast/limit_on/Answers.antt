use Rattle.reg_journal.specs.Applicable.{applies}
use Rattle.reg_core.proofs.Forecasts.{limit_of_verdict}
use Rattle.core_parts.proofs.Permitted.{ends_check_by, verdict_auto}
use Rattle.reg_core.proofs.forecast.limit_on.Goals as goal

pub returns-in-Refused : goal.returns-in-Refused
returns-in-Refused c = λ db J x is.
    let verdict = verdict_auto db J x c.args.interface.now c.args.radio.now c.args.indoor c.args.chan.now c.verdict.result is (c.verdict.ensures.domains (applies db J x.radio) is.radio_is.records) in
    let verdict_is = verdict.verdict_is in
    rw c.refusal_of.ensures (ends_check_by db J x c.args.chan.now c.in-Refused.refusal (rw c.in-Refused.is at verdict_is))

pub returns-in-Fits : goal.returns-in-Fits
returns-in-Fits c = λ db J x is.
    let verdict = verdict_auto db J x c.args.interface.now c.args.radio.now c.args.indoor c.args.chan.now c.verdict.result is (c.verdict.ensures.domains (applies db J x.radio) is.radio_is.records) in
    let verdict_is = verdict.verdict_is in
    limit_of_verdict db J x c.args.chan.now c.in-Fits.power_mbm c.in-Fits.check_ms (rw c.in-Fits.is at verdict_is)
