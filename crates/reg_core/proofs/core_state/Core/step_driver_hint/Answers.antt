use Rattle.reg_journal.specs.Causes.{◌before◌}
use Rattle.reg_journal.specs.Refusals.{HintCauses, LacksRadio}
use Rattle.reg_journal.specs.Replies.{driver_hint}
use Rattle.reg_journal.specs.declared.request.Request.TheVariants.{DriverHint}
use Rattle.reg_core.proofs.DriverSteps.{driver_refused, driver_taken}
use Rattle.reg_core.proofs.OneSteps.{told_declined}
use Rattle.reg_core.proofs.core_state.Core.step_driver_hint.Goals as goal

pub returns-in-Ok-clause-step : goal.returns-in-Ok-clause-step
returns-in-Ok-clause-step g c = λ db J s.
    driver_taken db J c.args.radio c.args.alpha2 c.in-Ok.answer c.in-Ok.effects c.args.self.now c.hear_driver.new.self _ _ s (c.in-Ok.ensures.taken db J s)

pub returns-in-Err-clause-step : goal.returns-in-Err-clause-step
returns-in-Err-clause-step g c =
    told_declined (DriverHint c.args.radio c.args.alpha2) (λ db J. (LacksRadio J c.args.radio before HintCauses db J (driver_hint J c.args.radio c.args.alpha2)))
    c.args.self.now c.hear_driver.new.self _ _ c.in-Err.declined c.declined_reply.result c.declined_reply.ensures
    (λ db J s. c.in-Err.ensures.taken db J s)
    (λ db J e s cause. driver_refused db J c.args.radio c.args.alpha2 e c.args.self.now c.hear_driver.new.self _ _ s cause c.in-Err.ensures.core_stays c.in-Err.ensures.drivers_stay)
