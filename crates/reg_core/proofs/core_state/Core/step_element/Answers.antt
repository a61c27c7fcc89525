use Rattle.reg_journal.specs.declared.request.Request.TheVariants.{Element as HeardElement}
use Rattle.reg_core.specs.inner.Elements.{BarsElement}
use Rattle.reg_core.proofs.ElementSteps.{element_refused, element_taken}
use Rattle.reg_core.proofs.OneSteps.{told_declined}
use Rattle.reg_core.proofs.core_state.Core.step_element.Goals as goal

pub returns-in-Ok-clause-step : goal.returns-in-Ok-clause-step
returns-in-Ok-clause-step g c = λ db J s.
    element_taken db J c.args.radio c.args.body.now c.in-Ok.treatment c.in-Ok.effects c.args.self.now c.hear_element.new.self _ _ s (c.in-Ok.ensures.taken db J s)

pub returns-in-Err-clause-step : goal.returns-in-Err-clause-step
returns-in-Err-clause-step g c =
    told_declined (HeardElement c.args.radio c.args.body.now) (λ db J. BarsElement db J c.args.radio c.args.body.now)
    c.args.self.now c.hear_element.new.self _ _ c.in-Err.declined c.declined_reply.result c.declined_reply.ensures
    (λ db J s. c.in-Err.ensures.taken db J s)
    (λ db J e s cause. element_refused db J c.args.radio c.args.body.now e c.args.self.now c.hear_element.new.self _ _ s cause c.in-Err.ensures.core_stays c.in-Err.ensures.drivers_stay)
