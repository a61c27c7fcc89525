use Rattle.reg_journal.specs.Refusals.{RadioAddCauses}
use Rattle.reg_journal.specs.declared.request.Request.TheVariants.{RadioAdd}
use Rattle.reg_core.proofs.OneSteps.{radio_refused, radio_taken, step_declined}
use Rattle.reg_core.proofs.core_state.Core.step_radio_add.Goals as goal

pub returns-in-Ok-clause-step : goal.returns-in-Ok-clause-step
returns-in-Ok-clause-step c = λ db J row s. rw c.plain.ensures (radio_taken db J c.args.radio c.args.profile c.args.self.now c.add_radio.new.self row s (c.in-Ok.ensures.taken db J s.keeps))

pub returns-in-Err-clause-step : goal.returns-in-Err-clause-step
returns-in-Err-clause-step c =
    step_declined (RadioAdd c.args.radio c.args.profile) (λ db J. RadioAddCauses J c.args.radio) c.args.self.now c.add_radio.new.self c.in-Err.declined c.declined_reply.result c.declined_reply.ensures
    (λ db J s. c.in-Err.ensures.taken db J s)
    (λ db J e row s cause same. radio_refused db J c.args.radio c.args.profile e c.args.self.now c.add_radio.new.self row s cause same)
