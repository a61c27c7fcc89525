use Rattle.reg_journal.specs.Refusals.{IfaceAddCauses}
use Rattle.reg_journal.specs.declared.request.Request.TheVariants.{IfaceAdd}
use Rattle.reg_core.proofs.OneSteps.{iface_refused, iface_taken, step_declined}
use Rattle.reg_core.proofs.core_state.Core.step_iface_add.Goals as goal

pub returns-in-Ok-clause-step : goal.returns-in-Ok-clause-step
returns-in-Ok-clause-step c = λ db J row s. rw c.plain.ensures (iface_taken db J c.args.radio c.args.name c.args.kind c.args.self.now c.add_iface.new.self row s (c.in-Ok.ensures.taken db J s.keeps))

pub returns-in-Err-clause-step : goal.returns-in-Err-clause-step
returns-in-Err-clause-step c =
    step_declined (IfaceAdd c.args.radio c.args.name c.args.kind) (λ db J. IfaceAddCauses J c.args.radio c.args.name) c.args.self.now c.add_iface.new.self c.in-Err.declined c.declined_reply.result c.declined_reply.ensures
    (λ db J s. c.in-Err.ensures.taken db J s)
    (λ db J e row s cause same. iface_refused db J c.args.radio c.args.name c.args.kind e c.args.self.now c.add_iface.new.self row s cause same)
