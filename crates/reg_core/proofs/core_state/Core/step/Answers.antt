use Rattle.reg_core.proofs.OneSteps.{ready_after_all}
use Rattle.reg_core.proofs.core_state.Core.step.Goals as goal

pub returns-clause-ready : goal.returns-clause-ready
returns-clause-ready g c =
    ready_after_all c.args.request.now c.args.self.now c.answer.new.self _ _ c.answer.result c.requires.ready c.answer.ensures.step c.answer.ensures.core_stays c.answer.ensures.drivers_stay
