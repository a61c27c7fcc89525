use Rattle.reg_journal.specs.declared.request.Request.TheVariants.{At}
use Rattle.reg_core.specs.Stepping.{done_reply}
use Rattle.reg_core.proofs.Decided.{moment_decided}
use Rattle.reg_core.proofs.OneSteps.{ready_after}
use Rattle.reg_core.proofs.core_state.Core.at.Goals as goal

pub returns-clause-step : goal.returns-clause-step
returns-clause-step c = λ db J row s. moment_decided db J c.args.now c.args.self.now c.advance_to.new.self row c.advance_to.result s (c.advance_to.ensures.taken db J s.keeps)

pub returns-clause-ready : goal.returns-clause-ready
returns-clause-ready c = λ row ready. ready_after (At c.args.now) c.args.self.now c.advance_to.new.self row row (done_reply c.advance_to.result) ready (λ db J s. moment_decided db J c.args.now c.args.self.now c.advance_to.new.self row c.advance_to.result s (c.advance_to.ensures.taken db J s.keeps))
