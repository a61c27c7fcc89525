use Rattle.reg_journal.specs.declared.request.Request.TheVariants.{Stop}
use Rattle.reg_core.specs.Stepping.{done_reply}
use Rattle.reg_core.proofs.Decided.{stop_decided}
use Rattle.reg_core.proofs.OneSteps.{ready_after}
use Rattle.reg_core.proofs.core_state.Core.stop.Goals as goal

pub returns-clause-step : goal.returns-clause-step
returns-clause-step g c = λ db J s. stop_decided db J c.args.name.now c.args.kind c.args.self.now c.end_operation.new.self _ _ c.end_operation.result s (c.end_operation.ensures.stop db J s.keeps)

pub returns-clause-ready : goal.returns-clause-ready
returns-clause-ready g c = ready_after (Stop c.args.name.now c.args.kind) c.args.self.now c.end_operation.new.self _ _ (done_reply c.end_operation.result) c.requires.ready (λ db J s. stop_decided db J c.args.name.now c.args.kind c.args.self.now c.end_operation.new.self _ _ c.end_operation.result s (c.end_operation.ensures.stop db J s.keeps))
