use Rattle.std.proofs.Common.{Ok, Err}
use Rattle.reg_journal.specs.declared.refusal.Refusal.TheVariants.{DriverFailed}
use Rattle.reg_journal.specs.declared.request.Request.TheVariants.{Start}
use Rattle.reg_core.specs.Stepping.{started_reply}
use Rattle.reg_core.proofs.OneSteps.{ready_after, start_failed, start_refused, start_taken}
use Rattle.reg_core.proofs.core_state.Core.start.Goals as goal

pub returns-in-Ok-clause-step : goal.returns-in-Ok-clause-step
returns-in-Ok-clause-step g c = λ db J s. start_taken db J c.args.name.now c.args.kind c.args.chan.now c.in-Ok.power_mbm c.args.self.now c.begin_operation.new.self _ _ s (c.in-Ok.ensures.start db J s.keeps)

pub returns-in-Ok-clause-ready : goal.returns-in-Ok-clause-ready
returns-in-Ok-clause-ready g c = ready_after (Start c.args.name.now c.args.kind c.args.chan.now) c.args.self.now c.begin_operation.new.self _ _ (started_reply (Ok c.in-Ok.power_mbm)) c.requires.ready (λ db J s. start_taken db J c.args.name.now c.args.kind c.args.chan.now c.in-Ok.power_mbm c.args.self.now c.begin_operation.new.self _ _ s (c.in-Ok.ensures.start db J s.keeps))

pub returns-in-Err-Refused-clause-step : goal.returns-in-Err-Refused-clause-step
returns-in-Err-Refused-clause-step g c = λ db J s. let (cause, same, same') = rw c.in-Err-Refused.field-0-is at (c.in-Err-Refused.ensures.start db J s.keeps) in start_refused db J c.args.name.now c.args.kind c.args.chan.now c.in-Err-Refused.refusal c.args.self.now c.begin_operation.new.self _ _ s cause same same'

pub returns-in-Err-Refused-clause-ready : goal.returns-in-Err-Refused-clause-ready
returns-in-Err-Refused-clause-ready g c = ready_after (Start c.args.name.now c.args.kind c.args.chan.now) c.args.self.now c.begin_operation.new.self _ _ (started_reply (Err c.in-Err-Refused.refusal)) c.requires.ready (λ db J s. let (cause, same, same') = rw c.in-Err-Refused.field-0-is at (c.in-Err-Refused.ensures.start db J s.keeps) in start_refused db J c.args.name.now c.args.kind c.args.chan.now c.in-Err-Refused.refusal c.args.self.now c.begin_operation.new.self _ _ s cause same same')

pub returns-in-Err-Driver-clause-step : goal.returns-in-Err-Driver-clause-step
returns-in-Err-Driver-clause-step g c = λ db J s. start_failed db J c.args.name.now c.args.kind c.args.chan.now c.args.self.now c.begin_operation.new.self _ _ s (rw c.in-Err-Driver.field-0-is at (c.in-Err-Driver.ensures.start db J s.keeps))

pub returns-in-Err-Driver-clause-ready : goal.returns-in-Err-Driver-clause-ready
returns-in-Err-Driver-clause-ready g c = ready_after (Start c.args.name.now c.args.kind c.args.chan.now) c.args.self.now c.begin_operation.new.self _ _ (started_reply (Err DriverFailed)) c.requires.ready (λ db J s. start_failed db J c.args.name.now c.args.kind c.args.chan.now c.args.self.now c.begin_operation.new.self _ _ s (rw c.in-Err-Driver.field-0-is at (c.in-Err-Driver.ensures.start db J s.keeps)))
