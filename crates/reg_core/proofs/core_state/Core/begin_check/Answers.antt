use Rattle.std.proofs.Common.{Ok, Err}
use Rattle.reg_journal.specs.declared.refusal.Refusal.TheVariants.{DriverFailed}
use Rattle.reg_journal.specs.declared.request.Request.TheVariants.{Check}
use Rattle.reg_core.specs.Stepping.{checking_reply}
use Rattle.reg_core.proofs.OneSteps.{ready_after, check_failed, check_refused, check_taken}
use Rattle.reg_core.proofs.core_state.Core.begin_check.Goals as goal

pub returns-in-Ok-clause-step : goal.returns-in-Ok-clause-step
returns-in-Ok-clause-step g c = λ db J s. check_taken db J c.args.name.now c.args.chan.now c.in-Ok.length_ms c.args.self.now c.launch_check.new.self _ _ s (c.in-Ok.ensures.check db J s)

pub returns-in-Ok-clause-ready : goal.returns-in-Ok-clause-ready
returns-in-Ok-clause-ready g c = ready_after (Check c.args.name.now c.args.chan.now) c.args.self.now c.launch_check.new.self _ _ (checking_reply (Ok c.in-Ok.length_ms)) c.requires.ready (λ db J s. check_taken db J c.args.name.now c.args.chan.now c.in-Ok.length_ms c.args.self.now c.launch_check.new.self _ _ s (c.in-Ok.ensures.check db J s))

pub returns-in-Err-Refused-clause-step : goal.returns-in-Err-Refused-clause-step
returns-in-Err-Refused-clause-step g c = λ db J s. let (cause, same, same') = rw c.in-Err-Refused.field-0-is at (c.in-Err-Refused.ensures.check db J s) in check_refused db J c.args.name.now c.args.chan.now c.in-Err-Refused.refusal c.args.self.now c.launch_check.new.self _ _ s cause same same'

pub returns-in-Err-Refused-clause-ready : goal.returns-in-Err-Refused-clause-ready
returns-in-Err-Refused-clause-ready g c = ready_after (Check c.args.name.now c.args.chan.now) c.args.self.now c.launch_check.new.self _ _ (checking_reply (Err c.in-Err-Refused.refusal)) c.requires.ready (λ db J s. let (cause, same, same') = rw c.in-Err-Refused.field-0-is at (c.in-Err-Refused.ensures.check db J s) in check_refused db J c.args.name.now c.args.chan.now c.in-Err-Refused.refusal c.args.self.now c.launch_check.new.self _ _ s cause same same')

pub returns-in-Err-Driver-clause-step : goal.returns-in-Err-Driver-clause-step
returns-in-Err-Driver-clause-step g c = λ db J s. check_failed db J c.args.name.now c.args.chan.now c.args.self.now c.launch_check.new.self _ _ s (rw c.in-Err-Driver.field-0-is at (c.in-Err-Driver.ensures.check db J s))

pub returns-in-Err-Driver-clause-ready : goal.returns-in-Err-Driver-clause-ready
returns-in-Err-Driver-clause-ready g c = ready_after (Check c.args.name.now c.args.chan.now) c.args.self.now c.launch_check.new.self _ _ (checking_reply (Err DriverFailed)) c.requires.ready (λ db J s. check_failed db J c.args.name.now c.args.chan.now c.args.self.now c.launch_check.new.self _ _ s (rw c.in-Err-Driver.field-0-is at (c.in-Err-Driver.ensures.check db J s)))
