use Rattle.std.proofs.Common.{sym}
use Rattle.reg_core.proofs.core_state.Core.answer.Goals as goal

pub returns-in-Element-clause-step : goal.returns-in-Element-clause-step
returns-in-Element-clause-step g c = rw c.in-Element.is (rw (sym c.as_slice.ensures.items) c.step_element.ensures.step)

pub returns-in-UserHint-clause-step : goal.returns-in-UserHint-clause-step
returns-in-UserHint-clause-step g c = rw c.in-UserHint.is c.step_user_hint.ensures.step

pub returns-in-Radar-clause-step : goal.returns-in-Radar-clause-step
returns-in-Radar-clause-step g c = λ db J s. rw (c.in-Radar.is, c.swept.ensures) (c.radar.ensures.step db J s)

pub returns-in-Start-clause-step : goal.returns-in-Start-clause-step
returns-in-Start-clause-step g c = λ db J s. rw (c.in-Start.is, c.started.ensures) (c.start.ensures.step db J s)

pub returns-in-Check-clause-step : goal.returns-in-Check-clause-step
returns-in-Check-clause-step g c = λ db J s. rw (c.in-Check.is, c.checking.ensures) (c.begin_check.ensures.step db J s)

pub returns-in-Stop-clause-step : goal.returns-in-Stop-clause-step
returns-in-Stop-clause-step g c = λ db J s. rw (c.in-Stop.is, c.done-in-Stop.ensures) (c.stop.ensures.step db J s)

pub returns-in-At-clause-step : goal.returns-in-At-clause-step
returns-in-At-clause-step g c = λ db J s. rw (c.in-At.is, c.done.ensures) (c.at.ensures.step db J _ s)

pub returns-in-RadioRules-clause-step : goal.returns-in-RadioRules-clause-step
returns-in-RadioRules-clause-step g c = rw c.in-RadioRules.is c.step_radio_rules.ensures.step

pub returns-in-DriverHint-clause-step : goal.returns-in-DriverHint-clause-step
returns-in-DriverHint-clause-step g c = rw c.in-DriverHint.is c.step_driver_hint.ensures.step

pub returns-in-IfaceDel-clause-step : goal.returns-in-IfaceDel-clause-step
returns-in-IfaceDel-clause-step g c = λ db J s. rw c.in-IfaceDel.is (c.step_iface_del.ensures.step db J s)

pub returns-in-RadioDel-clause-step : goal.returns-in-RadioDel-clause-step
returns-in-RadioDel-clause-step g c = λ db J s. rw c.in-RadioDel.is (c.step_radio_del.ensures.step db J s)

pub returns-in-SetType-clause-step : goal.returns-in-SetType-clause-step
returns-in-SetType-clause-step g c = λ db J s. rw c.in-SetType.is (c.step_set_type.ensures.step db J _ s)

pub returns-in-SetPower-clause-step : goal.returns-in-SetPower-clause-step
returns-in-SetPower-clause-step g c = λ db J s. rw (c.in-SetPower.is, c.swept-in-SetPower.ensures) (c.set_power.ensures.step db J s)
