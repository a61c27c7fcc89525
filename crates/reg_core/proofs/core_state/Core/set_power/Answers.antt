use Rattle.reg_journal.specs.declared.request.Request.TheVariants.{SetPower}
use Rattle.reg_core.specs.Stepping.{swept_reply}
use Rattle.reg_core.proofs.Decided.{swept_decided}
use Rattle.reg_core.proofs.OneSteps.{ready_after}
use Rattle.reg_core.proofs.SettingSteps.{power_refused, power_set}
use Rattle.reg_core.proofs.core_state.Core.set_power.Goals as goal

pub returns-clause-step : goal.returns-clause-step
returns-clause-step g c = λ db J s. swept_decided db J (SetPower c.args.name.now c.args.setting) c.args.self.now c.change_setting.new.self _ _ _ _ c.change_setting.result (c.change_setting.ensures.set db J s) c.change_setting.ensures.core_stays c.change_setting.ensures.drivers_stay
    (λ effects is. power_set db J c.args.name.now c.args.setting effects c.args.self.now c.change_setting.new.self _ _ s is)
    (λ e cause same same'. power_refused db J c.args.name.now c.args.setting e c.args.self.now c.change_setting.new.self _ _ s cause same same')

pub returns-clause-ready : goal.returns-clause-ready
returns-clause-ready g c = ready_after (SetPower c.args.name.now c.args.setting) c.args.self.now c.change_setting.new.self _ _ (swept_reply c.change_setting.result) c.requires.ready (λ db J s. swept_decided db J (SetPower c.args.name.now c.args.setting) c.args.self.now c.change_setting.new.self _ _ _ _ c.change_setting.result (c.change_setting.ensures.set db J s) c.change_setting.ensures.core_stays c.change_setting.ensures.drivers_stay
    (λ effects is. power_set db J c.args.name.now c.args.setting effects c.args.self.now c.change_setting.new.self _ _ s is)
    (λ e cause same same'. power_refused db J c.args.name.now c.args.setting e c.args.self.now c.change_setting.new.self _ _ s cause same same'))
