use Rattle.reg_core.proofs.Settings.{keeps_after_setting}
use Rattle.reg_core.proofs.core_state.Core.keep_setting.Goals as goal

pub returns : goal.returns
returns c = record { kept = λ db J s due. keeps_after_setting db J c.args.index c.args.setting c.args.self.now c.set_setting.new.self s due c.set_setting.ensures.setting }
