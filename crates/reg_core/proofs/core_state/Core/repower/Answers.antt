use Rattle.reg_core.proofs.KeptChanges.{keeps_after_power}
use Rattle.reg_core.proofs.core_state.Core.repower.Goals as goal

pub returns : goal.returns
returns c = record {
  kept = λ db J x s is due. keeps_after_power db J c.args.interface.now.index c.args.power_mbm c.args.self.now c.set_power.new.self s due c.set_power.ensures.power;
}
