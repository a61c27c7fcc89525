use Rattle.reg_core.proofs.Removed.{keeps_after_end}
use Rattle.reg_core.proofs.core_state.Core.end_iface.Goals as goal

pub returns : goal.returns
returns c = record {
  kept = λ db J x s is due. keeps_after_end db J c.args.interface.now.index c.args.self.now c.remove.new.self s due c.remove.ensures.others;
}
