use Rattle.reg_core.proofs.KeptChanges.{keeps_after_operating}
use Rattle.reg_core.proofs.core_state.Core.operate.Goals as goal

pub returns : goal.returns
returns c = record {
  kept = λ db J x f s is tells due.
      keeps_after_operating db J x f c.args.interface.now c.args.operation c.args.self.now c.set_operation.new.self c.operate_at.new.radios s is tells due
      (c.operate_at.ensures.kept db J x f s.radios is tells due) c.set_operation.ensures.operation;
}
