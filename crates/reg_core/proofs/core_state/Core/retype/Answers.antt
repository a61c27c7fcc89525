use Rattle.reg_core.proofs.Settings.{keeps_after_typing}
use Rattle.reg_core.proofs.core_state.Core.retype.Goals as goal

pub returns : goal.returns
returns c = record { kept = λ db J s due. keeps_after_typing db J c.args.index c.args.kind c.args.self.now c.set_kind.new.self s due c.set_kind.ensures.kind }
