use Rattle.reg_core.proofs.Decided.{type_decided}
use Rattle.reg_core.proofs.core_state.Core.step_set_type.Goals as goal

pub returns : goal.returns
returns c = record { step = λ db J row s. rw c.done.ensures (type_decided db J c.args.name.now c.args.kind c.args.self.now c.set_type.new.self row c.set_type.result s (c.set_type.ensures.typed db J s.keeps)) }
