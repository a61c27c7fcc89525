use Rattle.reg_core.proofs.Settings.{retyped}
use Rattle.reg_core.proofs.core_state.Core.set_type.Goals as goal

pub returns : goal.returns
returns c = record {
  typed = λ db J s.
      retyped db J c.args.name.now c.args.kind c.in_ok-index.index c.args.self.now c.retype.new.self s (c.in_ok-index.ensures db J s) (λ s due. c.retype.ensures.kept db J s due);
}
