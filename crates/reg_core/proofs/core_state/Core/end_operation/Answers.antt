use Rattle.std.proofs.Common.{refl}
use Rattle.reg_core.proofs.StartsDone.{stops_done}
use Rattle.reg_core.proofs.core_state.Core.end_operation.Goals as goal

pub returns : goal.returns
returns g c = record {
  stop = λ db J s.
      stops_done db J c.args.name.now c.args.kind c.in_ok-interface.interface c.args.self.now c.commit.new.self _ _ s (c.in_ok-interface.ensures.stop db J s)
      (λ x s may is. c.commit.ensures.kept db J x s may is) c.tell.ensures.told;
}
