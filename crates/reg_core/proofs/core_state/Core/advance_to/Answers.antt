use Rattle.std.proofs.Common.{◌≤◌, subst}
use Rattle.reg_core.proofs.KeptOver.{keeps_after_moment}
use Rattle.reg_core.proofs.core_state.Core.advance_to.Goals as goal

pub returns : goal.returns
returns c = let due = c.in_default.ensures.due in record {
  taken = λ db J s. record {
    free = c.in_default.ensures.first J s.clock;
    keeps = keeps_after_moment db J c.args.self.now c.args.now c.advance_all.new.radios s due.0 due.1
        (c.advance_all.ensures.kept db J s.radios (subst (λ n. n ≤ c.args.now) s.clock due.0, due.1));
  };
}
