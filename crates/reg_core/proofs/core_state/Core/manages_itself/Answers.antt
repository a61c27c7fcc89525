use Rattle.std.proofs.Common.{refl}
use Rattle.reg_core.proofs.core_state.Core.manages_itself.Goals as goal

pub returns-in-None : goal.returns-in-None
returns-in-None c = λ db J s. (c.in-None.ensures.kept db J s.radios, refl)
