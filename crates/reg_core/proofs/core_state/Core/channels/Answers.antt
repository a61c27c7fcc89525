use Rattle.std.proofs.Common.{refl}
use Rattle.reg_core.proofs.core_state.Core.channels.Goals as goal

pub returns-in_default : goal.returns-in_default
returns-in_default c = record { shown = λ db J s. (c.in_default.ensures.kept db J s.radios, refl) }
