use Rattle.std.proofs.Common.{inl, refl}
use Rattle.reg_core.proofs.core_state.Core.radar_event_refusal.Goals as goal

pub returns-in_default : goal.returns-in_default
returns-in_default c = λ db J s. inl (c.in_default.ensures.kept db J s.radios, refl)
