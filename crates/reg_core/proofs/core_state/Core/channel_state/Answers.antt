use Rattle.reg_core.proofs.core_state.Core.channel_state.Goals as goal

pub returns-in-None : goal.returns-in-None
returns-in-None c = record { state = λ db J s. c.in-None.ensures.kept db J s.keeps.radios }
