use Rattle.reg_core.proofs.SweptSteps.{indoor_taken}
use Rattle.reg_core.proofs.core_state.Core.step_indoor.Goals as goal

pub returns : goal.returns
returns g c = record { step = λ db J s. indoor_taken db J c.args.on c.set_indoor-effects.result c.args.self.now c.set_indoor-effects.new.self _ _ s (c.set_indoor-effects.ensures.swept db J s) }
