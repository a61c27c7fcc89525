use Rattle.std.proofs.Common.{rules}
use Rattle.radio_drv.proofs.sim.SimDriverDriver.stop.Goals as goal

pub returns-clause-air : goal.returns-clause-air
returns-clause-air c = search rules
