use Rattle.std.proofs.Common.{rules}
use Rattle.radio_drv.proofs.sim.SimDriverDriver.begin_check.Goals as goal

pub returns-clause-told : goal.returns-clause-told
returns-clause-told c = search rules
