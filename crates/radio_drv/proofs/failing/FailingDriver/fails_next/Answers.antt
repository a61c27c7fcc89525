use Rattle.std.proofs.Common.{rules}
use Rattle.radio_drv.proofs.failing.FailingDriver.fails_next.Goals as goal

pub returns-clause-fails : goal.returns-clause-fails
returns-clause-fails c = search rules
