use Rattle.chan_flags.proofs.Existing.{some_verdict}
use Rattle.chan_flags.proofs.laws.some_verdict.Goals as goal

pub returns : goal.returns
returns c = some_verdict
