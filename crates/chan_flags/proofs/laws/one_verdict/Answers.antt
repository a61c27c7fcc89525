use Rattle.chan_flags.proofs.OneAnswer.{IsVerdict-unique, IsVerdictBy-unique}
use Rattle.chan_flags.proofs.laws.one_verdict.Goals as goal

pub returns-clause-domains : goal.returns-clause-domains
returns-clause-domains c = IsVerdict-unique

pub returns-clause-records : goal.returns-clause-records
returns-clause-records c = IsVerdictBy-unique
