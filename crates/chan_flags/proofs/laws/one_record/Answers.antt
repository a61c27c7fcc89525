use Rattle.chan_flags.proofs.OneAnswer.{IsRecord-unique}
use Rattle.chan_flags.proofs.laws.one_record.Goals as goal

pub returns : goal.returns
returns c = IsRecord-unique
