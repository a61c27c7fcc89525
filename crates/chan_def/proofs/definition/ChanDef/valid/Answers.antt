use Rattle.std.proofs.Common.{rules}
use Rattle.chan_def.proofs.definition.ChanDef.valid.Goals as goal

pub returns-in-None : goal.returns-in-None
returns-in-None c = search rules

pub returns-then-ne : goal.returns-then-ne
returns-then-ne c = search rules

pub returns-else-ne : goal.returns-else-ne
returns-else-ne c = search rules
