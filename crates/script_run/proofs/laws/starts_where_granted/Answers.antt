use Rattle.script_run.proofs.Granting.{starts_where_granted}
use Rattle.script_run.proofs.laws.starts_where_granted.Goals as goal

pub returns : goal.returns
returns c = starts_where_granted
