use Rattle.std.proofs.Common.{rules}
use Rattle.dfs_states.proofs.moments.later.Goals as goal

pub returns-in-Some-Some : goal.returns-in-Some-Some
returns-in-Some-Some c = search rules
