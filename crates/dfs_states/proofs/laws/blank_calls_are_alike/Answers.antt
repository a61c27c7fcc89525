use Rattle.dfs_states.proofs.Blank.{blank_alike}
use Rattle.dfs_states.proofs.laws.blank_calls_are_alike.Goals as goal

pub returns : goal.returns
returns c = record { alike = blank_alike }
