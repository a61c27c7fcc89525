use Rattle.dfs_states.proofs.Determined.{state_determined, running_determined}
use Rattle.dfs_states.proofs.laws.answers_are_determined.Goals as goal

pub returns-clause-state : goal.returns-clause-state
returns-clause-state c = state_determined

pub returns-clause-running : goal.returns-clause-running
returns-clause-running c = running_determined
