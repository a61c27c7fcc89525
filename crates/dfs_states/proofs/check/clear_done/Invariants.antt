use Rattle.dfs_states.specs.inner.Steps.{CheckFollows}
use Rattle.dfs_states.proofs.Each.{FollowsBelow}
use Rattle.dfs_states.proofs.check.clear_done.Given as goal

abbrev pub invariant-loop-check : goal.invariant-loop-check
invariant-loop-check l = FollowsBelow (CheckFollows l.now) l.check-index l.initial.checks l.checks
