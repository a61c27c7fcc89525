use Rattle.dfs_states.proofs.Ended.{IsLatestBelow}
use Rattle.dfs_states.proofs.place.latest_end.Given as goal

abbrev pub invariant-loop-slot : goal.invariant-loop-slot
invariant-loop-slot l = IsLatestBelow l.slot l.now l.counts l.checks l.fn.since l.latest
