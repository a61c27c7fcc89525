use Rattle.std.proofs.Common.{arith}
use Rattle.dfs_states.specs.inner.Steps.{CheckFollows}
use Rattle.dfs_states.proofs.Each.{follows_more, follows_all}
use Rattle.dfs_states.proofs.check.clear_done.Goals as goal

pub loop-check-preserved : goal.loop-check-preserved
loop-check-preserved c =
    follows_more (CheckFollows c.args.now) c.loop-check.check-index c.args.checks.now c.loop-check.checks _ c.unless_done.result
    c.loop-check-test.true c.unless_done.ensures c.loop-check.invariant

pub returns : goal.returns
returns c = follows_all (CheckFollows c.args.now) c.loop-check.check-index c.args.checks.now c.loop-check.checks (omega arith) c.loop-check.invariant
