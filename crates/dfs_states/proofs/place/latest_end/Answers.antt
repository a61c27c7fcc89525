use Rattle.std.proofs.Common.{arith}
use Rattle.dfs_states.proofs.Ended.{latest_more, latest_all}
use Rattle.dfs_states.proofs.place.latest_end.Goals as goal

pub loop-slot-preserved : goal.loop-slot-preserved
loop-slot-preserved c =
    latest_more c.loop-slot.slot c.args.now c.args.counts.now c.args.checks.now c.args.since c.loop-slot.latest c.end_of.result c.later-latest.result
    c.end_of.ensures c.later-latest.ensures c.loop-slot.invariant

pub returns : goal.returns
returns c =
    latest_all c.loop-slot.slot c.args.now c.args.counts.now c.args.checks.now c.args.since c.loop-slot.latest (omega arith) c.loop-slot.invariant
