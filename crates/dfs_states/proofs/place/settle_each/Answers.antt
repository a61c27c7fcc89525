use Rattle.std.proofs.Common.{arith}
use Rattle.dfs_states.specs.Calls.{Operate}
use Rattle.dfs_states.specs.inner.Steps.{PlaceFollows, IsPresent}
use Rattle.dfs_states.proofs.Each.{follows_more, follows_all}
use Rattle.dfs_states.proofs.place.settle_each.Goals as goal

pub loop-place-preserved : goal.loop-place-preserved
loop-place-preserved c = λ slot chan reach.
    follows_more (PlaceFollows (IsPresent c.args.now c.args.lasts c.args.operations.now) (Operate slot chan)) c.loop-place.place-index c.args.places.now c.loop-place.places _
    c.settle.new.self c.loop-place-test.true (c.settle.ensures slot chan reach) (c.loop-place.invariant slot chan reach)

pub returns : goal.returns
returns c = λ slot chan reach.
    follows_all (PlaceFollows (IsPresent c.args.now c.args.lasts c.args.operations.now) (Operate slot chan)) c.loop-place.place-index c.args.places.now c.loop-place.places
    (omega arith) (c.loop-place.invariant slot chan reach)
