use Rattle.dfs_states.proofs.Asked.{places_more}
use Rattle.dfs_states.proofs.book.unused_places.Goals as goal

pub loop-khz-preserved : goal.loop-khz-preserved
loop-khz-preserved c =
    rw c.in_ok-push.ensures.items
    (places_more c.args.channels.now c.loop-khz.places.items c.loop-khz.khz-index _ c.unused.result
    c.loop-khz-test.true c.unused.ensures.khz c.unused.ensures.place c.loop-khz.invariant)
