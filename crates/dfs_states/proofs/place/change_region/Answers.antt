use Rattle.dfs_states.specs.Calls.{RegionChanged}
use Rattle.dfs_states.specs.inner.Steps.{PlaceFollows}
use Rattle.dfs_states.proofs.Each.{follows_more}
use Rattle.dfs_states.proofs.place.change_region.Goals as goal

pub loop-place-preserved : goal.loop-place-preserved
loop-place-preserved c =
    follows_more (PlaceFollows (λ opening calls. Unit {0}) (RegionChanged c.args.lasts)) c.loop-place.place-index c.args.places.now c.loop-place.places _ c.after_region_change.result
    c.loop-place-test.true c.after_region_change.ensures c.loop-place.invariant
