use Rattle.std.proofs.Common.{◌≡◌}
use Rattle.dfs_states.specs.Calls.{Radar, moment_of}
use Rattle.dfs_states.specs.inner.Steps.{PlaceFollows}
use Rattle.dfs_states.proofs.Each.{follows_more}
use Rattle.dfs_states.proofs.place.meet_radar.Goals as goal

pub loop-place-preserved : goal.loop-place-preserved
loop-place-preserved c =
    follows_more (PlaceFollows (λ opening calls. moment_of calls ≡ c.args.now) (Radar c.args.c.now)) c.loop-place.place-index c.args.places.now c.loop-place.places _ c.after_radar.result
    c.loop-place-test.true c.after_radar.ensures c.loop-place.invariant
