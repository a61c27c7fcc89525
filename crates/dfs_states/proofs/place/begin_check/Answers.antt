use Rattle.std.proofs.Common.{◌≡◌}
use Rattle.dfs_states.specs.Calls.{Begin, moment_of}
use Rattle.dfs_states.specs.inner.Steps.{PlaceFollows}
use Rattle.dfs_states.proofs.Each.{follows_more}
use Rattle.dfs_states.proofs.place.begin_check.Goals as goal

pub loop-place-preserved : goal.loop-place-preserved
loop-place-preserved c =
    follows_more (PlaceFollows (λ opening calls. moment_of calls ≡ c.args.now) (Begin c.args.slot c.args.c.now c.args.length_ms)) c.loop-place.place-index c.args.places.now c.loop-place.places _ c.after_begin.result
    c.loop-place-test.true c.after_begin.ensures c.loop-place.invariant
