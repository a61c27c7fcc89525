use Rattle.dfs_states.specs.Calls.{Advance}
use Rattle.dfs_states.specs.StandsFor.{AreChecks}
use Rattle.dfs_states.specs.inner.Steps.{PlaceFollows}
use Rattle.dfs_states.proofs.Each.{follows_more}
use Rattle.dfs_states.proofs.place.advance_each.Goals as goal

pub loop-place-preserved : goal.loop-place-preserved
loop-place-preserved c =
    follows_more (PlaceFollows (λ opening calls. AreChecks c.args.checks.now calls) (Advance c.args.now)) c.loop-place.place-index c.args.places.now c.loop-place.places _ c.after_advance.result
    c.loop-place-test.true c.after_advance.ensures c.loop-place.invariant
