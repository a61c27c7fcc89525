use Rattle.dfs_states.specs.Calls.{Advance}
use Rattle.dfs_states.specs.StandsFor.{AreChecks}
use Rattle.dfs_states.specs.inner.Steps.{PlaceFollows}
use Rattle.dfs_states.proofs.Each.{FollowsBelow}
use Rattle.dfs_states.proofs.place.advance_each.Given as goal

abbrev pub invariant-loop-place : goal.invariant-loop-place
invariant-loop-place l = FollowsBelow (PlaceFollows (λ opening calls. AreChecks l.checks calls) (Advance l.now)) l.place-index l.initial.places l.places
