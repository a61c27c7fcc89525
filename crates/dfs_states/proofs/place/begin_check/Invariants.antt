use Rattle.std.proofs.Common.{◌≡◌}
use Rattle.dfs_states.specs.Calls.{Begin, moment_of}
use Rattle.dfs_states.specs.inner.Steps.{PlaceFollows}
use Rattle.dfs_states.proofs.Each.{FollowsBelow}
use Rattle.dfs_states.proofs.place.begin_check.Given as goal

abbrev pub invariant-loop-place : goal.invariant-loop-place
invariant-loop-place l = FollowsBelow (PlaceFollows (λ opening calls. moment_of calls ≡ l.now) (Begin l.slot l.c l.length_ms)) l.place-index l.initial.places l.places
