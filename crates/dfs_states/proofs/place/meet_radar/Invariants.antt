use Rattle.std.proofs.Common.{◌≡◌}
use Rattle.dfs_states.specs.Calls.{Radar, moment_of}
use Rattle.dfs_states.specs.inner.Steps.{PlaceFollows}
use Rattle.dfs_states.proofs.Each.{FollowsBelow}
use Rattle.dfs_states.proofs.place.meet_radar.Given as goal

abbrev pub invariant-loop-place : goal.invariant-loop-place
invariant-loop-place l = FollowsBelow (PlaceFollows (λ opening calls. moment_of calls ≡ l.now) (Radar l.c)) l.place-index l.initial.places l.places
