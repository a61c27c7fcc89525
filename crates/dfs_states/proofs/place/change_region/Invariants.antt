use Rattle.dfs_states.specs.Calls.{RegionChanged}
use Rattle.dfs_states.specs.inner.Steps.{PlaceFollows}
use Rattle.dfs_states.proofs.Each.{FollowsBelow}
use Rattle.dfs_states.proofs.place.change_region.Given as goal

abbrev pub invariant-loop-place : goal.invariant-loop-place
invariant-loop-place l = FollowsBelow (PlaceFollows (λ opening calls. Unit {0}) (RegionChanged l.lasts)) l.place-index l.initial.places l.places
