use Rattle.std.proofs.Common.{ℕ, Option}
use Rattle.chan_def.specs.declared.definition.ChanDef.{ChanDef}
use Rattle.dfs_states.specs.Calls.{Operate}
use Rattle.dfs_states.specs.inner.Steps.{PlaceFollows, IsPresent, IsReach}
use Rattle.dfs_states.proofs.Each.{FollowsBelow}
use Rattle.dfs_states.proofs.place.settle_each.Given as goal

abbrev pub invariant-loop-place : goal.invariant-loop-place
invariant-loop-place l =
    (slot : ℕ) (chan : Option ChanDef) → IsReach l.operations slot chan l.reach → FollowsBelow (PlaceFollows (IsPresent l.now l.lasts l.operations) (Operate slot chan)) l.place-index l.initial.places l.places
