use Rattle.std.proofs.Common.{◌≡◌, ℕ, ◌<◌, get_or}
use Rattle.dfs_states.specs.declared.place.Place.{Place}
use Rattle.dfs_states.proofs.place.place_of.Given as goal

abbrev pub invariant-loop-place : goal.invariant-loop-place
invariant-loop-place l = (k : ℕ) (d : Place) → k < l.place-index → (get_or l.places k d).khz ≡ l.khz → ⊥
