use Rattle.dfs_states.proofs.Places.{place_unused, unset}
use Rattle.dfs_states.proofs.place.Place.unused.Goals as goal

pub returns-clause-place : goal.returns-clause-place
returns-clause-place c = place_unused c.args.khz unset
