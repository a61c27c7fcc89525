use Rattle.std.proofs.Common.{refl}
use Rattle.dfs_states.proofs.Places.{place_region}
use Rattle.dfs_states.proofs.place.Place.after_region_change.Goals as goal

pub returns : goal.returns
returns c = record { khz = refl; stands = λ opening calls due told is. place_region opening c.args.lasts calls c.args.self.now is }
