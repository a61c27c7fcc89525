use Rattle.std.proofs.Common.{refl}
use Rattle.dfs_states.proofs.Places.{place_advanced}
use Rattle.dfs_states.proofs.place.Place.after_advance.Goals as goal

pub returns : goal.returns
returns c = record {
  khz = refl;
  stands = λ opening calls due are is.
      place_advanced opening c.args.now calls c.args.checks.now c.args.self.now c.latest_end.result due are c.latest_end.ensures is;
}
