use Rattle.std.proofs.Common.{refl}
use Rattle.dfs_states.proofs.Places.{place_apart, place_met}
use Rattle.dfs_states.proofs.place.Place.after_radar.Goals as goal

pub returns-then-not-covers : goal.returns-then-not-covers
returns-then-not-covers c = record {
  khz = refl;
  stands = λ opening calls due now is.
      place_apart opening c.args.c.now calls c.args.self.now due (λ covered. let found = c.if-not-covers.ensures.covered.1 covered in cc) is;
}

pub returns : goal.returns
returns c = record {
  khz = refl;
  stands = λ opening calls due now is.
      place_met opening c.args.c.now c.args.now calls c.args.self.now c.later.result now (c.if-not-covers.ensures.covered.0 refl) c.later.ensures is;
}
