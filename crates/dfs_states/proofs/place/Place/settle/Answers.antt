use Rattle.std.proofs.Common.{refl}
use Rattle.dfs_states.specs.inner.Steps.{IsWithin}
use Rattle.dfs_states.proofs.Beside.{place_beside, used_after, used_before}
use Rattle.dfs_states.proofs.place.Place.settle.Goals as goal

pub returns-then-not-holds : goal.returns-then-not-holds
returns-then-not-holds c = λ slot chan reach. record {
  khz = refl;
  stands = λ opening calls due present is.
      let khz = c.args.self.now.khz in
      let beside : IsWithin c.args.reach.now khz → ⊥ = λ within. let held = c.if-not-holds.ensures.1 within in cc in
      place_beside opening slot chan calls c.args.self.now due (used_before c.args.operations.now slot chan c.args.reach.now calls khz reach beside)
      (used_after c.args.operations.now slot chan c.args.reach.now calls khz present.operating reach beside) is;
}

pub returns : goal.returns
returns c = λ slot chan reach. c.settled.ensures slot chan
